-- A fault, and a leave, as the log tells them.
use Rattle.std.proofs.Common.{◌≡◌, ℕ, ◌+◌, Bool, true, false, ◌&&◌, ◌==◌, not, List, [], ◌∷◌, ◌++◌, refl, sym, ap, ◌∙◌, subst, arith, rules, Result, Ok, Err, if◌then◌else◌}
use Rattle.nd_base.specs.declared.numbers.Addr.{Addr}
use Rattle.nd_base.specs.declared.numbers.Breach.{Breach}
use Rattle.nd_base.specs.declared.numbers.Slot.{Slot}
use Rattle.nd_base.specs.declared.numbers.Slot.TheVariants.{Import, Leave}
use Rattle.nd_base.specs.declared.numbers.Status.{Status}
use Rattle.ia32_step.specs.Registers.{general_of}
use Rattle.ia32_step.specs.Machine.{Machine, machine, Outcome, Trapped, Moved, Faulted, outcome, answer_to}
use Rattle.ia32_step.specs.declared.FaultKind.{FaultKind}
use Rattle.ia32_step.specs.declared.Stepped.TheVariants.{Trap, Fault}
use Rattle.irql_lock.specs.LockState.{LockState, holds_any, context_of}
use Rattle.irql_lock.specs.LockMoves.{allow, has_come_back, leave_rule, moved}
use Rattle.irql_lock.specs.LockMoves as levels
use Rattle.log_fields.specs.declared.field_values.FaultKind.{FaultKind as LoggedKind}
use Rattle.call_log.specs.declared.entry.Entry.{Entry}
use Rattle.call_log.specs.declared.entry.Entry.TheVariants as entries
use Rattle.legal_run.specs.State.{State, Gone, Stops}
use Rattle.legal_run.specs.Calls.{Drawn, Draws, Breaking, leaves, leaves_even}
use Rattle.legal_run.specs.Laws.{RunLaws}
use Rattle.legal_run.specs.Run.{Run, Reaches, faults_as, is_kind, is_at_leave}
use Rattle.legal_run.specs.After.{after, breach}
use Rattle.entry_run.specs.Alone.{shown}
use Rattle.entry_run.specs.Laws.{EntryLaws, Going, going, first}
use Rattle.entry_session.specs.declared.session.Ending.TheVariants.{Left, Faulting}
use Rattle.entry_session.specs.declared.session.Session.{Session}
use Rattle.entry_session.specs.Session.{Setting, inputs, going_of, machine_of, HasEnded}
use Rattle.entry_session.proofs.Reaching.{goes}

-- ---- what a step answers

pub trapped : (o : Outcome) (slot : Slot) → answer_to o ≡ Trap slot → o ≡ Trapped slot
trapped (Trapped slot') slot e = cc
trapped (Moved m) slot e = cc
trapped (Faulted kind at) slot e = cc

pub faulted : (o : Outcome) (kind : FaultKind) (at : Addr) (logged : LoggedKind) → answer_to o ≡ Fault kind at → is_kind kind logged ≡ true → faults_as o logged at.0 ≡ true
faulted (Trapped slot') kind at logged e is = cc
faulted (Moved m) kind at logged e is = cc
faulted (Faulted kind' at') kind at logged e is =
    let same : ◌≡◌ {A = Outcome} (Faulted kind' at') (Faulted kind at) = cc in
    ap (λ (o : Outcome). faults_as o logged at.0) same ∙ both is (own at.0)
  where
    both : {x y : Bool} → x ≡ true → y ≡ true → (x && y) ≡ true
    both one other = rw (one, other) refl

    own : (n : ℕ) → (n == n) ≡ true
    own n = search rules

-- ---- a fault

pub fault_logged : RunLaws → EntryLaws → (c : Setting) (s t : Session) (kind : LoggedKind) (at : Addr) → Reaches (inputs c) s.log.entries (shown (going (going_of s)))
    → faults_as (outcome (machine_of s)) kind at.0 ≡ true → t.log.entries ≡ s.log.entries ++ entries.Fault first kind at ∷ [] → t.charged ≡ s.charged → HasEnded c t Faulting
fault_logged runs laws c s t kind at here faults is same =
    let may = laws.fault c.image c.slots c.budget c.layout (going_of s) kind at faults in
    let there = goes runs (inputs c) s.log.entries t.log.entries (entries.Fault first kind at) (shown (going (going_of s))) _ here may refl is in
    record {
      whole = record { run = there.run; ends = (record { 0 = 8 }, ap (λ (t : State). t.next) there.state) };
      sum = same ∙ sym (ap (λ (t : State). t.charged) there.state);
    }

-- ---- a leave

allowed : {A : Type 0} (b : Bool) (broken : Breach) (x y : A) → ◌≡◌ {A = Result A Breach} (allow b broken x) (Ok y) → b ≡ true
allowed true broken x y e = refl
allowed false broken x y e = cc

refused : {A : Type 0} (b : Bool) (broken other : Breach) (x : A) → ◌≡◌ {A = Result A Breach} (allow b broken x) (Err other) → b ≡ false
refused true broken other x e = cc
refused false broken other x e = refl

drawn_is : EntryLaws → (c : Setting) (g : Going) (eax : ℕ) (b : Bool) → leaves_even (shown (going g)) first ≡ b
    → leaves (inputs c) (shown (going g)) first eax ≡ (if b then Draws [] else Breaking 7)
drawn_is laws c g eax b is = laws.even c.image c.slots c.budget c.layout g eax ∙ ap (λ (x : Bool). if x then Draws [] else Breaking 7) is

left_gone : (c : Setting) (g : Going) (eax : ℕ) → leaves (inputs c) (shown (going g)) first eax ≡ Draws [] → (after (inputs c) (shown (going g)) (entries.Leave first eax)).entrance ≡ Gone eax
left_gone c g eax is = rw is refl

left_broken : (c : Setting) (g : Going) (eax : ℕ) → leaves (inputs c) (shown (going g)) first eax ≡ Breaking 7 → (after (inputs c) (shown (going g)) (entries.Leave first eax)).next ≡ Stops (breach 7) []
left_broken c g eax is = rw is refl

left_charged : (c : Setting) (g : Going) (eax : ℕ) (d : Drawn) → leaves (inputs c) (shown (going g)) first eax ≡ d → (after (inputs c) (shown (going g)) (entries.Leave first eax)).charged ≡ g.charged
left_charged c g eax (Draws es) is = rw is refl
left_charged c g eax (Breaking rule) is = rw is refl

leave_reaches : RunLaws → EntryLaws → (c : Setting) (s t : Session) (eax : ℕ) → Reaches (inputs c) s.log.entries (shown (going (going_of s)))
    → outcome (machine_of s) ≡ Trapped Leave → general_of s.regs 0 ≡ eax → t.log.entries ≡ s.log.entries ++ entries.Leave first eax ∷ []
    → Reaches (inputs c) t.log.entries (after (inputs c) (shown (going (going_of s))) (entries.Leave first eax))
leave_reaches runs laws c s t eax here at is logged =
    let may = laws.leave c.image c.slots c.budget c.layout (going_of s) eax (ap is_at_leave at) is in
    goes runs (inputs c) s.log.entries t.log.entries (entries.Leave first eax) (shown (going (going_of s))) _ here may refl logged

pub left_evenly : RunLaws → EntryLaws → (c : Setting) (s t : Session) (eax : ℕ) (l : LockState) → Reaches (inputs c) s.log.entries (shown (going (going_of s)))
    → outcome (machine_of s) ≡ Trapped Leave → general_of s.regs 0 ≡ eax → t.log.entries ≡ s.log.entries ++ entries.Leave first eax ∷ [] → t.charged ≡ s.charged
    → moved s.world.levels (levels.Leave first) ≡ Ok l → HasEnded c t (Left (record { 0 = eax }))
left_evenly runs laws c s t eax l here at is logged same moves =
    let there = leave_reaches runs laws c s t eax here at is logged in
    let draws = drawn_is laws c (going_of s) eax true (allowed _ _ _ _ moves) in
    record {
      whole = record { run = there.run; ends = ap (λ (u : State). u.entrance) there.state ∙ left_gone c (going_of s) eax draws };
      sum = same ∙ sym (ap (λ (u : State). u.charged) there.state ∙ left_charged c (going_of s) eax (Draws []) draws);
    }

pub left_unevenly : RunLaws → EntryLaws → (c : Setting) (s t : Session) (eax : ℕ) (broken : Breach) → Reaches (inputs c) s.log.entries (shown (going (going_of s)))
    → outcome (machine_of s) ≡ Trapped Leave → general_of s.regs 0 ≡ eax → t.log.entries ≡ s.log.entries ++ entries.Leave first eax ∷ [] → t.charged ≡ s.charged
    → moved s.world.levels (levels.Leave first) ≡ Err broken → HasEnded c t Faulting
left_unevenly runs laws c s t eax broken here at is logged same moves =
    let there = leave_reaches runs laws c s t eax here at is logged in
    let draws = drawn_is laws c (going_of s) eax false (refused _ _ _ _ moves) in
    record {
      whole = record { run = there.run; ends = (record { 0 = 7 }, ap (λ (u : State). u.next) there.state ∙ left_broken c (going_of s) eax draws) };
      sum = same ∙ sym (ap (λ (u : State). u.charged) there.state ∙ left_charged c (going_of s) eax (Breaking 7) draws);
    }
