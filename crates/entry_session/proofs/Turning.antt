-- A turn, as the log tells it.
use Rattle.std.proofs.Common.{◌≡◌, ◌≢◌, ℕ, zero, suc, ◌+◌, ◌-◌, ◌<◌, ◌≤◌, min, Bool, true, false, ◌&&◌, ◌||◌, ◌==◌, not, List, [], ◌∷◌, ◌++◌, refl, sym, ap, ◌∙◌, subst, arith, inl, inr}
use Rattle.std.specs.Prelude.{nat_le, nat_lt}
use Rattle.std.proofs.lemmas.Bool.{cases_lt}
use Rattle.std.proofs.lemmas.Bool.Decides.{nat_tests}
use Rattle.nd_mem.specs.Space.{Space}
use Rattle.ia32_step.specs.Registers.{Registers}
use Rattle.ia32_step.specs.Machine.{Machine, machine, Outcome, Trapped, Moved, Faulted, outcome, answer_to}
use Rattle.ia32_step.specs.declared.Stepped.{Stepped}
use Rattle.ia32_step.specs.declared.Stepped.TheVariants.{Went}
use Rattle.dpc_timer.specs.ClockState.{ClockState, Rise, moved}
use Rattle.log_fields.specs.declared.field_values.Cause.TheVariants as cause
use Rattle.log_fields.specs.declared.field_values.Handler.TheVariants.{CancelSend, PnpEvent}
use Rattle.call_log.specs.declared.entry.Entry.{Entry}
use Rattle.call_log.specs.declared.entry.Entry.TheVariants as entries
use Rattle.guest_world.specs.declared.world.World.{World}
use Rattle.legal_run.specs.State.{Next, Stops}
use Rattle.legal_run.specs.Laws.{RunLaws}
use Rattle.legal_run.specs.Run.{Reaches, all_below, goes_on, is_moved, is_turn}
use Rattle.legal_run.specs.After.{turned, reaches, spent}
use Rattle.entry_run.specs.Alone.{Kept, shown}
use Rattle.entry_run.specs.Laws.{EntryLaws, Going, going, first, behind_turn, has_handler_in}
use Rattle.entry_session.specs.declared.session.Session.{Session}
use Rattle.entry_session.specs.Session.{Setting, inputs, going_of, machine_of}
use Rattle.entry_session.proofs.Reaching.{goes, reached}

-- ---- a turn is one

both : {x y : Bool} → x ≡ true → y ≡ true → (x && y) ≡ true
both one other = rw (one, other) refl

all_are : (test : ℕ → Bool) (n : ℕ) → ((k : ℕ) → k < n → test k ≡ true) → all_below test n ≡ true
unfolding all_below
all_are test zero h = refl
all_are test (suc n) h = both (all_are test n (λ k less. h k (omega arith))) (h n (omega arith))

unmoved : (o : Outcome) (last : Stepped) → last ≢ Went → answer_to o ≡ last → is_moved o ≡ false
unmoved (Moved m) last other e = absurd (other (sym e))
unmoved (Trapped slot) last other e = refl
unmoved (Faulted kind address) last other e = refl

below : (a b : ℕ) → a < b → nat_lt a b ≡ true
below a b h = grind (arith, nat_tests)

at_most : (a b : ℕ) → a ≤ b → nat_le a b ≡ true
at_most a b h = grind (arith, nat_tests)

above : (a b : ℕ) → b < a → nat_le a b ≡ false
above a b h = grind (arith, nat_tests)

-- so many instructions, at most as many as are left to the budget, and no fewer than may be made
pub turns : (c : Setting) (g : Going) (n most : ℕ) (m : Machine) (last : Stepped) → 0 < n → n ≤ most → most ≡ min (c.budget - g.charged) 64 → g.charged < c.budget
    → ((k : ℕ) → k < n → is_moved (outcome (turned k (machine g.registers g.world.memory))) ≡ true) → m ≡ turned n (machine g.registers g.world.memory)
    → (last ≡ Went → n ≡ most) → (last ≢ Went → answer_to (outcome m) ≡ last) → is_turn (inputs c) (shown (going g)) first n ≡ true
turns c g n most m last some within is_most left moves made whole ending =
    both (below 0 n some) (both (at_most n 64 (omega arith)) (both (all_are _ n each) ends))
  where
    each : (k : ℕ) → k < n → (goes_on (shown (going g)) first k && not (reaches (inputs c) (shown (going g)) first k)) ≡ true
    each k less = let under : reaches (inputs c) (shown (going g)) first k ≡ false = reached c (going g) k ∙ above c.budget (g.charged + k) (omega arith) in both (moves k less) (ap not under)

    same : (a b : ℕ) → a ≡ b → (a == b) ≡ true
    same a b h = grind (arith, nat_tests)

    one : (x y : Bool) → x ≡ true → (x || y) ≡ true
    one x y h = rw h refl

    other : (x y : Bool) → y ≡ true → (x || y) ≡ true
    other true y h = refl
    other false y h = h

    -- it was the longest one, or the budget is reached, or the next instruction has no result
    ends : ((n == 64) || (reaches (inputs c) (shown (going g)) first n || not (goes_on (shown (going g)) first n))) ≡ true
    ends = elim (cases_lt n 64) [
      | inl short ↦ other (n == 64) _ (elim (cases_lt (g.charged + n) c.budget) [
        | inl under ↦
            let stays : last ≢ Went = λ went. let all : n ≡ most = whole went in omega arith in
            let is : answer_to (outcome (turned n (machine g.registers g.world.memory))) ≡ last = subst (λ (x : Machine). answer_to (outcome x) ≡ last) made (ending stays) in
            other (reaches (inputs c) (shown (going g)) first n) _ (ap not (unmoved (outcome (turned n (machine g.registers g.world.memory))) last stays is))
        | inr over ↦ one _ _ (reached c (going g) n ∙ at_most c.budget (g.charged + n) over)
      ])
      | inr long ↦ one _ _ (same n 64 (omega arith))
    ]

-- ---- what is kept behind it

-- a session with these registers, this memory, this clock and this charge
abbrev pub with_parts : World → Machine → ClockState → ℕ → Going
with_parts w m clock charged =
    let after = record w { memory = m.memory; clock = clock } in
    record { world = after; registers = m.registers; charged = charged; cancelsend = has_handler_in after CancelSend; pnpevent = has_handler_in after PnpEvent }

-- what is kept behind a turn, but for what must stand next
abbrev pub gone : Session → ℕ → Going
gone s n = with_parts s.world (turned n (machine_of s)) (moved s.world.clock (Rise n)) (s.charged + n)

behind_is : (c : Setting) (s : Session) (n : ℕ) (b : Bool) → nat_le c.budget (s.charged + n) ≡ b
    → behind_turn (inputs c) (going_of s) n ≡ record (going (gone s n)) { next = spent (inputs c) (shown (going (going_of s))) first b }
behind_is c s n b is = ap (λ (x : Bool). record (going (gone s n)) { next = spent (inputs c) (shown (going (going_of s))) first x }) (reached c (going (going_of s)) n ∙ is)

pub parts_are : (w : World) (m m' : Machine) (k k' : ClockState) (n n' : ℕ) → m ≡ m' → k ≡ k' → n ≡ n' → with_parts w m k n ≡ with_parts w m' k' n'
parts_are w m m' k k' n n' one two three =
    ap (λ (x : Machine). with_parts w x k n) one ∙ ap (λ (x : ClockState). with_parts w m' x n) two ∙ ap (λ (x : ℕ). with_parts w m' k' x) three

-- a turn of none changes nothing
pub none_turned : (c : Setting) (s : Session) (m : Machine) (n : ℕ) (log : List Entry) → n ≡ 0 → m ≡ turned n (machine_of s) → Reaches (inputs c) log (shown (going (going_of s)))
    → Reaches (inputs c) log (shown (going (with_parts s.world m s.world.clock s.charged)))
unfolding turned
none_turned c s m n log none made at =
    let same : machine_of s ≡ m = sym (made ∙ ap (λ (k : ℕ). turned k (machine_of s)) none) in
    subst (λ (x : Machine). Reaches (inputs c) log (shown (going (with_parts s.world x s.world.clock s.charged)))) same at

-- the log behind a turn that was made
logged : RunLaws → EntryLaws → (c : Setting) (s : Session) (n : ℕ) (more : List Entry) → Reaches (inputs c) s.log.entries (shown (going (going_of s)))
    → is_turn (inputs c) (shown (going (going_of s))) first n ≡ true → more ≡ s.log.entries ++ entries.Turn first n ∷ []
    → Reaches (inputs c) more (shown (behind_turn (inputs c) (going_of s) n))
logged runs laws c s n more at turn is =
    let may = laws.turn c.image c.slots c.budget c.layout (going_of s) n turn in
    goes runs (inputs c) s.log.entries more (entries.Turn first n) (shown (going (going_of s))) _ at may.0 may.1 is

-- ... where the budget is not reached
pub turned_on : RunLaws → EntryLaws → (c : Setting) (s : Session) (n k : ℕ) (m : Machine) (clock : ClockState) (charged : ℕ) (more : List Entry)
    → Reaches (inputs c) s.log.entries (shown (going (going_of s))) → is_turn (inputs c) (shown (going (going_of s))) first n ≡ true
    → more ≡ s.log.entries ++ entries.Turn first k ∷ [] → k ≡ n → m ≡ turned n (machine_of s) → clock ≡ moved s.world.clock (Rise k) → charged ≡ s.charged + k → nat_le c.budget charged ≡ false
    → Reaches (inputs c) more (shown (going (with_parts s.world m clock charged)))
turned_on runs laws c s n k m clock charged more at turn is same made rises sum under =
    let is_n : more ≡ s.log.entries ++ entries.Turn first n ∷ [] = is ∙ ap (λ (x : ℕ). s.log.entries ++ entries.Turn first x ∷ []) same in
    let all : charged ≡ s.charged + n = sum ∙ ap (λ (x : ℕ). s.charged + x) same in
    let kept : behind_turn (inputs c) (going_of s) n ≡ going (with_parts s.world m clock charged) =
    behind_is c s n false (sym (ap (nat_le c.budget) all) ∙ under)
    ∙ ap going (parts_are s.world _ m _ clock _ charged (sym made) (sym (rises ∙ ap (λ (x : ℕ). moved s.world.clock (Rise x)) same)) (sym all)) in
    subst (λ (k : Kept). Reaches (inputs c) more (shown k)) kept (logged runs laws c s n more at turn is_n)

-- ... where it is
pub turned_out : RunLaws → EntryLaws → (c : Setting) (s : Session) (n k : ℕ) (charged : ℕ) (more : List Entry)
    → Reaches (inputs c) s.log.entries (shown (going (going_of s))) → is_turn (inputs c) (shown (going (going_of s))) first n ≡ true
    → more ≡ s.log.entries ++ entries.Turn first k ∷ [] → k ≡ n → charged ≡ s.charged + k → nat_le c.budget charged ≡ true
    → Reaches (inputs c) more (shown (record (going (gone s n)) { next = Stops cause.Budget [] }))
turned_out runs laws c s n k charged more at turn is same sum over =
    let is_n : more ≡ s.log.entries ++ entries.Turn first n ∷ [] = is ∙ ap (λ (x : ℕ). s.log.entries ++ entries.Turn first x ∷ []) same in
    let all : charged ≡ s.charged + n = sum ∙ ap (λ (x : ℕ). s.charged + x) same in
    let kept : behind_turn (inputs c) (going_of s) n ≡ record (going (gone s n)) { next = Stops cause.Budget [] } = behind_is c s n true (sym (ap (nat_le c.budget) all) ∙ over) in
    subst (λ (k : Kept). Reaches (inputs c) more (shown k)) kept (logged runs laws c s n more at turn is_n)
