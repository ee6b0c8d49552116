-- What stands behind a turn and a fault.
use Rattle.std.proofs.Common.{◌≡◌, ◌≢◌, ℕ, zero, suc, ◌<◌, ◌≤◌, Bool, true, false, ◌&&◌, ◌||◌, ◌==◌, not, List, [], ◌∷◌, ◌++◌, Option, Some, None, ◌⊎◌, inl, inr, refl, sym, ap, ◌∙◌, subst, arith, ◌+◌, append_assoc}
use Rattle.std.specs.Prelude.{is_none, slice_index_or, slice_set}
use Rattle.std.specs.List.{list_any}
use Rattle.std.proofs.lemmas.List.Folds.{list_any-append}
use Rattle.nd_base.specs.declared.numbers.Addr.{Addr}
use Rattle.nd_base.specs.declared.numbers.AdapterNo.{AdapterNo}
use Rattle.nd_base.specs.declared.numbers.CtxNo.{CtxNo}
use Rattle.log_fields.specs.declared.field_values.FaultKind.{FaultKind}
use Rattle.call_log.specs.declared.entry.Entry.{Entry}
use Rattle.call_log.specs.declared.entry.Entry.TheVariants as entries
use Rattle.legal_run.specs.State.{Inputs, State, Context, Next, Free, adapter_of, call_at, is_open, no_context}
use Rattle.legal_run.specs.After.{after, charge_to, machine_of, reaches, spent}
use Rattle.legal_run.specs.Must.{must}
use Rattle.legal_run.specs.Run.{faults_as, is_at_import, is_at_leave, is_going, is_kind, is_memory_stop, is_over, is_stops, now}
use Rattle.owner_machine.specs.Handlers.{is_none as is_empty}
use Rattle.run_facts.specs.Facts.{ContextsAreReady}
use Rattle.miniport.specs.Steps.{Goes}
use Rattle.nd_base.specs.declared.numbers.Slot.TheVariants.{Import, Leave}
use Rattle.ia32_step.specs.Registers.{Registers}
use Rattle.ia32_step.specs.Machine.{Outcome, Trapped, Moved, Faulted, answer_to, outcome}
use Rattle.ia32_step.specs.declared.FaultKind.{FaultKind as StepKind}
use Rattle.ia32_step.specs.declared.Stepped.{Stepped}
use Rattle.ia32_step.specs.declared.Stepped.TheVariants.{Trap, Went, Fault}
use Rattle.call_log.specs.Logs.{State as LogState}
use Rattle.run_moves.specs.Runs.{Grows, IsRun, StaysAt, TurnsTo}
use Rattle.run_moves.specs.declared.running.Running.{Running}
use Rattle.run_stops.specs.Standing.{IsSettled, MovesAdd, Settles, SettlesBy, StatesAreFree, point_of, state_of}
use Rattle.run_stops.specs.Stopping.{owner_of}
use Rattle.owner_book.specs.Stopping.{stop_room}
use Rattle.run_turns.specs.Reaching.{GoesOn, is_of}

and_first : (a b : Bool) → a && b ≡ true → a ≡ true
and_first true b h = refl
and_first false b h = h

and_second : (a b : Bool) → a && b ≡ true → b ≡ true
and_second true b h = h
and_second false b h = absurd (cc)

and_false : (b : Bool) → b && false ≡ false
and_false true = refl
and_false false = refl

-- a context that goes on, where nothing must stand
pub goes : ContextsAreReady → (c : Inputs) (r : Running) (x : CtxNo) → IsSettled c r → x.0 < 16 → is_going c (state_of c r) x ≡ true → Goes (point_of c r) x
goes laws c r x settled number going = record {
  number = number;
  free = settled.free;
  going = going;
  works = (laws.goes c (state_of c r) x (record { log = r.log.entries; reaches = settled.runs.reaches }) going).works;
}

-- ---- behind a turn that does not reach the budget

charged_contexts : (t : State) (a : Option AdapterNo) (n : ℕ) → (charge_to t a n).contexts ≡ t.contexts
charged_contexts t None n = refl
charged_contexts t (Some a) n = refl

charged_owner : (t : State) (a : Option AdapterNo) (n : ℕ) → (charge_to t a n).owner ≡ t.owner
charged_owner t None n = refl
charged_owner t (Some a) n = refl

set_call : (xs : List Context) (x : ℕ) (registers : Registers) → (slice_index_or (slice_set xs x (record (slice_index_or xs x no_context) { registers = registers })) x no_context).call ≡ (slice_index_or xs x no_context).call
set_call [] x registers = refl
set_call (y ∷ ys) zero registers = refl
set_call (y ∷ ys) (suc x) registers = set_call ys x registers

same_call : (c : Inputs) (s : State) (x : CtxNo) (n : ℕ) → call_at (after c s (entries.Turn x n)) x.0 ≡ call_at s x.0
same_call c s x n = ap (λ (xs : List Context). (slice_index_or xs x.0 no_context).call) (charged_contexts _ (adapter_of s x.0) n) ∙ set_call s.contexts x.0 _

free_next : (c : Inputs) (s : State) (x : CtxNo) (n : ℕ) → reaches c s x n ≡ false → (after c s (entries.Turn x n)).next ≡ Free
free_next c s x n unspent = ap (spent c s x) unspent

still_going : (c : Inputs) (s : State) (x : CtxNo) (n : ℕ) → reaches c s x n ≡ false → is_going c s x ≡ true → is_going c (after c s (entries.Turn x n)) x ≡ true
still_going c s x n unspent going =
    let t = after c s (entries.Turn x n) in
    let over : not (is_over c t) ≡ true = ap (λ (m : Next). not (is_empty c.adapters && is_stops m)) (free_next c s x n unspent) ∙ ap not (and_false (is_empty c.adapters)) in
    let opened : is_open t x.0 ≡ true = and_first (is_open s x.0) (is_none (call_at s x.0) && not (is_over c s)) going in
    let quiet : is_none (call_at t x.0) ≡ true = ap is_none (same_call c s x n) ∙ and_first (is_none (call_at s x.0)) (not (is_over c s)) (and_second (is_open s x.0) (is_none (call_at s x.0) && not (is_over c s)) going) in
    rw (opened, quiet, over) refl

-- one entry more, which is no stop for want of memory
pub still_fed : (es more : List Entry) (e : Entry) → is_memory_stop e ≡ false → more ≡ es ++ e ∷ [] → list_any is_memory_stop es ≡ false → list_any is_memory_stop more ≡ false
still_fed es more e plain written fed =
    ap (list_any is_memory_stop) written ∙ list_any-append is_memory_stop es (e ∷ []) ∙ ap (λ b. b || (is_memory_stop e || false)) fed ∙ ap (λ b. b || false) plain

-- the room for every stop stays behind a turn
pub room_stays : MovesAdd → (c : Inputs) (x : CtxNo) (before r : Running) (last : Stepped) → TurnsTo (point_of c before) x before r (Some last) → stop_room (owner_of c before) + 1 < before.log.spare
    → stop_room (owner_of c r) < r.log.spare
room_stays moves c x before r last (inl stays) room =
    let owner : stop_room (owner_of c r) ≡ stop_room (owner_of c before) = ap (λ (l : LogState). stop_room (now c l.entries).owner) stays.silent in
    let spare : r.log.spare ≡ before.log.spare = ap (λ (l : LogState). l.spare) stays.silent in
    omega (arith, owner, spare, room)
room_stays moves c x before r last (inr (n, on)) room =
    let added = moves c (entries.Turn x n) before r on.grows in
    let owner : stop_room (owner_of c r) ≡ stop_room (owner_of c before) = ap (λ (s : State). stop_room s.owner) added.state in
    let spare = added.spare in
    omega (arith, owner, spare, room)

-- a turn was made, and nothing must stand behind it
pub gone : MovesAdd → StatesAreFree → (c : Inputs) (x : CtxNo) (n : ℕ) (before r : Running) → reaches c (state_of c before) x n ≡ false → is_going c (state_of c before) x ≡ true
    → list_any is_memory_stop before.log.entries ≡ false → stop_room (owner_of c r) ≤ r.log.spare → Grows (point_of c before) (entries.Turn x n) before r → GoesOn c x before r
gone moves free c x n before r unspent going fed room grown =
    let added = moves c (entries.Turn x n) before r grown in
    record {
      settled = record {
        runs = added.runs;
        free = ap must added.state ∙ free _ (free_next c (state_of c before) x n unspent) refl;
        fed = still_fed before.log.entries r.log.entries (entries.Turn x n) refl added.written fed;
        room = room;
      };
      longer = record { more = entries.Turn x n ∷ []; written = added.written };
      turns = inr (n, refl);
      going = ap (λ (s : State). is_going c s x) added.state ∙ still_going c (state_of c before) x n unspent going;
    }

none : (es : List Entry) → es ≡ es ++ []
none [] = refl
none (e ∷ es) = ap (λ xs. e ∷ xs) (none es)

-- no turn was made
pub stayed : (c : Inputs) (x : CtxNo) (before r : Running) (last : Stepped) → IsSettled c before → is_going c (state_of c before) x ≡ true → StaysAt (point_of c before) x before r last → GoesOn c x before r
stayed c x before r last settled going stays =
    let same : state_of c r ≡ state_of c before = ap (λ (l : LogState). now c l.entries) stays.silent in
    record {
      settled = record {
        runs = subst (λ (s : State). IsRun (record { inputs = c; state = s }) r) (sym same) stays.run;
        free = ap must same ∙ settled.free;
        fed = ap (λ (l : LogState). list_any is_memory_stop l.entries) stays.silent ∙ settled.fed;
        room =
            let owner : stop_room (owner_of c r) ≡ stop_room (owner_of c before) = ap (λ (l : LogState). stop_room (now c l.entries).owner) stays.silent in
            let spare : r.log.spare ≡ before.log.spare = ap (λ (l : LogState). l.spare) stays.silent in
            let fits = settled.room in
            omega (arith, owner, spare, fits);
      };
      longer = record { more = []; written = ap (λ (l : LogState). l.entries) stays.silent ∙ none before.log.entries };
      turns = inl refl;
      going = ap (λ (s : State). is_going c s x) same ∙ going;
    }

-- what the step behind the turn answers
pub known : MovesAdd → (c : Inputs) (x : CtxNo) (before r : Running) (last : Stepped) → last ≢ Went → TurnsTo (point_of c before) x before r (Some last) → answer_to (outcome (machine_of (state_of c r) x)) ≡ last
known moves c x before r last ends (inl stays) =
    let same : state_of c r ≡ state_of c before = ap (λ (l : LogState). now c l.entries) stays.silent in
    ap (λ (s : State). answer_to (outcome (machine_of s x))) same ∙ stays.next ends
known moves c x before r last ends (inr (n, on)) =
    let added = moves c (entries.Turn x n) before r on.grows in
    ap (λ (s : State). answer_to (outcome (machine_of s x))) added.state ∙ on.next ends

pub went_on : MovesAdd → StatesAreFree → (c : Inputs) (x : CtxNo) (before r : Running) (last : Stepped) → IsSettled c before → is_going c (state_of c before) x ≡ true
    → stop_room (owner_of c before) + 1 < before.log.spare → TurnsTo (point_of c before) x before r (Some last) → GoesOn c x before r
went_on moves free c x before r last settled going room (inl stays) = stayed c x before r last settled going stays
went_on moves free c x before r last settled going room (inr (n, on)) =
    let less = room_stays moves c x before r last (inr (n, on)) room in
    gone moves free c x n before r on.unspent going settled.fed (omega (arith, less)) on.grows

pub at_import : (o : Outcome) (n : ℕ) → answer_to o ≡ Trap (Import n) → is_at_import o n ≡ true
at_import (Trapped slot) n h = let same : slot ≡ Import n = cc in ap (λ s. is_at_import (Trapped s) n) same ∙ grind arith
at_import (Moved m) n h = absurd (cc)
at_import (Faulted kind at) n h = absurd (cc)

pub at_leave : (o : Outcome) → answer_to o ≡ Trap Leave → is_at_leave o ≡ true
at_leave (Trapped slot) h = let same : slot ≡ Leave = cc in ap (λ s. is_at_leave (Trapped s)) same
at_leave (Moved m) h = absurd (cc)
at_leave (Faulted kind at) h = absurd (cc)

pub faults : (o : Outcome) (kind : StepKind) (at : Addr) (logged : FaultKind) → answer_to o ≡ Fault kind at → is_kind kind logged ≡ true → faults_as o logged at.0 ≡ true
faults (Trapped slot) kind at logged h same = absurd (cc)
faults (Moved m) kind at logged h same = absurd (cc)
faults (Faulted other there) kind at logged h same =
    let one : other ≡ kind = cc in
    let two : there ≡ at = cc in
    ap (λ k. is_kind k logged && (there.0 == at.0)) one ∙ ap (λ (a : Addr). is_kind kind logged && (a.0 == at.0)) two ∙ ap (λ b. b && (at.0 == at.0)) same ∙ grind arith

-- ---- the first entry

own : (x : CtxNo) → (x.0 == x.0) ≡ true
own x = grind arith

pub settles_by : (c : Inputs) (e : Entry) (before m r : Running) → m.log.entries ≡ before.log.entries ++ e ∷ [] → Settles c m r → SettlesBy c e before r
settles_by c e before m r written done = record {
  settled = done.settled;
  more = done.longer.more;
  written = done.longer.written ∙ ap (λ es. es ++ done.longer.more) written ∙ append_assoc before.log.entries (e ∷ []) done.longer.more;
}

-- the turn reached the budget, and the stops stand behind it
pub spent_whole : (c : Inputs) (x : CtxNo) (before m r : Running) → TurnsTo (point_of c before) x before m None → Settles c m r → (e : Entry) × (is_of x e ≡ true) × SettlesBy c e before r
spent_whole c x before m r (n, spent) done = (entries.Turn x n, own x, settles_by c (entries.Turn x n) before m r spent.grows.written done)

-- the turn is the whole
pub turned_whole : (c : Inputs) (x : CtxNo) (before r : Running) → IsSettled c r → TurnsTo (point_of c before) x before r (Some Went) → (e : Entry) × (is_of x e ≡ true) × SettlesBy c e before r
turned_whole c x before r settled (inl stays) = absurd (stays.ends refl)
turned_whole c x before r settled (inr (n, on)) = (entries.Turn x n, own x, record { settled = settled; more = []; written = on.grows.written })

-- the fault, behind a turn or none
pub faulted_whole : (c : Inputs) (x : CtxNo) (kind : FaultKind) (at : Addr) (before m r : Running) → GoesOn c x before m → SettlesBy c (entries.Fault x kind at) m r
    → (e : Entry) × (is_of x e ≡ true) × SettlesBy c e before r
faulted_whole c x kind at before m r on done = by on.turns
  where
    fault : Entry
    fault = entries.Fault x kind at

    by : (on.longer.more ≡ []) ⊎ ((n : ℕ) × (on.longer.more ≡ entries.Turn x n ∷ [])) → (e : Entry) × (is_of x e ≡ true) × SettlesBy c e before r
    by (inl nothing) = (
      fault,
      own x,
      record {
        settled = done.settled;
        more = done.more;
        written = done.written ∙ ap (λ es. es ++ fault ∷ done.more) (on.longer.written ∙ ap (λ es. before.log.entries ++ es) nothing ∙ sym (none before.log.entries));
      },
    )
    by (inr (n, one)) = (
      entries.Turn x n,
      own x,
      record {
        settled = done.settled;
        more = fault ∷ done.more;
        written = done.written ∙ ap (λ es. es ++ fault ∷ done.more) (on.longer.written ∙ ap (λ es. before.log.entries ++ es) one) ∙ append_assoc before.log.entries (entries.Turn x n ∷ []) (fault ∷ done.more);
      },
    )
