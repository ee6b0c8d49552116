-- A leave, as the run tells it.
use Rattle.std.proofs.Common.{◌≡◌, ℕ, Bool, true, false, ◌&&◌, List, Option, None, Some, Result, Ok, Err, refl, sym, ap, ◌∙◌, subst, eq-eqb}
use Rattle.std.specs.Prelude.{if◌then◌else◌, slice_index_or, slice_get}
use Rattle.std.specs.Option.{option_map}
use Rattle.nd_base.specs.declared.numbers.Breach.{Breach}
use Rattle.nd_base.specs.declared.numbers.CtxNo.{CtxNo}
use Rattle.ia32_step.specs.Registers.{Registers, general_of}
use Rattle.irql_lock.specs.LockState.{LockState}
use Rattle.irql_lock.specs.LockMoves as levels
use Rattle.irql_lock.specs.LockMoves.{Moves}
use Rattle.log_fields.specs.declared.field_values.Handler.{Handler}
use Rattle.call_log.specs.declared.entry.Entry.TheVariants as entries
use Rattle.guest_world.specs.declared.world.World.{World}
use Rattle.owner_machine.specs.State.{Owner}
use Rattle.owner_machine.specs.Legal.{said_nothing}
use Rattle.owner_machine.specs.Machine as owners
use Rattle.legal_run.specs.State.{Inputs, State, Context, Next, no_context, context_at, adapter_in, adapter_of, handler_in, handler_of}
use Rattle.legal_run.specs.Calls.{Drawn, Breaking, Draws, asks, drawn, leaves, leaves_even}
use Rattle.legal_run.specs.After.{left_row, leveled, levels_behind, is_breaking, number_in, owner_left, with_world}
use Rattle.legal_run.specs.Run.{Meets}
use Rattle.miniport_state.specs.declared.adapters.Adapters.{Adapters}
use Rattle.miniport_state.specs.Seen.{Point, Keeps, IsAt, behind}
use Rattle.miniport.specs.Free.{FreeEntriesStand}
use Rattle.handler_leaves.specs.Leaves.{MayLeave, status_of, broken, first_broken}

-- ---- it may stand

both : (x y : Bool) → x ≡ true → y ≡ true → (x && y) ≡ true
both true y one other = other
both false y one other = one

pub may_stand : FreeEntriesStand → (o : Point) (x : CtxNo) → MayLeave o x → Meets o.inputs o.state (entries.Leave x (status_of o.state x))
may_stand laws o x may =
    laws o (entries.Leave x (status_of o.state x)) may.goes.free
    (both _ _ may.goes.going (both _ _ may.slot (eq-eqb (status_of o.state x) (status_of o.state x) refl)))
    may.goes.works refl

-- ---- what is read of it

pub status_is : (o : Point) (x : CtxNo) (m : Adapters) (r : Registers) → Keeps o.inputs o.state m → r ≡ (slice_index_or m.contexts x.0 no_context).registers → general_of r 0 ≡ status_of o.state x
status_is o x m r keeps is = ap (λ (q : Registers). general_of q 0) (is ∙ ap (λ (cs : List Context). (slice_index_or cs x.0 no_context).registers) keeps.rows)

pub handler_is : (o : Point) (x : CtxNo) (book : Owner) (h : Handler) → book ≡ o.state.owner → h ≡ handler_in (slice_get book.contexts x.0) → h ≡ handler_of o.state x.0
handler_is o x book h same is = is ∙ ap (λ (b : Owner). handler_in (slice_get b.contexts x.0)) same

pub number_is : (o : Point) (x : CtxNo) (book : Owner) (a : ℕ) → book ≡ o.state.owner → a ≡ number_in o.inputs (adapter_in (slice_get book.contexts x.0)) → a ≡ number_in o.inputs (adapter_of o.state x.0)
number_is o x book a same is = is ∙ ap (λ (b : Owner). number_in o.inputs (adapter_in (slice_get b.contexts x.0))) same

asks_broken : (even : Bool) (d : Drawn) → broken (asks even 7 d) ≡ first_broken even (broken d)
asks_broken true d = refl
asks_broken false d = refl

pub breaks_is : (o : Point) (x : CtxNo) (verdict result : Option Breach)
    → option_map {T = Breach} (λ b. b.0) verdict ≡ broken (drawn o.inputs o.state (adapter_of o.state x.0) (status_of o.state x) (context_at o.state x.0).subject (handler_of o.state x.0))
    → option_map {T = Breach} (λ b. b.0) result ≡ first_broken (leaves_even o.state x) (option_map {T = Breach} (λ b. b.0) verdict)
    → broken (leaves o.inputs o.state x (status_of o.state x)) ≡ option_map {T = Breach} (λ b. b.0) result
breaks_is o x verdict result said is = asks_broken (leaves_even o.state x) _ ∙ ap (first_broken (leaves_even o.state x)) (sym said) ∙ sym is

-- ---- what is kept behind it

repacked : (c : Inputs) (t : State) (owner : Owner) (expired : ℕ) (next : Next) (world : World) (m : Adapters) → Keeps c t m → Keeps c (record t { owner = owner; world = world; expired = expired; next = next }) m
repacked c t owner expired next world m k =
    record { rows = k.rows; sixteen = k.sixteen; entry = k.entry; come = k.come; own = k.own; each = k.each; count = k.count; few = k.few; small = k.small; levels = k.levels; most = k.most; begins = k.begins; ends = k.ends }

-- by what is drawn from it
abbrev behind_drawn : Point → CtxNo → ℕ → ℕ → Handler → Drawn → ℕ → Next → Point
behind_drawn o x eax a h d expired next =
    let s = o.state in
    let t = left_row o.inputs s a x eax h in
    record { inputs = o.inputs; state = record (if is_breaking d then s else with_world t (leveled t.world (levels.Leave x))) { owner = owner_left s.owner (entries.Leave x eax) (is_breaking d); expired = expired; next = next } }

broken_by : (o : Point) (x : CtxNo) (eax a rule : ℕ) (h : Handler) (d : Drawn) (expired : ℕ) (next : Next) (m : Adapters) (book book' : Owner) (w : World) → IsAt o m book w → broken d ≡ Some rule
    → book' ≡ said_nothing book → IsAt (behind_drawn o x eax a h d expired next) m book' w
broken_by o x eax a rule h (Draws es) expired next m book book' w at is said = cc
broken_by o x eax a rule h (Breaking r) expired next m book book' w at is said = record {
  keeps = repacked o.inputs o.state _ expired next o.state.world m at.keeps;
  owner = said ∙ ap said_nothing at.owner;
  world = at.world;
}

pub broken_off : (o : Point) (x : CtxNo) (rule : ℕ) (m : Adapters) (book book' : Owner) (w : World) → IsAt o m book w → broken (leaves o.inputs o.state x (status_of o.state x)) ≡ Some rule
    → book' ≡ said_nothing book → IsAt (behind o (entries.Leave x (status_of o.state x))) m book' w
broken_off o x rule m book book' w at is said =
    broken_by o x (status_of o.state x) (number_in o.inputs (adapter_of o.state x.0)) rule (handler_of o.state x.0) (leaves o.inputs o.state x (status_of o.state x)) _ _ m book book' w at is said

moves_left : (s t : LockState) (x : CtxNo) (r : Result (Unit {0}) Breach) → Moves s (levels.Leave x) r t → t ≡ levels_behind s (levels.moved s (levels.Leave x))
moves_left s t x (Ok u) h = sym (ap (levels_behind s) h)
moves_left s t x (Err b) h = h.1 ∙ sym (ap (levels_behind s) h.0)

left_by : (o : Point) (x : CtxNo) (eax a : ℕ) (h : Handler) (d : Drawn) (expired : ℕ) (next : Next) (m : Adapters) (book : Owner) (w : World) (l : LockState) (r : Result (Unit {0}) Breach)
    → broken d ≡ None → Keeps o.inputs (left_row o.inputs o.state a x eax h) m → w ≡ (left_row o.inputs o.state a x eax h).world → book ≡ owners.after o.state.owner (entries.Leave x eax)
    → Moves w.levels (levels.Leave x) r l → IsAt (behind_drawn o x eax a h d expired next) m book (record w { levels = l })
left_by o x eax a h (Breaking rule) expired next m book w l r is keeps same admitted moves = cc
left_by o x eax a h (Draws es) expired next m book w l r is keeps same admitted moves = record {
  keeps = repacked o.inputs (left_row o.inputs o.state a x eax h) _ expired next _ m keeps;
  owner = admitted;
  world = ap (λ (k : LockState). record w { levels = k }) (moves_left w.levels l x r moves) ∙ ap (λ (v : World). leveled v (levels.Leave x)) same;
}

pub left_on : (o : Point) (x : CtxNo) (eax a : ℕ) (h : Handler) (m : Adapters) (book : Owner) (w : World) (l : LockState) (r : Result (Unit {0}) Breach)
    → eax ≡ status_of o.state x → a ≡ number_in o.inputs (adapter_of o.state x.0) → h ≡ handler_of o.state x.0
    → broken (leaves o.inputs o.state x (status_of o.state x)) ≡ None → Keeps o.inputs (left_row o.inputs o.state a x eax h) m → w ≡ (left_row o.inputs o.state a x eax h).world
    → book ≡ owners.after o.state.owner (entries.Leave x eax) → Moves w.levels (levels.Leave x) r l
    → IsAt (behind o (entries.Leave x (status_of o.state x))) m book (record w { levels = l })
left_on o x eax a h m book w l r one two three is keeps same admitted moves =
    let s = o.state in
    let k = subst (λ (n : ℕ). Keeps o.inputs (left_row o.inputs s n x (status_of s x) (handler_of s x.0)) m) two
    (subst (λ (n : ℕ). Keeps o.inputs (left_row o.inputs s a x n (handler_of s x.0)) m) one (subst (λ (q : Handler). Keeps o.inputs (left_row o.inputs s a x eax q) m) three keeps)) in
    let v = same ∙ ap (λ (q : Handler). (left_row o.inputs s a x eax q).world) three ∙ ap (λ (n : ℕ). (left_row o.inputs s a x n (handler_of s x.0)).world) one
    ∙ ap (λ (n : ℕ). (left_row o.inputs s n x (status_of s x) (handler_of s x.0)).world) two in
    left_by o x (status_of s x) (number_in o.inputs (adapter_of s x.0)) (handler_of s x.0) (leaves o.inputs s x (status_of s x)) _ _ m book w l r is k v
    (admitted ∙ ap (λ (n : ℕ). owners.after s.owner (entries.Leave x n)) one) moves
