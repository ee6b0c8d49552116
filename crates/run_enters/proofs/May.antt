-- A handler that is ready, and whose enter may stand, may be entered.
use Rattle.std.proofs.Common.{◌≡◌, ℕ, ◌+◌, ◌<◌, ◌≤◌, ◌^◌, ◌-◌, List, Option, Some, None, not, slice_get, refl, sym, ap, subst, length, arith, Bool, true, false}
use Rattle.std.specs.Prelude.{nat_lt}
use Rattle.std.proofs.lemmas.Bool.{ltb-false, ltb-true}
use Rattle.std.specs.Option.{option_map_or}
use Rattle.nd_base.specs.declared.numbers.Phase.{Phase}
use Rattle.nd_base.specs.declared.numbers.Phase.TheVariants as phases
use Rattle.owner_machine.specs.declared.rows.Adapter.{Adapter}
use Rattle.owner_machine.specs.State.{at, is_stopped}
use Rattle.legal_run.specs.Owed.{is_owed}
use Rattle.nd_base.specs.declared.numbers.AdapterNo.{AdapterNo}
use Rattle.nd_base.specs.declared.numbers.CtxNo.{CtxNo}
use Rattle.log_fields.specs.declared.field_values.Handler.{Handler}
use Rattle.log_fields.specs.declared.field_values.Handler.TheVariants as handler
use Rattle.guest_world.specs.Worlds.{longest_time}
use Rattle.guest_world.specs.declared.world.World.{World}
use Rattle.legal_run.specs.State.{Inputs, alive, clock, is_alive}
use Rattle.legal_run.specs.After.{hang_period, number_in}
use Rattle.legal_run.specs.Run.{Meets}
use Rattle.handler_entries.specs.declared.enters.Entering.{Entering}
use Rattle.handler_entries.specs.Entries.{IsInside, MayEnter, entry_of}
use Rattle.handler_words.specs.Laws.{EnterLaws}
use Rattle.handler_words.specs.Ready.{IsReady, MayBeOf}
use Rattle.run_facts.specs.Facts.{AdaptersAreGiven, ContextsAreReady, CountsHold, ExpirationsAreFew, IsOfRun, PeriodsAreShort}
use Rattle.run_moves.specs.declared.running.Running.{Running}
use Rattle.run_stops.specs.Standing.{Runs, point_of, state_of}
use Rattle.run_enters.proofs.Settling.{and_first}

pub of_run : (c : Inputs) (r : Running) → Runs c r → IsOfRun c (state_of c r)
of_run c r runs = record { log = r.log.entries; reaches = runs.reaches }

-- an adapter that was given is one of the run's
inside_of : (c : Inputs) (a : Option AdapterNo) (h : Handler) → MayBeOf a h → ((n : AdapterNo) → a ≡ Some n → n.0 < length c.adapters) → IsInside c (number_in c a) h
inside_of c None h is inside = subst (λ k. IsInside c (number_in c None) k) (sym is) tt
inside_of c (Some a) h is inside = by_handler h
  where
    by_handler : (k : Handler) → IsInside c a.0 k
    by_handler handler.Isr = inside a refl
    by_handler handler.DisableInterrupt = inside a refl
    by_handler handler.Sync = inside a refl
    by_handler _ = tt

-- the moment of a next hang check can be told
pub in_time : (moment now period longest : ℕ) → moment ≡ now → period ≤ longest → now + longest < 2 ^ 64 → moment + period < 2 ^ 64
in_time moment now period longest same short time = omega (arith, same, short, time)

pub may : EnterLaws → ContextsAreReady → PeriodsAreShort → (c : Inputs) (r : Running) (x : CtxNo) (e : Entering) → Runs c r → MayBeOf e.adapter e.handler
    → IsReady (point_of c r) e.adapter x e.handler e → Meets c (state_of c r) (entry_of x e) → r.world.clock.clock + longest_time < 2 ^ 64 → MayEnter (point_of c r) x e
may laws ready short c r x e runs be is meets time =
    let s = state_of c r in
    let hold = ready.enters c s e.adapter x e.handler e.words e.writes (of_run c r runs) meets in
    let moment : clock s ≡ r.world.clock.clock = ap (λ (w : World). w.clock.clock) (sym runs.kept.world) in
    laws.may (point_of c r) e.adapter x e.handler e is meets hold.number (inside_of c e.adapter e.handler be hold.inside) hold.closed
    (in_time (clock s) r.world.clock.clock (hang_period s (number_in c e.adapter)) longest_time moment (short c s (number_in c e.adapter) (of_run c r runs)) time)

-- timers that expired can be counted
pub few : ExpirationsAreFew → (c : Inputs) (r : Running) → Runs c r → length r.log.entries < 2 ^ 64 - 1 → r.course.expired + 1 < 2 ^ 64
few laws c r runs less =
    let count = laws c (state_of c r) r.log.entries runs.reaches in
    let same = runs.shown.expirations in
    omega (arith, count, same, less)

-- a log's length that is told, and is not the greatest number
pub few_long : (told long : ℕ) → told ≡ long → told < 2 ^ 64 → (told ≡ 2 ^ 64 - 1 → ⊥) → long < 2 ^ 64 - 1
few_long told long same fits other = by_order (nat_lt told (2 ^ 64 - 1)) refl
  where
    by_order : (b : Bool) → nat_lt told (2 ^ 64 - 1) ≡ b → long < 2 ^ 64 - 1
    by_order true is = let less : told < 2 ^ 64 - 1 = ltb-true told (2 ^ 64 - 1) is in omega (arith, less, same)
    by_order false is = let more : 2 ^ 64 - 1 ≤ told = ltb-false told (2 ^ 64 - 1) is in absurd (other (omega (arith, more, fits)))

-- ---- an adapter that owes a handler is one of those that were given

stands_alive : (rows : List Adapter) (a : ℕ) → at (λ row. is_alive row.phase) rows a ≡ true → at (λ row. not (is_stopped row.phase)) rows a ≡ true
stands_alive rows a h = by_row (slice_get rows a) h
  where
    by_phase : (p : Phase) → is_alive p ≡ true → not (is_stopped p) ≡ true
    by_phase phases.Stopped h = absurd (cc)
    by_phase _ h = refl

    by_row : (m : Option Adapter) → option_map_or (λ row. is_alive row.phase) m false ≡ true → option_map_or (λ row. not (is_stopped row.phase)) m false ≡ true
    by_row None h = h
    by_row (Some row) h = by_phase row.phase h

pub given : AdaptersAreGiven → (c : Inputs) (r : Running) (a : ℕ) (h : Handler) → Runs c r → is_owed c (state_of c r) a h ≡ true → a < length c.adapters
given laws c r a h runs owed = laws.standing c (state_of c r) a (of_run c r runs) (stands_alive (state_of c r).owner.adapters a (and_first (alive (state_of c r) a) _ owed))

pub one_of_four : (a n : ℕ) → a < n → n ≤ 4 → a < 4
one_of_four a n less few = omega (arith, less, few)

pub few_drivers : CountsHold → (c : Inputs) (r : Running) → Runs c r → length c.drivers < 256 → length (state_of c r).owner.drivers ≤ 256
few_drivers laws c r runs few = let same = (laws c (state_of c r) (of_run c r runs)).bindings in omega (arith, same, few)
