-- An adapter that is stopped because nothing happens any more.
use Rattle.std.proofs.Common.{◌≡◌, ℕ, zero, suc, ◌+◌, ◌≤◌, ◌<◌, Bool, true, false, not, ◌&&◌, cond, List, [], ◌∷◌, length, Option, Some, None, refl, sym, ap, ◌∙◌, arith}
use Rattle.std.specs.Prelude.{filter}
use Rattle.std.specs.List.{list_any}
use Rattle.std.specs.Option.{option_map, option_or}
use Rattle.nd_base.specs.declared.numbers.AdapterNo.{AdapterNo}
use Rattle.log_fields.specs.declared.field_values.Cause.{Cause}
use Rattle.call_log.specs.declared.entry.Entry.TheVariants as entries
use Rattle.owner_machine.specs.declared.rows.Adapter.{Adapter}
use Rattle.owner_machine.specs.State.{at, is_stopped, phase_is, stands}
use Rattle.owner_machine.specs.Handlers.{outstanding}
use Rattle.owner_machine.specs.Must.{owner_must}
use Rattle.owner_machine.specs.Must as owners
use Rattle.owner_book.specs.Stopping.{stop_room}
use Rattle.legal_run.specs.State.{Inputs, State, Next, Stops, numbers}
use Rattle.legal_run.specs.After.{breach}
use Rattle.legal_run.specs.Owed.{first, is_idle, is_kept_busy, is_moment, may_be_silent, silent_one}
use Rattle.legal_run.specs.Must.{Owes, must, next_must, taken_first}
use Rattle.legal_run.specs.Run.{Meets, is_memory_stop}
use Rattle.run_facts.specs.Facts.{CountsHold}
use Rattle.miniport.specs.Free.{FreeEntriesStand}
use Rattle.run_moves.specs.declared.running.Running.{Running}
use Rattle.run_stops.specs.Standing.{IsSettled, SettlesBy, point_of, state_of}
use Rattle.run_stops.specs.Stopping.{StopsTakeRoom, StopsWhole, owner_of}
use Rattle.run_waits.proofs.Settling.{none_left, still_fed}

and_first : (a b : Bool) → a && b ≡ true → a ≡ true
and_first true b h = refl
and_first false b h = h

and_second : (a b : Bool) → a && b ≡ true → b ≡ true
and_second true b h = h
and_second false b h = absurd (cc)

-- ---- the adapter is one that is given, and it is not stopped

-- the first of numbers that pass a test passes it, and is one of them
first_in : {A : Type 0} (p : ℕ → Bool) (m n : ℕ) (xs : List A) → first (filter p (numbers m xs)) ≡ Some n → (p n ≡ true) × (n < m + length xs)
first_in p m n [] found = absurd (cc)
first_in p m n (x ∷ xs) found = here (p m) refl (λ h. first_in p (suc m) n xs h) found
  where
    here : (b : Bool) → p m ≡ b → (first (filter p (numbers (suc m) xs)) ≡ Some n → (p n ≡ true) × (n < suc m + length xs)) → first (cond b (m ∷ filter p (numbers (suc m) xs)) (filter p (numbers (suc m) xs))) ≡ Some n
        → (p n ≡ true) × (n < m + length (x ∷ xs))
    here true is rest h = let same : m ≡ n = cc in (ap p (sym same) ∙ is, omega (arith, same))
    here false is rest h = let (passes, less) = rest h in (passes, omega (arith, less))

moment_is : (m : ℕ) (o : Option ℕ) → is_moment m o ≡ true → o ≡ Some m
moment_is m None h = absurd (cc)
moment_is m (Some n) h = let same : n ≡ m = grind (arith, h) in ap Some same

not_at : {A : Type 0} (p : A → Bool) (rows : List A) (n : ℕ) → n < length rows → at (λ row. not (p row)) rows n ≡ not (at p rows n)
not_at p [] n less = absurd (omega (arith, less))
not_at p (row ∷ rows) zero less = refl
not_at p (row ∷ rows) (suc n) less = not_at p rows n (omega (arith, less))

pub stands_still : CountsHold → (c : Inputs) (r : Running) (a : AdapterNo) → IsSettled c r → may_be_silent c (state_of c r) a.0 ≡ true → stands (owner_of c r) a.0 ≡ true
stands_still laws c r a settled may =
    let s = state_of c r in
    let (busy, less) = first_in (is_kept_busy s) 0 a.0 c.adapters (moment_is a.0 (silent_one c s) (and_second (is_idle c s) (is_moment a.0 (silent_one c s)) may)) in
    let rows = (laws c s (record { log = r.log.entries; reaches = settled.runs.reaches })).rows in
    let within : a.0 < length s.owner.adapters = omega (arith, less, rows) in
    not_at (λ (row : Adapter). is_stopped row.phase) s.owner.adapters a.0 within ∙ and_first (not (phase_is is_stopped s.owner a.0)) _ busy

pub may_stop : FreeEntriesStand → CountsHold → (c : Inputs) (r : Running) (a : AdapterNo) → IsSettled c r → may_be_silent c (state_of c r) a.0 ≡ true → Meets c (state_of c r) (entries.Stop a (breach 13))
may_stop free laws c r a settled may = free (point_of c r) (entries.Stop a (breach 13)) settled.free may (stands_still laws c r a settled may) refl

-- ---- the room for every stop holds that for one

pub has_room : CountsHold → StopsTakeRoom → (c : Inputs) (r : Running) (a : AdapterNo) → IsSettled c r → may_be_silent c (state_of c r) a.0 ≡ true → stop_room (owner_of c r) + 3 ≤ r.log.spare → outstanding (owner_of c r) a.0 < r.log.spare
has_room laws rooms c r a settled may room =
    let one = rooms.one (owner_of c r) a.0 (stands_still laws c r a settled may) in
    omega (arith, one, room)

room_left : StopsTakeRoom → (c : Inputs) (a : AdapterNo) (why : Cause) (before r : Running) → stands (owner_of c before) a.0 ≡ true → stop_room (owner_of c before) ≤ before.log.spare → StopsWhole c a why before r
    → stop_room (owner_of c r) ≤ r.log.spare
room_left rooms c a why before r stood room whole =
    let less = rooms.left (owner_of c before) (owner_of c r) a.0 stood whole.rows whole.others in
    let spare = whole.spare in
    omega (arith, less, spare, room)

-- ---- behind the stop and its tail nothing must stand

must_of_stops : (s : State) (why : Cause) → s.next ≡ Stops why [] → owner_must s.owner ≡ None → must s ≡ None
unfolding must
must_of_stops s why next silent =
    ap (λ (n : Next). option_or (taken_first n) (option_or (option_map Owes (owner_must s.owner)) (next_must n))) next
    ∙ ap (λ (d : Option owners.Due). option_or (option_map Owes d) None) silent

pub silenced : CountsHold → StopsTakeRoom → (c : Inputs) (a : AdapterNo) (before r : Running) → IsSettled c before → may_be_silent c (state_of c before) a.0 ≡ true → StopsWhole c a (breach 13) before r → SettlesBy c (entries.Stop a (breach 13)) before r
silenced laws rooms c a before r settled may whole = record {
  settled = record {
    runs = whole.runs;
    free = must_of_stops (state_of c r) (breach 13) (whole.next ∙ ap (Stops (breach 13)) (none_left (state_of c before) settled.free)) whole.over;
    fed = ap (list_any is_memory_stop) whole.written ∙ still_fed before.log.entries (entries.Stop a (breach 13) ∷ whole.tail) settled.fed whole.plain;
    room = room_left rooms c a (breach 13) before r (stands_still laws c before a settled may) settled.room whole;
  };
  more = whole.tail;
  written = whole.written;
}
