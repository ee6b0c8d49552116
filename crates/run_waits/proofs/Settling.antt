-- Behind an entry that stands by itself nothing must stand.
use Rattle.std.proofs.Common.{◌≡◌, ◌&&◌, ◌<◌, ◌+◌, ◌≤◌, ℕ, nat_lt, arith, Bool, true, false, ◌||◌, List, [], ◌∷◌, ◌++◌, Option, Some, None, refl, ap, ◌∙◌}
use Rattle.std.specs.List.{list_any}
use Rattle.std.specs.Option.{option_map, option_or}
use Rattle.std.proofs.lemmas.List.Folds.{list_any-append}
use Rattle.call_log.specs.declared.entry.Entry.{Entry}
use Rattle.owner_machine.specs.declared.rows.Next.TheVariants.{Free as OwnerFree}
use Rattle.owner_machine.specs.State.{Owner}
use Rattle.owner_machine.specs.Must.{owner_must}
use Rattle.owner_machine.specs.Must as owners
use Rattle.owner_book.specs.Stopping.{stop_room}
use Rattle.legal_run.specs.State.{Inputs, State, clock, Next, Free, Takes, Verdicts, Spinning, Makes, Stops}
use Rattle.legal_run.specs.After.{after, popped, stops_left}
use Rattle.legal_run.specs.Owed.{may_jump}
use Rattle.legal_run.specs.Must.{Due, Owes, must, next_must, taken_first}
use Rattle.legal_run.specs.Run.{is_memory_stop}
use Rattle.run_moves.specs.Runs.{Grows}
use Rattle.run_moves.specs.declared.running.Running.{Running}
use Rattle.run_stops.specs.Standing.{IsSettled, MovesAdd, SettlesBy, point_of, state_of}
use Rattle.run_stops.specs.Stopping.{owner_of}

-- what must stand, from what stood last and what the owner machine asks for
abbrev asked : Next → Option owners.Due → Option Due
asked n due = option_or (taken_first n) (option_or (option_map Owes due) (next_must n))

-- where nothing must stand, popping leaves nothing
still_nothing : (n : Next) (due : Option owners.Due) → asked n due ≡ None → asked (popped n) None ≡ None
still_nothing Free due none = refl
still_nothing (Takes e) due none = absurd (cc)
still_nothing (Verdicts []) due none = refl
still_nothing (Verdicts (e ∷ es)) None none = absurd (cc)
still_nothing (Verdicts (e ∷ es)) (Some d) none = absurd (cc)
still_nothing (Spinning x lock) None none = absurd (cc)
still_nothing (Spinning x lock) (Some d) none = absurd (cc)
still_nothing (Makes x [] lent) None none = absurd (cc)
still_nothing (Makes x [] lent) (Some d) none = absurd (cc)
still_nothing (Makes x (e ∷ es) lent) None none = absurd (cc)
still_nothing (Makes x (e ∷ es) lent) (Some d) none = absurd (cc)
still_nothing (Stops cause []) due none = refl
still_nothing (Stops cause (a ∷ ats)) None none = absurd (cc)
still_nothing (Stops cause (a ∷ ats)) (Some d) none = absurd (cc)

-- nor is a stop left
no_stop_left : (n : Next) (due : Option owners.Due) → asked n due ≡ None → stops_left n ≡ []
no_stop_left (Stops cause []) due none = refl
no_stop_left (Stops cause (a ∷ ats)) None none = absurd (cc)
no_stop_left (Stops cause (a ∷ ats)) (Some d) none = absurd (cc)
no_stop_left Free due none = refl
no_stop_left (Takes e) due none = refl
no_stop_left (Verdicts es) due none = refl
no_stop_left (Spinning x lock) due none = refl
no_stop_left (Makes x es lent) due none = refl

pub none_left : (s : State) → must s ≡ None → stops_left s.next ≡ []
unfolding must
none_left s none = no_stop_left s.next (owner_must s.owner) none

nothing_behind : (s t : State) → must s ≡ None → t.next ≡ popped s.next → owner_must t.owner ≡ None → must t ≡ None
unfolding must
nothing_behind s t none next silent = ap (λ (n : Next). asked n (owner_must t.owner)) next ∙ ap (asked (popped s.next)) silent ∙ still_nothing s.next (owner_must s.owner) none

either_false : (a b : Bool) → a ≡ false → b ≡ false → (a || b) ≡ false
either_false a b one two = rw (one, two) refl

pub still_fed : (log more : List Entry) → list_any is_memory_stop log ≡ false → list_any is_memory_stop more ≡ false → list_any is_memory_stop (log ++ more) ≡ false
still_fed log more one two = list_any-append is_memory_stop log more ∙ either_false _ _ one two

-- the owner machine behind an entry that changes nothing there, and asks for nothing
abbrev asks_nothing : Owner → Owner
asks_nothing o = record o { next = OwnerFree }

-- such an entry, written where nothing must stand
pub settles : MovesAdd → (c : Inputs) (e : Entry) (before r : Running) → IsSettled c before → Grows (point_of c before) e before r
    → stop_room (owner_of c before) + 3 ≤ before.log.spare → list_any is_memory_stop (e ∷ []) ≡ false → (after c (state_of c before) e).next ≡ popped (state_of c before).next
    → (after c (state_of c before) e).owner ≡ asks_nothing (owner_of c before) → SettlesBy c e before r
settles moves c e before r settled grown room plain next owner =
    let added = moves c e before r grown in
    let same : stop_room (owner_of c r) ≡ stop_room (owner_of c before) = ap (λ (s : State). stop_room s.owner) added.state ∙ ap stop_room owner in
    let spare = added.spare in
    record {
      settled = record {
        runs = added.runs;
        free = ap must added.state ∙ nothing_behind (state_of c before) (after c (state_of c before) e) settled.free next (ap owner_must owner);
        fed = ap (list_any is_memory_stop) added.written ∙ still_fed before.log.entries (e ∷ []) settled.fed plain;
        room = omega (arith, same, spare, room);
      };
      more = [];
      written = added.written;
    }

-- ---- the clock

less : (m n : ℕ) → nat_lt m n ≡ true → m < n
less m n h = grind (arith, h)

first_holds : (a b : Bool) → a && b ≡ true → a ≡ true
first_holds true b h = refl
first_holds false b h = h

-- the moment to which the clock may go on is to come
pub is_later : (c : Inputs) (s : State) (moment : ℕ) → may_jump c s moment ≡ true → clock s < moment
is_later c s moment may = less (clock s) moment (first_holds (nat_lt (clock s) moment) _ may)
