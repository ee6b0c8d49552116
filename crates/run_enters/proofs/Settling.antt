-- How a run stands behind one entry more.
use Rattle.std.proofs.Common.{◌≡◌, ℕ, ◌+◌, ◌≤◌, Bool, true, false, ◌&&◌, ◌||◌, List, [], ◌∷◌, ◌++◌, Option, Some, None, refl, sym, ap, ◌∙◌, subst, arith}
use Rattle.std.specs.List.{list_any}
use Rattle.std.specs.Option.{option_map, option_map_or, option_or}
use Rattle.std.proofs.lemmas.List.Folds.{list_any-append}
use Rattle.log_fields.specs.declared.field_values.Cause.TheVariants.{Memory}
use Rattle.call_log.specs.declared.entry.Entry.{Entry}
use Rattle.call_log.specs.declared.entry.Entry.TheVariants as entries
use Rattle.call_log.specs.Logs.{State as LogState}
use Rattle.owner_book.specs.Stopping.{stop_room}
use Rattle.owner_machine.specs.State.{Owner}
use Rattle.owner_machine.specs.Must.{Due as OwnerDue, is_served, may_break_in, owner_must, serves}
use Rattle.legal_run.specs.State.{Inputs, State}
use Rattle.legal_run.specs.After.{after}
use Rattle.legal_run.specs.Must.{Due, Owes, must, next_must, taken_first}
use Rattle.legal_run.specs.Run.{Meets, is_memory_stop, now}
use Rattle.run_moves.specs.Runs.{IsRun}
use Rattle.run_moves.specs.declared.running.Running.{Running}
use Rattle.run_stops.specs.Standing.{Adds, IsLost, IsSettled, Runs, point_of, state_of}
use Rattle.run_stops.specs.Stopping.{owner_of}
use Rattle.stop_rooms.specs.Rooms.{RoomsStay, needs_room}

pub and_first : (a b : Bool) → (a && b) ≡ true → a ≡ true
and_first true b h = refl
and_first false b h = h

pub and_second : (a b : Bool) → (a && b) ≡ true → b ≡ true
and_second true b h = h
and_second false b h = absurd (cc)

-- ---- memory has never run out

either : (a b : Bool) → a ≡ false → b ≡ false → (a || b) ≡ false
either false b one other = other
either true b one other = absurd (cc)

one_entry : (e : Entry) → is_memory_stop e ≡ false → list_any is_memory_stop (e ∷ []) ≡ false
one_entry e other = rw other refl

pub fed_more : (es : List Entry) (e : Entry) → list_any is_memory_stop es ≡ false → is_memory_stop e ≡ false → list_any is_memory_stop (es ++ e ∷ []) ≡ false
fed_more es e fed other = list_any-append is_memory_stop es (e ∷ []) ∙ either (list_any is_memory_stop es) (list_any is_memory_stop (e ∷ [])) fed (one_entry e other)

pub fed_by : (c : Inputs) (e : Entry) (before r : Running) → Adds c e before r → list_any is_memory_stop before.log.entries ≡ false → is_memory_stop e ≡ false → list_any is_memory_stop r.log.entries ≡ false
fed_by c e before r added fed other = ap (list_any is_memory_stop) added.written ∙ fed_more before.log.entries e fed other

-- ---- nothing must stand: the owner machine asks for nothing

none_first : (m : Option OwnerDue) (d n : Option Due) → option_or d (option_or (option_map Owes m) n) ≡ None → m ≡ None
none_first None d n e = refl
none_first (Some due) None n e = absurd (cc)
none_first (Some due) (Some f) n e = absurd (cc)

pub no_duty : (s : State) → must s ≡ None → owner_must s.owner ≡ None
unfolding must
no_duty s e = none_first (owner_must s.owner) (taken_first s.next) (next_must s.next) e

pub served_free : (o : Owner) (e : Entry) → owner_must o ≡ None → is_served o e ≡ true
served_free o e none = ap (λ (m : Option OwnerDue). option_map_or (λ due. serves o due e || may_break_in o.next e) m true) none

-- ---- room

pub by_three : (n spare : ℕ) → n + 3 ≤ spare → n + (2 + 1) ≤ spare
by_three n spare room = omega (arith, room)

pub by_two : (n spare : ℕ) → n + 2 ≤ spare → n + (1 + 1) ≤ spare
by_two n spare room = omega (arith, room)

-- an entry that takes no room but its own
pub room_left : (n m : ℕ) (k spare left : ℕ) → m ≤ n → n + (k + 1) ≤ spare → left + 1 ≡ spare → m + k ≤ left
room_left n m k spare left less room one = omega (arith, less, room, one)

pub room_behind : RoomsStay → (c : Inputs) (e : Entry) (before r : Running) (k : ℕ) → Runs c before → Meets c (state_of c before) e → needs_room e ≡ false → Adds c e before r
    → stop_room (owner_of c before) + (k + 1) ≤ before.log.spare → stop_room (owner_of c r) + k ≤ r.log.spare
room_behind laws c e before r k runs meets other added room =
    let less : stop_room (owner_of c r) ≤ stop_room (owner_of c before) = subst (λ (s : State). stop_room s.owner ≤ stop_room (owner_of c before)) (sym added.state) (laws.stays c before.log.entries e runs.reaches.run meets other) in
    room_left (stop_room (owner_of c before)) (stop_room (owner_of c r)) k before.log.spare r.log.spare less room added.spare

enough : (n k spare : ℕ) → n + k ≤ spare → n ≤ spare
enough n k spare room = omega (arith, room)

-- ---- it has settled behind an entry

pub settles : (c : Inputs) (e : Entry) (before r : Running) (k : ℕ) → Adds c e before r → must (after c (state_of c before) e) ≡ None → list_any is_memory_stop r.log.entries ≡ false
    → stop_room (owner_of c r) + k ≤ r.log.spare → IsSettled c r
settles c e before r k added free fed room = record {
  runs = added.runs;
  free = ap must added.state ∙ free;
  fed = fed;
  room = enough (stop_room (owner_of c r)) k r.log.spare room;
}

-- ---- nothing was written, and memory was wanted

pub none : (es : List Entry) → es ≡ es ++ []
none [] = refl
none (e ∷ es) = ap (λ xs. e ∷ xs) (none es)

pub lost_as_before : (c : Inputs) (before r : Running) → IsSettled c before → IsRun (point_of c before) r → r.log ≡ before.log → IsLost c before r
lost_as_before c before r settled run same =
    let state : state_of c r ≡ state_of c before = ap (λ (l : LogState). now c l.entries) same in
    record {
      cut = record {
        reaches = subst (λ (s : State). Rattle.legal_run.specs.Run.Reaches c r.log.entries s) (sym state) run.reaches;
        owner = run.kept.owner ∙ ap (λ (s : State). s.owner) (sym state);
        breaks = λ a. ap (λ (s : State). is_served s.owner (entries.Stop a Memory)) state ∙ served_free (owner_of c before) (entries.Stop a Memory) (no_duty (state_of c before) settled.free);
        fed = ap (λ (l : LogState). list_any is_memory_stop l.entries) same ∙ settled.fed;
        room = as_much (stop_room (owner_of c before)) (stop_room (owner_of c r)) before.log.spare r.log.spare settled.room (ap (λ (s : State). stop_room s.owner) state) (ap (λ (l : LogState). l.spare) same);
        over = λ finished. ap must state ∙ settled.free;
      };
      longer = record { more = []; written = ap (λ (l : LogState). l.entries) same ∙ none before.log.entries };
    }
  where
    as_much : (n m spare left : ℕ) → n ≤ spare → m ≡ n → left ≡ spare → m ≤ left
    as_much n m spare left room one other = omega (arith, room, one, other)

pub lost_before : (c : Inputs) (r : Running) → IsSettled c r → IsLost c r r
lost_before c r settled = lost_as_before c r r settled settled.runs refl
