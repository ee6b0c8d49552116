-- The stop of an adapter and its tail. (What ends whatever is outstanding: crates/owner_machine/specs/Must.antt.)
use Rattle.std.specs.Prelude.{◌≡◌, ◌≢◌, ◌≤◌, ◌<◌, ◌+◌, ℕ, Bool, true, false, not, List, [], ◌∷◌, ◌++◌, Some, None, drop, filter}
use Rattle.std.specs.List.{list_any}
use Rattle.nd_base.specs.declared.numbers.AdapterNo.{AdapterNo}
use Rattle.nd_base.specs.declared.numbers.RequestNo.{RequestNo}
use Rattle.log_fields.specs.declared.field_values.Cause.{Cause}
use Rattle.log_fields.specs.declared.field_values.Cause.TheVariants.{Memory}
use Rattle.call_log.specs.declared.entry.Entry.{Entry}
use Rattle.call_log.specs.declared.entry.Entry.TheVariants as entries
use Rattle.owner_machine.specs.declared.rows.Next.TheVariants.{Tail}
use Rattle.owner_machine.specs.State.{Owner, change, failure, is_stopped, phase_is, stands}
use Rattle.owner_machine.specs.Adapters.{stopped}
use Rattle.owner_machine.specs.Handlers.{outstanding}
use Rattle.owner_machine.specs.Machine.{after as owners_after}
use Rattle.owner_machine.specs.Must.{Due, owner_must, serves}
use Rattle.owner_book.specs.Stopping.{stop_room}
use Rattle.legal_run.specs.State.{Inputs, State, Stops, numbers}
use Rattle.legal_run.specs.After.{after, stops_behind}
use Rattle.legal_run.specs.Run.{Meets, is_memory_stop, is_stops}
use Rattle.run_moves.specs.declared.running.Running.{Running}
use Rattle.run_stops.specs.Standing.{Lengthens, Runs, state_of}

abbrev pub owner_of : Inputs → Running → Owner
owner_of c r = (state_of c r).owner

-- NDIS_STATUS_FAILURE, without bytes
abbrev pub failed_answer : RequestNo → Entry
failed_answer r = entries.Answer r (record { 0 = failure }) []

-- the adapter was stopped, and its tail is being written
pub record IsTailing (c : Inputs) (a : AdapterNo) (r : Running) : Type 0 where
  pub runs : Runs c r
  pub behind : (owner_of c r).next ≡ Tail a
  pub stops : is_stops (state_of c r).next ≡ true

-- what an entry of an adapter's tail leaves: one thing less is outstanding of the adapter; of the others as much, and the phases stay
pub record KeepsOthers (c : Inputs) (a : ℕ) (before r : Running) : Type 0 where
  pub others : (b : ℕ) → b ≢ a → outstanding (owner_of c r) b ≡ outstanding (owner_of c before) b
  pub rows : (owner_of c r).adapters ≡ (owner_of c before).adapters
  pub next : (state_of c r).next ≡ (state_of c before).next

pub record EndsOne (c : Inputs) (a : AdapterNo) (before r : Running) : Type 0 where
  pub tailing : IsTailing c a r
  pub falls : outstanding (owner_of c r) a.0 + 1 ≡ outstanding (owner_of c before) a.0
  pub keeps : KeepsOthers c a.0 before r
  pub entry : Entry
  pub plain : is_memory_stop entry ≡ false
  pub written : r.log.entries ≡ before.log.entries ++ entry ∷ []
  pub spare : r.log.spare + 1 ≡ before.log.spare

-- ---- whole

-- the adapter is stopped, and nothing of it is left; nothing must stand but the stops that are still to come
pub record StopsWhole (c : Inputs) (a : AdapterNo) (cause : Cause) (before r : Running) : Type 0 where
  pub runs : Runs c r
  pub over : owner_must (owner_of c r) ≡ None
  pub next : (state_of c r).next ≡ Stops cause (stops_behind c (state_of c before) a.0 cause)
  pub nothing : outstanding (owner_of c r) a.0 ≡ 0
  pub others : (b : ℕ) → b ≢ a.0 → outstanding (owner_of c r) b ≡ outstanding (owner_of c before) b
  pub rows : (owner_of c r).adapters ≡ change stopped (owner_of c before).adapters a.0
  pub tail : List Entry
  pub plain : list_any is_memory_stop tail ≡ false
  pub written : r.log.entries ≡ before.log.entries ++ entries.Stop a cause ∷ tail
  pub spare : r.log.spare + 1 + outstanding (owner_of c before) a.0 ≡ before.log.spare

-- ---- laws

-- the kinds of a tail's entries
abbrev pub is_of_tail : Entry → Bool
is_of_tail (entries.Complete packet status) = true
is_of_tail (entries.Back loan failed) = true
is_of_tail (entries.Answer request status bytes) = true
is_of_tail _ = false

-- an entry of an adapter's tail: it may stand, and leaves the tail to go on, the phases, the open handlers, and what is outstanding of the others
pub record IsOfTail (c : Inputs) (s : State) (a : ℕ) (e : Entry) : Type 0 where
  pub meets : Meets c s e
  pub kind : is_of_tail e ≡ true
  pub owner : (after c s e).owner ≡ owners_after s.owner e
  pub next : (after c s e).next ≡ s.next
  pub behind : (owners_after s.owner e).next ≡ s.owner.next
  pub rows : (owners_after s.owner e).adapters ≡ s.owner.adapters
  pub contexts : (owners_after s.owner e).contexts ≡ s.owner.contexts
  pub others : (b : ℕ) → b ≢ a → outstanding (owners_after s.owner e) b ≡ outstanding s.owner b

-- what serves the owner machine in a tail is one
abbrev pub TailsGoOn : Type 0
TailsGoOn =
    (c : Inputs) (s : State) (a : AdapterNo) (due : Due) (e : Entry) → is_stops s.next ≡ true → s.owner.next ≡ Tail a → owner_must s.owner ≡ Some due → serves s.owner due e ≡ true → IsOfTail c s a.0 e

pub record StopsTakeRoom : Type 0 where
  -- the room for every stop holds that for one
  pub one : (o : Owner) (a : ℕ) → stands o a ≡ true → outstanding o a < stop_room o
  -- and the stop of one adapter, with its tail, leaves that for the others
  pub left : (o p : Owner) (a : ℕ) → stands o a ≡ true → p.adapters ≡ change stopped o.adapters a → ((b : ℕ) → b ≢ a → outstanding p b ≡ outstanding o b)
      → stop_room p + 1 + outstanding o a ≡ stop_room o

-- ---- stops that a context brings

abbrev pub is_memory : Cause → Bool
is_memory Memory = true
is_memory _ = false

-- the adapters from a number on that are not stopped
abbrev pub due_from : Inputs → State → ℕ → List ℕ
due_from c s n = filter (λ a. not (phase_is is_stopped s.owner a)) (numbers n (drop n c.adapters))

-- those in front of a number are stopped, the others are still to be, and there is room for that
pub record IsStopping (c : Inputs) (n : ℕ) (cause : Cause) (r : Running) : Type 0 where
  pub runs : Runs c r
  pub silent : owner_must (owner_of c r) ≡ None
  pub next : (state_of c r).next ≡ Stops cause (due_from c (state_of c r) n)
  pub room : stop_room (owner_of c r) ≤ r.log.spare

pub record StopsOn (c : Inputs) (n : ℕ) (cause : Cause) (before r : Running) : Type 0 where
  pub stopping : IsStopping c n cause r
  pub fed : list_any is_memory_stop r.log.entries ≡ false
  pub longer : Lengthens before r
