-- A run, by its log: the state that its entries leave, and what is kept shows it.
use Rattle.std.specs.Prelude.{◌≡◌, ◌<◌, ◌≤◌, ◌+◌, true, false, List, [], ◌∷◌, ◌++◌, length, None, Result, Ok, Err}
use Rattle.std.specs.List.{list_any}
use Rattle.nd_base.specs.declared.OutOfMemory.{OutOfMemory}
use Rattle.nd_base.specs.declared.numbers.AdapterNo.{AdapterNo}
use Rattle.log_fields.specs.declared.field_values.Cause.TheVariants.{Memory}
use Rattle.call_log.specs.declared.entry.Entry.{Entry}
use Rattle.call_log.specs.declared.entry.Entry.TheVariants as entries
use Rattle.owner_machine.specs.Must.{is_served, owner_must}
use Rattle.owner_book.specs.Stopping.{stop_room}
use Rattle.legal_run.specs.State.{Inputs, State, Free}
use Rattle.legal_run.specs.After.{after}
use Rattle.legal_run.specs.Owed.{all_finished}
use Rattle.legal_run.specs.Must.{must}
use Rattle.legal_run.specs.Run.{Reaches, is_memory_stop, now}
use Rattle.miniport_state.specs.Seen.{Point}
use Rattle.run_moves.specs.Runs.{Grows, IsRun}
use Rattle.run_moves.specs.declared.running.Running.{Running}

abbrev pub state_of : Inputs → Running → State
state_of c r = now c r.log.entries

abbrev pub point_of : Inputs → Running → Point
point_of c r = record { inputs = c; state = state_of c r }

abbrev pub Runs : Inputs → Running → Type 0
Runs c r = IsRun (point_of c r) r

-- one entry more, out of the log's spare
pub record Adds (c : Inputs) (e : Entry) (before r : Running) : Type 0 where
  pub runs : Runs c r
  pub state : state_of c r ≡ after c (state_of c before) e
  pub written : r.log.entries ≡ before.log.entries ++ e ∷ []
  pub spare : r.log.spare + 1 ≡ before.log.spare

-- nothing must stand next, memory has never run out, and there is room to stop every adapter
pub record IsSettled (c : Inputs) (r : Running) : Type 0 where
  pub runs : Runs c r
  pub free : must (state_of c r) ≡ None
  pub fed : list_any is_memory_stop r.log.entries ≡ false
  pub room : stop_room (state_of c r).owner ≤ r.log.spare

-- ---- a run that goes on

-- what it is given: a budget, one to four adapters, fewer than 256 drivers
pub record IsGiven (c : Inputs) : Type 0 where
  pub budget : 0 < c.budget
  pub some : 0 < length c.adapters
  pub adapters : length c.adapters ≤ 4
  pub drivers : length c.drivers < 256

pub record Lengthens (before r : Running) : Type 0 where
  pub more : List Entry
  pub written : r.log.entries ≡ before.log.entries ++ more

-- it goes on, until nothing must stand
pub record Settles (c : Inputs) (before r : Running) : Type 0 where
  pub settled : IsSettled c r
  pub longer : Lengthens before r

-- it goes on by this entry, and then until nothing must stand
pub record SettlesBy (c : Inputs) (e : Entry) (before r : Running) : Type 0 where
  pub settled : IsSettled c r
  pub more : List Entry
  pub written : r.log.entries ≡ before.log.entries ++ e ∷ more

-- memory was wanted: the log is a run as far as it has come, and the book shows its owners; the owner machine lets a stop for want of memory in, there is
-- room to stop every adapter, and where none is left to stop, nothing must stand
pub record IsCut (c : Inputs) (r : Running) : Type 0 where
  pub reaches : Reaches c r.log.entries (state_of c r)
  pub owner : r.book ≡ (state_of c r).owner
  pub breaks : (a : AdapterNo) → is_served (state_of c r).owner (entries.Stop a Memory) ≡ true
  pub fed : list_any is_memory_stop r.log.entries ≡ false
  pub room : stop_room (state_of c r).owner ≤ r.log.spare
  pub over : all_finished c (state_of c r) ≡ true → must (state_of c r) ≡ None

pub record IsLost (c : Inputs) (before r : Running) : Type 0 where
  pub cut : IsCut c r
  pub longer : Lengthens before r

abbrev pub SettlesByOr : Inputs → Entry → Running → Running → Result (Unit {0}) OutOfMemory → Type 0
SettlesByOr c e before r (Ok _) = SettlesBy c e before r
SettlesByOr c e before r (Err _) = IsLost c before r

-- ---- laws

-- a move adds its entry
abbrev pub MovesAdd : Type 0
MovesAdd = (c : Inputs) (e : Entry) (before r : Running) → Grows (point_of c before) e before r → Adds c e before r

-- nothing must stand where neither the owner machine nor what stood last asks for something
abbrev pub StatesAreFree : Type 0
StatesAreFree = (s : State) → s.next ≡ Free → owner_must s.owner ≡ None → must s ≡ None
