-- The end of a run for want of memory: which stops stand then. (What breaks in: crates/legal_run/specs/Run.antt; the project's own: docs/LEGAL-RUN.md.)
use Rattle.std.specs.Prelude.{◌≡◌, ◌⊎◌, ◌<◌, ◌≤◌, ℕ, Bool, true, false, ◌||◌, None}
use Rattle.std.specs.List.{list_all, list_any}
use Rattle.nd_base.specs.declared.numbers.AdapterNo.{AdapterNo}
use Rattle.log_fields.specs.declared.field_values.Cause.TheVariants.{Memory}
use Rattle.call_log.specs.declared.entry.Entry.{Entry}
use Rattle.call_log.specs.declared.entry.Entry.TheVariants as entries
use Rattle.owner_machine.specs.Must.{is_served}
use Rattle.owner_book.specs.Stopping.{stop_room}
use Rattle.legal_run.specs.State.{Inputs}
use Rattle.legal_run.specs.Owed.{all_finished, is_finished}
use Rattle.legal_run.specs.Must.{must}
use Rattle.legal_run.specs.Run.{Reaches, is_memory_stop}
use Rattle.run_moves.specs.declared.running.Running.{Running}
use Rattle.run_stops.specs.Standing.{IsCut, IsLost, IsSettled, Lengthens, state_of}
use Rattle.run_stops.specs.Stopping.{is_of_tail, owner_of}

-- a stop for want of memory, or an entry of a tail
abbrev pub is_ending : Entry → Bool
is_ending e = is_memory_stop e || is_of_tail e

-- the log is a run still, of such entries more, and nothing is left: every adapter is finished, and nothing must stand; where one was not finished it has a
-- stop for want of memory
pub record EndsForMemory (c : Inputs) (before r : Running) : Type 0 where
  pub reaches : Reaches c r.log.entries (state_of c r)
  pub owner : r.book ≡ owner_of c r
  pub finished : all_finished c (state_of c r) ≡ true
  pub nothing : must (state_of c r) ≡ None
  pub longer : Lengthens before r
  pub only : list_all is_ending longer.more ≡ true
  pub stops : all_finished c (state_of c before) ≡ false → list_any is_memory_stop r.log.entries ≡ true

-- ---- on the way

-- the adapters in front of a number are finished
pub record IsEnding (c : Inputs) (n : ℕ) (r : Running) : Type 0 where
  pub reaches : Reaches c r.log.entries (state_of c r)
  pub owner : r.book ≡ owner_of c r
  pub breaks : (a : AdapterNo) → is_served (owner_of c r) (entries.Stop a Memory) ≡ true
  pub room : stop_room (owner_of c r) ≤ r.log.spare
  pub over : all_finished c (state_of c r) ≡ true → must (state_of c r) ≡ None
  pub done : (b : ℕ) → b < n → is_finished (state_of c r) b ≡ true

pub record EndsOn (c : Inputs) (n : ℕ) (before r : Running) : Type 0 where
  pub ending : IsEnding c n r
  pub longer : Lengthens before r
  pub only : list_all is_ending longer.more ≡ true
  pub stops : (list_any is_memory_stop r.log.entries ≡ true) ⊎ (state_of c r ≡ state_of c before)

-- ---- laws

pub record CutLaws : Type 0 where
  -- a run that has settled may be cut
  pub settled : (c : Inputs) (r : Running) → IsSettled c r → IsCut c r
  -- and is lost as it is to what has written nothing yet
  pub lost : (c : Inputs) (r : Running) → IsSettled c r → IsLost c r r
  -- what is lost behind more entries is lost from before them
  pub later : (c : Inputs) (before m r : Running) → Lengthens before m → IsLost c m r → IsLost c before r
