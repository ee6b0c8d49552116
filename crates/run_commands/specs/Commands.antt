-- Commands of protocol drivers. (What must stand behind each: crates/owner_machine/specs/Must.antt; the project's own: docs/LEGAL-RUN.md.)
use Rattle.std.specs.Prelude.{◌≡◌, ◌<◌, ◌≤◌, ◌+◌, ◌++◌, ℕ, false, [], ◌∷◌, count_by, length, position, Option, Some, None, Result, Ok, Err}
use Rattle.std.specs.List.{list_any}
use Rattle.nd_base.specs.declared.OutOfMemory.{OutOfMemory}
use Rattle.nd_base.specs.declared.numbers.BindingNo.{BindingNo}
use Rattle.nd_base.specs.declared.numbers.PacketNo.{PacketNo}
use Rattle.nd_base.specs.declared.numbers.RequestNo.{RequestNo}
use Rattle.call_log.specs.declared.entry.Entry.{Entry}
use Rattle.owner_machine.specs.declared.rows.Next.{Next as OwnerNext}
use Rattle.owner_machine.specs.declared.rows.Next.TheVariants.{Cancelling}
use Rattle.owner_machine.specs.State.{Owner}
use Rattle.owner_machine.specs.Packets.{queued_with_id}
use Rattle.owner_machine.specs.Must.{Due, Answers, Completes}
use Rattle.owner_book.specs.Stopping.{stop_room}
use Rattle.legal_run.specs.State.{Inputs, Next}
use Rattle.legal_run.specs.Must.{next_must, taken_first}
use Rattle.legal_run.specs.Run.{is_memory_stop}
use Rattle.miniport_state.specs.Seen.{Point}
use Rattle.run_moves.specs.declared.running.Running.{Running}
use Rattle.run_moves.specs.Runs.{Grows, IsRun}
use Rattle.run_stops.specs.Standing.{Runs, state_of}
use Rattle.run_stops.specs.Stopping.{owner_of}

-- the entry was written; or memory was wanted, and nothing has changed
abbrev pub GrowsOr : Point → Entry → Running → Running → Result (Unit {0}) OutOfMemory → Type 0
GrowsOr o e before r (Ok _) = Grows o e before r
GrowsOr o e before r (Err _) = IsRun o r × (r.log ≡ before.log)

-- numbers are drawn in rising order
abbrev pub next_request : Owner → RequestNo
next_request o = record { 0 = length o.requests }

abbrev pub next_packet : Owner → PacketNo
next_packet o = record { 0 = length o.packets }

-- the status with which a packet or a request must end
abbrev pub status_due : Option Due → Option ℕ
status_due (Some (Completes fresh k status)) = Some status
status_due (Some (Answers r status)) = Some status
status_due _ = None

-- nothing is left of what stood before
abbrev pub IsCalm : Next → Type 0
IsCalm n = (taken_first n ≡ None) × (next_must n ≡ None)

-- a command stands last, and all that must stand is what the owner machine asks for behind it; there is room for one more entry
pub record IsBehind (c : Inputs) (command : OwnerNext) (r : Running) : Type 0 where
  pub runs : Runs c r
  pub last : (owner_of c r).next ≡ command
  pub calm : IsCalm (state_of c r).next
  pub fed : list_any is_memory_stop r.log.entries ≡ false
  pub room : stop_room (owner_of c r) < r.log.spare

-- ---- cancels

-- the first packet that a cancel ends
abbrev pub queued : Owner → BindingNo → ℕ → Option ℕ
queued o driver id = position (queued_with_id driver.0 id) o.packets

-- a cancel stands, and what it ends is being ended: there is room for that, and for the stops of all adapters
pub record IsCancelling (c : Inputs) (driver : BindingNo) (id : ℕ) (r : Running) : Type 0 where
  pub runs : Runs c r
  pub last : (owner_of c r).next ≡ Cancelling driver id
  pub calm : IsCalm (state_of c r).next
  pub fed : list_any is_memory_stop r.log.entries ≡ false
  pub room : stop_room (owner_of c r) + count_by (queued_with_id driver.0 id) (owner_of c r).packets ≤ r.log.spare

pub record AbortsOne (c : Inputs) (driver : BindingNo) (id : ℕ) (before r : Running) : Type 0 where
  pub cancelling : IsCancelling c driver id r
  pub falls : count_by (queued_with_id driver.0 id) (owner_of c r).packets + 1 ≡ count_by (queued_with_id driver.0 id) (owner_of c before).packets
  pub entry : Entry
  pub written : r.log.entries ≡ before.log.entries ++ entry ∷ []

-- the log's spare is no less, and all else is as it was
pub record HasRoom (before r : Running) : Type 0 where
  pub others : r ≡ record before { log = r.log }
  pub entries : r.log.entries ≡ before.log.entries
  pub spare : before.log.spare ≤ r.log.spare
