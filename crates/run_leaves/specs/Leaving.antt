-- The handler of a context returns: its leave, and what stands behind it. (What is drawn from a leave: crates/legal_run/specs/Calls.antt; what the end
-- of a reset aborts: crates/owner_machine/specs/Must.antt; the project's own: docs/LEGAL-RUN.md.)
use Rattle.std.specs.Prelude.{◌≡◌, ◌<◌, ◌≤◌, ◌+◌, ◌^◌, ℕ, ⊤, Bool, true, false, List, [], ◌∷◌, length, drop, None, Result, Ok, Err}
use Rattle.std.specs.List.{list_all, list_any}
use Rattle.nd_base.specs.declared.OutOfMemory.{OutOfMemory}
use Rattle.nd_base.specs.declared.numbers.AdapterNo.{AdapterNo}
use Rattle.nd_base.specs.declared.numbers.CtxNo.{CtxNo}
use Rattle.call_log.specs.declared.entry.Entry.{Entry}
use Rattle.call_log.specs.declared.entry.Entry.TheVariants as entries
use Rattle.guest_world.specs.Worlds.{longest_time}
use Rattle.ia32_step.specs.Machine.{outcome}
use Rattle.owner_machine.specs.declared.rows.Next.{Next as OwnerNext}
use Rattle.owner_machine.specs.declared.rows.Next.TheVariants as owners
use Rattle.owner_machine.specs.State.{Owner, stands}
use Rattle.owner_machine.specs.Handlers.{outstanding}
use Rattle.owner_machine.specs.Must.{owner_must}
use Rattle.owner_book.specs.Stopping.{stop_room}
use Rattle.legal_run.specs.State.{Inputs, State, Next, Verdicts, adapter_of, context_at, handler_of}
use Rattle.legal_run.specs.Calls.{Drawn, Breaking, Draws, drawn}
use Rattle.legal_run.specs.After.{machine_of}
use Rattle.legal_run.specs.Run.{is_at_leave, is_going, is_memory_stop}
use Rattle.handler_leaves.specs.Leaves.{IsRead, status_of}
use Rattle.run_moves.specs.declared.running.Running.{Running}
use Rattle.run_stops.specs.Standing.{IsLost, IsSettled, Lengthens, Runs, Settles, state_of}
use Rattle.run_stops.specs.Stopping.{owner_of}

-- ---- what is drawn from the leave of a context's handler

abbrev pub drawn_of : Inputs → State → CtxNo → Drawn
drawn_of c s x = drawn c s (adapter_of s x.0) (status_of s x) (context_at s x.0).subject (handler_of s x.0)

abbrev pub entries_of : Drawn → List Entry
entries_of (Breaking rule) = []
entries_of (Draws es) = es

-- nothing must stand, the context goes on, and is at the address that handlers return to
pub record Returns (c : Inputs) (x : CtxNo) (r : Running) : Type 0 where
  pub settled : IsSettled c r
  pub going : is_going c (state_of c r) x ≡ true
  pub at : is_at_leave (outcome (machine_of (state_of c r) x)) ≡ true
  pub read : IsRead (state_of c r) x (handler_of (state_of c r) x.0)
  pub time : r.world.clock.clock + longest_time < 2 ^ 64

-- ---- verdicts that are still to be written

abbrev pub is_of_packet : Entry → Bool
is_of_packet (entries.Complete _ _) = true
is_of_packet (entries.Requeue _) = true
is_of_packet _ = false

-- an adapter that was given is not stopped, and something of it is outstanding
pub record IsUnfinished (c : Inputs) (o : Owner) : Type 0 where
  pub adapter : ℕ
  pub given : adapter < length c.adapters
  pub standing : stands o adapter ≡ true
  pub holds : 0 < outstanding o adapter

-- Of packets, one after the other. Or the answer to a request alone: memory may be wanted for it, and an adapter is not finished then. Or the end of the
-- reset of an adapter that is there, alone.
abbrev pub MayFollow : Inputs → Owner → List Entry → Type 0
MayFollow c o [] = ⊤
MayFollow c o (entries.Complete _ _ ∷ es) = list_all is_of_packet es ≡ true
MayFollow c o (entries.Requeue _ ∷ es) = list_all is_of_packet es ≡ true
MayFollow c o (entries.Answer _ _ _ ∷ es) = (es ≡ []) × IsUnfinished c o
MayFollow c o (entries.ResetEnd a _ ∷ es) = (es ≡ []) × (stands o a.0 ≡ true)
MayFollow c o (_ ∷ es) = ⊥

-- the owner machine asks for nothing behind a leave, nor behind a verdict on a packet or request
abbrev pub is_quiet : OwnerNext → Bool
is_quiet owners.Free = true
is_quiet (owners.Left _ _ _ _) = true
is_quiet _ = false

abbrev pub IsSilent : Owner → List Entry → Type 0
IsSilent o [] = owner_must o ≡ None
IsSilent o (e ∷ es) = is_quiet o.next ≡ true

-- these are still to be written, and nothing else must stand; there is room for them, and to stop every adapter
pub record IsWriting (c : Inputs) (es : List Entry) (r : Running) : Type 0 where
  pub runs : Runs c r
  pub next : (state_of c r).next ≡ Verdicts es
  pub silent : IsSilent (owner_of c r) es
  pub fed : list_any is_memory_stop r.log.entries ≡ false
  pub room : stop_room (owner_of c r) + length es ≤ r.log.spare
  pub follow : MayFollow c (owner_of c r) es

pub record WritesOn (c : Inputs) (es : List Entry) (before r : Running) : Type 0 where
  pub writing : IsWriting c es r
  pub longer : Lengthens before r

abbrev pub WritesOnOr : Inputs → List Entry → Running → Running → Result (Unit {0}) OutOfMemory → Type 0
WritesOnOr c es before r (Ok _) = WritesOn c es before r
WritesOnOr c es before r (Err _) = IsLost c before r

abbrev pub SettlesOr : Inputs → Running → Running → Result (Unit {0}) OutOfMemory → Type 0
SettlesOr c before r (Ok _) = Settles c before r
SettlesOr c before r (Err _) = IsLost c before r

-- the verdicts behind the first one
abbrev pub verdicts_due : Next → List Entry
verdicts_due (Verdicts es) = es
verdicts_due _ = []

abbrev pub rest_of : Inputs → Running → List Entry
rest_of c r = drop 1 (verdicts_due (state_of c r).next)

-- ---- what the end of a reset aborts

-- the reset of the adapter has ended, and each packet that its miniport holds still must be completed
pub record IsAborting (c : Inputs) (a : AdapterNo) (r : Running) : Type 0 where
  pub runs : Runs c r
  pub behind : (owner_of c r).next ≡ owners.Aborting a
  pub next : (state_of c r).next ≡ Verdicts []
  pub fed : list_any is_memory_stop r.log.entries ≡ false
  pub standing : stands (owner_of c r) a.0 ≡ true
  pub room : stop_room (owner_of c r) ≤ r.log.spare

-- one less is outstanding
pub record AbortsOne (c : Inputs) (a : AdapterNo) (before r : Running) : Type 0 where
  pub aborting : IsAborting c a r
  pub longer : Lengthens before r
  pub falls : stop_room (owner_of c r) + 1 ≤ stop_room (owner_of c before)
