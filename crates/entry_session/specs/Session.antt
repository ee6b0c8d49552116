-- A run of DriverEntry alone as a program keeps it: the log is a legal run, which leaves what is kept.
use Rattle.std.specs.Prelude.{◌≡◌, ◌≢◌, ◌<◌, ◌≤◌, ◌*◌, ◌^◌, ◌+◌, ℕ, List, [], ◌++◌, Option, None, Some, Result, Ok, Err, slice_index_or}
use Rattle.nd_base.specs.declared.numbers.Breach.{Breach}
use Rattle.nd_base.specs.declared.OutOfMemory.{OutOfMemory}
use Rattle.pe_image.specs.Image.{ImageParts}
use Rattle.ia32_step.specs.Machine.{Machine, machine, outcome, answer_to}
use Rattle.ia32_step.specs.declared.Stepped.{Stepped}
use Rattle.ia32_step.specs.declared.Stepped.TheVariants.{Went}
use Rattle.irql_lock.specs.LockState.{IsOpen}
use Rattle.log_fields.specs.declared.field_values.Cause.TheVariants as cause
use Rattle.log_fields.specs.declared.field_values.Handler.TheVariants.{CancelSend, PnpEvent}
use Rattle.call_log.specs.declared.entry.Entry.{Entry}
use Rattle.guest_world.specs.declared.world.World.{World}
use Rattle.legal_run.specs.State.{Inputs, State, Gone, Stops}
use Rattle.legal_run.specs.Run.{Run, Reaches, now}
use Rattle.entry_run.specs.Alone.{alone, shown}
use Rattle.entry_run.specs.Laws.{Going, going, first, has_handler_in}
use Rattle.entry_calls.specs.Laws.{HoldsAlone}
use Rattle.entry_session.specs.declared.session.Ending.{Ending}
use Rattle.entry_session.specs.declared.session.Ending.TheVariants.{Left, Faulting, Spent}
use Rattle.entry_session.specs.declared.session.Session.{Session}

-- what it is given: the image, the address of each of its imports, what it may be charged, and where objects have their fields
pub record Setting : Type 0 where
  pub image : ImageParts
  pub slots : List ℕ
  pub budget : ℕ
  pub layout : List ℕ

abbrev pub inputs : Setting → Inputs
inputs c = alone c.image c.slots c.budget c.layout

-- ---- while it goes on

abbrev pub going_of : Session → Going
going_of s = record {
  world = s.world;
  registers = s.regs;
  charged = s.charged;
  cancelsend = has_handler_in s.world CancelSend;
  pnpevent = has_handler_in s.world PnpEvent;
}

abbrev pub machine_of : Session → Machine
machine_of s = machine s.regs s.world.memory

-- its context is open, there is no adapter, and no other context holds a lock
pub record IsAlone (w : World) : Type 0 where
  pub opened : IsOpen w.levels first
  pub adapters : (a : ℕ) → slice_index_or w.adapters a None ≡ None
  pub holds : HoldsAlone w.levels

-- each microsecond that was charged has moved the clock on by no more than a call can sleep
abbrev pub IsInTime : ℕ → ℕ → Type 0
IsInTime clock charged = clock ≤ charged * 2 ^ 33

-- the budget is the given one, at most 8,000,000, and not spent
pub record HasBudget (c : Setting) (s : Session) : Type 0 where
  pub given : s.budget ≡ c.budget
  pub most : s.budget ≤ 8000000
  pub unspent : s.charged < s.budget

-- the log is a legal run so far, which leaves what is kept
pub record IsRunning (c : Setting) (s : Session) : Type 0 where
  pub reached : Reaches (inputs c) s.log.entries (shown (going (going_of s)))
  pub budget : HasBudget c s
  pub alone : IsAlone s.world
  pub time : IsInTime s.world.clock.clock s.charged

-- ---- its end

-- it has left with this status; or an instruction, a call or its leave broke a rule; or the budget is spent
abbrev pub EndsBy : State → Ending → Type 0
EndsBy s (Left status) = s.entrance ≡ Gone status.0
EndsBy s Faulting = (rule : Breach) × (s.next ≡ Stops (cause.Breach rule) [])
EndsBy s Spent = s.next ≡ Stops cause.Budget []

-- a run of DriverEntry up to its end
pub record IsWhole (c : Inputs) (log : List Entry) (ending : Ending) : Type 0 where
  pub run : Run c log
  pub ends : EndsBy (now c log) ending

-- what is kept as charged is what the log charges
pub record HasEnded (c : Setting) (s : Session) (ending : Ending) : Type 0 where
  pub whole : IsWhole (inputs c) s.log.entries ending
  pub sum : s.charged ≡ (now (inputs c) s.log.entries).charged

-- entries were added to the log, or none
abbrev pub Adds : List Entry → List Entry → Type 0
Adds before after = (more : List Entry) × (after ≡ before ++ more)

-- memory was wanted: the log is a run as far as it has come, and holds what it held
pub record HasBrokenOff (c : Setting) (before after : Session) : Type 0 where
  pub run : Run (inputs c) after.log.entries
  pub sum : after.charged ≡ (now (inputs c) after.log.entries).charged
  pub added : Adds before.log.entries after.log.entries

-- ---- what each part of it comes to

abbrev pub Ends : Setting → Session → Session → Result Ending OutOfMemory → Type 0
Ends c before after (Ok ending) = HasEnded c after ending
Ends c before after (Err e) = HasBrokenOff c before after

-- it has ended, or it goes on and was charged
abbrev pub GoesOn : Setting → Session → Session → Result (Option Ending) OutOfMemory → Type 0
GoesOn c before after (Ok None) = IsRunning c after × ((before.charged < after.charged) × Adds before.log.entries after.log.entries)
GoesOn c before after (Ok (Some ending)) = HasEnded c after ending
GoesOn c before after (Err e) = HasBrokenOff c before after

-- what a step of the machine would answer behind it, where that is known; where it is not, the turn was charged
pub record IsBehindTurn (c : Setting) (before after : Session) (last : Stepped) : Type 0 where
  pub running : IsRunning c after
  pub known : last ≢ Went → answer_to (outcome (machine_of after)) ≡ last
  pub went : last ≡ Went → before.charged < after.charged
  pub charged : before.charged ≤ after.charged
  pub added : Adds before.log.entries after.log.entries

-- the budget is spent, or it goes on
abbrev pub Turns : Setting → Session → Session → Result (Option Stepped) OutOfMemory → Type 0
Turns c before after (Ok None) = HasEnded c after Spent
Turns c before after (Ok (Some last)) = IsBehindTurn c before after last
Turns c before after (Err e) = HasBrokenOff c before after
