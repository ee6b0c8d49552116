-- What an enter needs, and what it comes to.
use Rattle.std.specs.Prelude.{◌≡◌, ◌<◌, ◌≤◌, ◌+◌, ◌^◌, ℕ, ⊤, List, length, Option, None, Result, Ok, Err, slice_index_or}
use Rattle.std.specs.Option.{option_map, option_map_or}
use Rattle.std.specs.FinMap as table
use Rattle.nd_base.specs.declared.numbers.Addr.{Addr}
use Rattle.nd_base.specs.declared.numbers.CtxNo.{CtxNo}
use Rattle.nd_base.specs.declared.OutOfMemory.{OutOfMemory}
use Rattle.nd_mem.specs.Space.{Space, address}
use Rattle.ia32_step.specs.Registers.{Registers}
use Rattle.irql_lock.specs.LockState.{context_of}
use Rattle.call_log.specs.declared.entry.Entry.{Entry}
use Rattle.call_log.specs.declared.entry.Entry.TheVariants as entries
use Rattle.call_log.specs.Logs.{State as LogState}
use Rattle.guest_world.specs.declared.world.World.{World}
use Rattle.owner_machine.specs.State.{Owner}
use Rattle.miniport_state.specs.declared.adapters.Adapters.{Adapters}
use Rattle.miniport_state.specs.Seen.{Point, IsAt}
use Rattle.miniport.specs.Steps.{IsBehind}
use Rattle.legal_run.specs.Guest.{entered_memory}
use Rattle.legal_run.specs.After.{hang_period, number_in, subject_of}
use Rattle.legal_run.specs.Run.{Meets}
use Rattle.log_fields.specs.declared.field_values.Handler.{Handler}
use Rattle.log_fields.specs.declared.field_values.Handler.TheVariants as handler
use Rattle.guest_world.specs.Timers.{Timers}
use Rattle.import_answers.specs.World.{word}
use Rattle.legal_run.specs.State.{Inputs, State, Context, clock, no_context}
use Rattle.legal_run.specs.Owed.{due_timer, sync_caller}
use Rattle.handler_entries.specs.declared.enters.Entering.{Entering}
use Rattle.handler_entries.specs.declared.places.Due.{Due}

-- the adapter of an interrupt handler is one of the run's
abbrev pub IsInside : Inputs → ℕ → Handler → Type 0
IsInside c a handler.Isr = a < length c.adapters
IsInside c a handler.DisableInterrupt = a < length c.adapters
IsInside c a handler.Sync = a < length c.adapters
IsInside c a _ = ⊤

-- the function of a timer, or 0
abbrev pub function_of : Timers → Option Addr → ℕ
function_of timers timer = option_map_or (λ (t : Addr). option_map_or (λ f. f.function) (table.get timers t.0) 0) timer 0

-- the second word of an open call, or 0
abbrev pub second_word : Context → ℕ
second_word x = option_map_or (λ call. word call.words 2) x.call 0

-- the function that the call of a context names that waits for it
abbrev pub synchronized : List Context → Option ℕ → ℕ
synchronized contexts caller = option_map_or (λ x. second_word (slice_index_or contexts x no_context)) caller 0

-- the adapter's due timer, and the context whose call waits for its function to be entered
pub record IsDueOf (s : State) (a : ℕ) (due : Due) : Type 0 where
  pub timed : due.timer ≡ option_map (λ t. address t.0) (due_timer s a)
  pub called : due.caller ≡ sync_caller s a

-- a context that begins
abbrev pub begun_by : Registers → List ℕ → Context
begun_by registers subject = record { registers = registers; subject = subject; call = None }

-- memory when the handler of an entry begins
abbrev pub begun_memory : Space → ℕ → Entry → Space
begun_memory memory x (entries.Enter _ _ _ words writes) = entered_memory memory x words writes
begun_memory memory x _ = memory

-- a handler has at most sixteen words
abbrev pub HasFewWords : Entry → Type 0
HasFewWords (entries.Enter _ _ _ words writes) = length words ≤ 16
HasFewWords _ = ⊤

-- the entry that enters it
abbrev pub entry_of : CtxNo → Entering → Entry
entry_of x e = entries.Enter e.adapter x e.handler e.words e.writes

-- its `enter` may stand, with what it is entered for; its context's levels are not open; the moment of a next hang check can be told
pub record MayEnter (o : Point) (x : CtxNo) (e : Entering) : Type 0 where
  pub number : x.0 < 16
  pub meets : Meets o.inputs o.state (entry_of x e)
  pub few : length e.words ≤ 16
  pub about : e.subject.items ≡ subject_of o.state (number_in o.inputs e.adapter) e.handler e.words
  pub inside : IsInside o.inputs (number_in o.inputs e.adapter) e.handler
  pub closed : context_of o.state.world.levels x ≡ None
  pub time : clock o.state + hang_period o.state (number_in o.inputs e.adapter) < 2 ^ 64

-- it was entered; or memory was wanted, and nothing has changed
abbrev pub Enters : Point → CtxNo → Entering → Adapters → Owner → World → LogState → LogState → Result (Unit {0}) OutOfMemory → Type 0
Enters o x e m book w before log (Ok _) = IsBehind o (entry_of x e) m book w before log
Enters o x e m book w before log (Err _) = IsAt o m book w × (log ≡ before)
