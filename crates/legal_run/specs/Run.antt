-- Which logs are legal runs. A run is a finished list of entries: each of them meets what its kind needs in the state that the earlier ones leave.
use Rattle.std.specs.Prelude.{◌≡◌, ◌⊎◌, ℕ, zero, suc, ◌+◌, Bool, true, false, ◌&&◌, ◌||◌, ◌==◌, not, nat_le, nat_lt, List, [], ◌∷◌, length, take, if◌then◌else◌, Option, Some, None, is_none, Result, Ok, Err}
use Rattle.std.specs.Option.{MatchOption}
use Rattle.std.specs.List.{list_any, list_all}
use Rattle.std.specs.Str.{bytes_eq}
use Rattle.nd_base.specs.declared.numbers.AdapterNo.{AdapterNo}
use Rattle.nd_base.specs.declared.numbers.CtxNo.{CtxNo}
use Rattle.nd_base.specs.declared.numbers.Slot.TheVariants.{Import, Leave}
use Rattle.ia32_step.specs.Registers.{general_of}
use Rattle.ia32_step.specs.Machine.{Outcome, Trapped, Moved, Faulted, outcome}
use Rattle.ia32_step.specs.declared.FaultKind.{FaultKind}
use Rattle.ia32_step.specs.declared.FaultKind.TheVariants as kinds
use Rattle.log_fields.specs.declared.field_values.Cause.TheVariants as cause
use Rattle.log_fields.specs.declared.field_values.FaultKind.{FaultKind as LoggedKind}
use Rattle.log_fields.specs.declared.field_values.FaultKind.TheVariants as logged
use Rattle.log_fields.specs.declared.field_values.Handler.TheVariants as handler
use Rattle.call_log.specs.declared.entry.Entry.{Entry}
use Rattle.call_log.specs.declared.entry.Entry.TheVariants as entries
use Rattle.import_table.specs.declared.calls.Call.{Call}
use Rattle.import_table.specs.declared.calls.CutCall.{CutCall}
use Rattle.import_table.specs.Table.{row_of}
use Rattle.import_table.specs.Arguments.{arguments}
use Rattle.owner_machine.specs.Machine.{rule_against}
use Rattle.owner_machine.specs.Handlers.{is_none as is_empty}
use Rattle.legal_run.specs.State.{Inputs, State, Next, Stops, start, cells, clock, call_at, context_at, adapter_of, is_open, is_free, drivers_of, hearing_of, all_contexts}
use Rattle.legal_run.specs.Owed.{first, frame_due, is_owed, may_jump, may_be_silent, may_be_quiet, all_finished, is_moment}
use Rattle.legal_run.specs.Enters.{may_enter}
use Rattle.legal_run.specs.Replies.{replies, has_waited}
use Rattle.legal_run.specs.After.{after, turned, machine_of, reaches, unfinished, cost_of}
use Rattle.legal_run.specs.Must.{must, Serves}

-- ---- following the code

-- where there is no adapter to stop, a breach, a fault or a spent budget of DriverEntry ends its context
abbrev pub is_stops : Next → Bool
is_stops (Stops cause ats) = true
is_stops _ = false

abbrev pub is_over : Inputs → State → Bool
is_over c s = is_empty c.adapters && is_stops s.next

-- an open context without an open call
abbrev pub is_going : Inputs → State → CtxNo → Bool
is_going c s x = is_open s x.0 && (is_none (call_at s x.0) && not (is_over c s))

abbrev pub is_moved : Outcome → Bool
is_moved (Moved m) = true
is_moved (Trapped slot) = false
is_moved (Faulted kind address) = false

-- instruction n, from 0, of those that come next has a result
abbrev pub goes_on : State → CtxNo → ℕ → Bool
goes_on s x n = is_moved (outcome (turned n (machine_of s x)))

unfoldable pub all_below : (ℕ → Bool) → ℕ → Bool
all_below test zero = true
all_below test (suc n) = all_below test n && test n

abbrev pub longest_turn : ℕ
longest_turn = 64

-- A turn of n: so many instructions have a result, one after the other, and the budget is not reached before. It ends at 64 of them, where the budget is
-- reached, or before what has no result (a slot's address among them), and at none of these earlier.
abbrev pub is_turn : Inputs → State → CtxNo → ℕ → Bool
is_turn c s x n =
    nat_lt 0 n && (nat_le n longest_turn
    && (all_below (λ k. goes_on s x k && not (reaches c s x k)) n && ((n == longest_turn) || (reaches c s x n || not (goes_on s x n)))))

-- how a log names what kind of fault an instruction made, and that it is this one
abbrev pub is_kind : FaultKind → LoggedKind → Bool
is_kind kinds.DivideError logged.Divide = true
is_kind kinds.Outside logged.Outside = true
is_kind kinds.Unmapped logged.Unmapped = true
is_kind kinds.NotReadable logged.NotReadable = true
is_kind kinds.NotWritable logged.NotWritable = true
is_kind kinds.NotExecutable logged.NotExecutable = true
is_kind _ _ = false

-- the next instruction has no result, with this kind and address
abbrev pub faults_as : Outcome → LoggedKind → ℕ → Bool
faults_as (Faulted kind at) logged address = is_kind kind logged && (at.0 == address)
faults_as _ logged address = false

abbrev pub is_at_import : Outcome → ℕ → Bool
is_at_import (Trapped (Import n)) import = n == import
is_at_import _ import = false

abbrev pub is_at_leave : Outcome → Bool
is_at_leave (Trapped Leave) = true
is_at_leave _ = false

-- the words of a call, up to the first that can't be read
abbrev pub words_of_call : Call → List ℕ
words_of_call call = take call.count call.words

abbrev pub words_read : Result Call CutCall → List ℕ
words_read (Ok call) = words_of_call call
words_read (Err cut) = words_of_call cut.call

abbrev pub call_words : State → CtxNo → ℕ → List ℕ
call_words s x import = words_read (arguments (row_of import) (context_at s x.0).registers (cells s))

-- ---- what may stand where nothing must: a row for each kind that stands by itself

abbrev pub may_begin_reset : Inputs → State → ℕ → Bool
may_begin_reset c s a = is_owed c s a handler.Reset && (list_any (is_free s) all_contexts && not (frame_due c s))

abbrev pub is_driver : Inputs → ℕ → Bool
is_driver c b = nat_lt b (length c.drivers)

abbrev pub freely : Inputs → State → Entry → Bool
freely c s (entries.Bind driver a) = true
freely c s (entries.Unbind driver) = true
freely c s (entries.Send driver packet bytes) = true
freely c s (entries.Tag packet id) = true
freely c s (entries.Cancel driver id) = true
freely c s (entries.Event driver number bytes taken) = true
freely c s (entries.Ask driver request question) = true
freely c s (entries.Return driver loan) = true
freely c s (entries.Done driver) = is_driver c driver.0
freely c s (entries.Await driver condition) = is_driver c driver.0
freely c s (entries.Quiet driver) = may_be_quiet c s driver.0
freely c s (entries.Enter a x h words writes) = may_enter c s a x.0 h words writes
freely c s (entries.ResetBegin a) = may_begin_reset c s a.0
freely c s (entries.Turn x n) = is_going c s x && (not (frame_due c s) && is_turn c s x n)
freely c s (entries.Call x import words) = is_going c s x && (is_at_import (outcome (machine_of s x)) import && bytes_eq words (call_words s x import))
freely c s (entries.Leave x eax) = is_going c s x && (is_at_leave (outcome (machine_of s x)) && (general_of (context_at s x.0).registers 0 == eax))
freely c s (entries.Fault x kind address) = is_going c s x && faults_as (outcome (machine_of s x)) kind address.0
freely c s (entries.Reply x eax writes) = has_waited s x && replies s x (entries.Reply x eax writes)
freely c s (entries.WireIn frame) = (frame == s.come) && frame_due c s
freely c s (entries.Time moment) = may_jump c s moment
freely c s (entries.Stop a (cause.Breach rule)) = (rule.0 == 13) && may_be_silent c s a.0
freely c s _ = false

-- a stop for want of memory may break in, but where the owner machine refuses it: into a tail, and before the refusal of a send or a question. The
-- adapters that are not finished are stopped in rising order.
abbrev pub breaks_in : Inputs → State → Entry → Bool
breaks_in c s (entries.Stop a cause.Memory) = is_moment a.0 (first (unfinished c s))
breaks_in c s _ = false

-- ---- what an entry needs

-- it is what must stand next; or nothing must, and it may stand by itself
abbrev pub IsInTurn : Inputs → State → Entry → Type 0
IsInTurn c s e = MatchOption (must s) (freely c s e ≡ true) (λ due. Serves c s due e)

-- the owner machine has a case, and its turn has come, or it breaks in
pub record Meets (c : Inputs) (s : State) (e : Entry) : Type 0 where
  pub owner : rule_against s.owner e ≡ None
  pub turn : IsInTurn c s e ⊎ (breaks_in c s e ≡ true)

-- ---- runs

unfoldable pub RunFrom : Inputs → State → List Entry → Type 0
RunFrom c s [] = Unit {0}
RunFrom c s (e ∷ log) = Meets c s e × RunFrom c (after c s e) log

unfoldable pub now_from : Inputs → State → List Entry → State
now_from c s [] = s
now_from c s (e ∷ log) = now_from c (after c s e) log

-- each entry meets what it needs in the state that the earlier ones leave
abbrev pub Run : Inputs → List Entry → Type 0
Run c log = RunFrom c (start c) log

-- the one state that the log leaves
abbrev pub now : Inputs → List Entry → State
now c log = now_from c (start c) log

-- the log is a run that leaves the state
pub record Reaches (c : Inputs) (log : List Entry) (s : State) : Type 0 where
  pub run : Run c log
  pub state : now c log ≡ s

-- ---- whole runs

abbrev pub is_memory_stop : Entry → Bool
is_memory_stop (entries.Stop a cause.Memory) = true
is_memory_stop _ = false

-- every driver is done, and every frame has come
abbrev pub is_played_out : Inputs → State → Bool
is_played_out c s = list_all (λ b. (hearing_of s b).done) (drivers_of c) && (s.come == length c.frames)

-- nothing is left: nothing must stand, every adapter is finished, and memory ran out or all has been played
pub record Whole (c : Inputs) (log : List Entry) : Type 0 where
  pub run : Run c log
  pub nothing : must (now c log) ≡ None
  pub finished : all_finished c (now c log) ≡ true
  pub ended : (list_any is_memory_stop log ≡ true) ⊎ (is_played_out c (now c log) ≡ true)

-- ---- sums

-- what an entry charges to an adapter: the turns and replies of its contexts and of DriverEntry
abbrev pub is_charged : Option AdapterNo → ℕ → Bool
is_charged None a = true
is_charged (Some b) a = b.0 == a

-- how much time an entry takes, and what it is charged
abbrev pub time_of : State → Entry → ℕ
time_of s (entries.Turn x n) = n
time_of s (entries.Reply x eax writes) = cost_of s x (record { eax = eax; writes = writes })
time_of s _ = 0

abbrev pub cost : State → ℕ → Entry → ℕ
cost s a (entries.Turn x n) = if is_charged (adapter_of s x.0) a then n else 0
cost s a (entries.Reply x eax writes) = if is_charged (adapter_of s x.0) a then cost_of s x (record { eax = eax; writes = writes }) else 0
cost s a _ = 0

unfoldable pub costs : Inputs → State → ℕ → List Entry → ℕ
costs c s a [] = 0
costs c s a (e ∷ log) = cost s a e + costs c (after c s e) a log

-- what the clock is behind an entry
abbrev pub clock_behind : State → Entry → ℕ
clock_behind s (entries.Time moment) = moment
clock_behind s e = clock s + time_of s e
