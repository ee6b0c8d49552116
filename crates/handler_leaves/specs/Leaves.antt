-- What a leave needs, and what it comes to.
use Rattle.std.specs.Prelude.{◌≡◌, ◌<◌, ◌+◌, ◌^◌, ℕ, Bool, true, ⊤, Option, None, Some, Result, Ok, Err, if◌then◌else◌}
use Rattle.std.specs.Option.{option_map}
use Rattle.nd_base.specs.declared.numbers.Breach.{Breach}
use Rattle.nd_base.specs.declared.numbers.CtxNo.{CtxNo}
use Rattle.nd_mem.specs.Space.{first_fault, Reading}
use Rattle.ia32_step.specs.Registers.{general_of}
use Rattle.ia32_step.specs.Machine.{outcome}
use Rattle.irql_lock.specs.LockState.{IsOpen}
use Rattle.log_fields.specs.declared.field_values.Handler.{Handler}
use Rattle.log_fields.specs.declared.field_values.Handler.TheVariants as handler
use Rattle.call_log.specs.declared.entry.Entry.TheVariants as entries
use Rattle.call_log.specs.Logs.{State as LogState}
use Rattle.guest_world.specs.declared.world.World.{World}
use Rattle.owner_machine.specs.State.{Owner}
use Rattle.legal_run.specs.State.{Inputs, State, cells, clock, context_at, adapter_of, handler_of}
use Rattle.legal_run.specs.Enters.{area}
use Rattle.legal_run.specs.Calls.{Drawn, Breaking, Draws, drawn, leaves}
use Rattle.legal_run.specs.After.{hang_period, machine_of, number_in}
use Rattle.legal_run.specs.Run.{is_at_leave}
use Rattle.miniport_state.specs.declared.adapters.Adapters.{Adapters}
use Rattle.miniport_state.specs.Seen.{Point}
use Rattle.miniport.specs.Steps.{Goes, IsBehind}

-- a byte that the handler answers in can be read
abbrev pub IsAnswered : State → ℕ → Type 0
IsAnswered s at = first_fault Reading (cells s) at 1 ≡ None

-- where MiniportISR answers can be read
abbrev pub IsRead : State → CtxNo → Handler → Type 0
IsRead s x handler.Isr = IsAnswered s (area x.0) × IsAnswered s (area x.0 + 4)
IsRead s x _ = ⊤

-- the moment of the adapter's first hang check can be told
abbrev pub IsInTime : State → ℕ → Type 0
IsInTime s a = clock s + hang_period s a < 2 ^ 64

-- the status that the context's handler returns
abbrev pub status_of : State → CtxNo → ℕ
status_of s x = general_of (context_at s x.0).registers 0

-- the rule that a leave breaks, if it breaks one
abbrev pub broken : Drawn → Option ℕ
broken (Breaking rule) = Some rule
broken (Draws es) = None

-- rule 7 first
abbrev pub first_broken : Bool → Option ℕ → Option ℕ
first_broken even rule = if even then rule else Some 7

-- what other subjects than levels and locks say of the leave
abbrev pub IsVerdict : Inputs → State → CtxNo → Option Breach → Type 0
IsVerdict c s x verdict =
    option_map {T = Breach} (λ b. b.0) verdict ≡ broken (drawn c s (adapter_of s x.0) (status_of s x) (context_at s x.0).subject (handler_of s x.0))

-- the context is at the address that handlers return to
pub record MayLeave (o : Point) (x : CtxNo) : Type 0 where
  pub goes : Goes o x
  pub slot : is_at_leave (outcome (machine_of o.state x)) ≡ true
  pub opened : IsOpen o.state.world.levels x
  pub read : IsRead o.state x (handler_of o.state x.0)
  pub time : IsInTime o.state (number_in o.inputs (adapter_of o.state x.0))

-- the leave was written and what is kept shows the state behind it; and this is the rule that it breaks, or the handler that left, with its status
pub record HasLeft (o : Point) (x : CtxNo) (m : Adapters) (book : Owner) (w : World) (before log : LogState) (rule : Option ℕ) : Type 0 where
  pub step : IsBehind o (entries.Leave x (status_of o.state x)) m book w before log
  pub breaks : broken (leaves o.inputs o.state x (status_of o.state x)) ≡ rule

abbrev pub Leaves : Point → CtxNo → Adapters → Owner → World → LogState → LogState → Result (Handler × ℕ) Breach → Type 0
Leaves o x m book w before log (Ok left) = HasLeft o x m book w before log None × ((left.0 ≡ handler_of o.state x.0) × (left.1 ≡ status_of o.state x))
Leaves o x m book w before log (Err rule) = HasLeft o x m book w before log (Some rule.0)
