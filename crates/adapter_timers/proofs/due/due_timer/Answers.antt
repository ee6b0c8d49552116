use Rattle.std.proofs.Common.{Option, IfSome, ap, ◌∙◌, sym, subst}
use Rattle.std.specs.Option.{option_map}
use Rattle.nd_base.specs.declared.numbers.Addr.{Addr}
use Rattle.nd_mem.specs.Space.{address}
use Rattle.dpc_timer.specs.declared.timer.Turn.{Turn}
use Rattle.dpc_timer.specs.ClockState.{IsDue}
use Rattle.adapter_timers.specs.Due.{up_to}
use Rattle.adapter_timers.proofs.FirstTurn.{due_is}
use Rattle.adapter_timers.proofs.Coming.{come_due}
use Rattle.adapter_timers.proofs.due.due_timer.Goals as goal

pub returns-clause-timer : goal.returns-clause-timer
returns-clause-timer c = λ s. rw (c.timer_up_to.ensures, c.first_of.ensures, c.now-now.ensures) (due_is s c.args.world.now c.args.a.0 c.turns.result.now.items c.turns.ensures)

pub returns-clause-due : goal.returns-clause-due
returns-clause-due c =
    let k = c.args.world.now.clock in
    let timer_of : Option Turn → Option Addr = option_map (λ (x : Turn). address x.address) in
    let is = c.timer_up_to.ensures ∙ ap (λ n. timer_of (up_to n c.first_of.result)) c.now-now.ensures ∙ ap (λ (o : Option Turn). timer_of (up_to k.clock o)) c.first_of.ensures in
    subst (λ (r : Option Addr). IfSome r (IsDue k)) (sym is) (come_due k _ c.turns.result.now.items c.turns.ensures)
