use Rattle.std.proofs.Common.{◌≡◌}
use Rattle.adapter_timers.specs.Cancels.{cancels, without}
use Rattle.adapter_timers.proofs.ending.cancel_timers.Given as goal

abbrev pub invariant-loop-timer : goal.invariant-loop-timer
invariant-loop-timer l = cancels l.a.0 l.timer-iterator l.clock ≡ without l.timers l.a.0 l.fn.clock
