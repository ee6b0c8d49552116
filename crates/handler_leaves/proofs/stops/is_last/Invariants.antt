use Rattle.std.proofs.Common.{◌≡◌, ◌<◌, ℕ, true}
use Rattle.legal_run.specs.After.{is_stopped_but}
use Rattle.handler_leaves.proofs.stops.is_last.Given as goal

abbrev pub ghost-is_stopped_but : goal.ghost-is_stopped_but
ghost-is_stopped_but g a = g.o

abbrev pub invariant-loop-b : goal.invariant-loop-b
invariant-loop-b g l = (b : ℕ) → b < l.b → is_stopped_but g.o.state l.fn.a.0 b ≡ true
