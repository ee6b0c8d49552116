use Rattle.std.proofs.Common.{◌≡◌, replicate}
use Rattle.legal_run.specs.State.{silent}
use Rattle.run_course.proofs.hearings.silent_drivers.Given as goal

abbrev pub invariant-loop : goal.invariant-loop
invariant-loop l = l.drivers.items ≡ replicate l.counter silent
