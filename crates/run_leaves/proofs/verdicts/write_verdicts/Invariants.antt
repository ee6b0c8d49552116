use Rattle.std.proofs.Common.{vec_len}
use Rattle.run_stops.specs.Standing.{Lengthens}
use Rattle.run_leaves.specs.Leaving.{IsWriting}
use Rattle.run_leaves.proofs.verdicts.write_verdicts.Given as goal

abbrev pub ghost-write_verdict : goal.ghost-write_verdict
ghost-write_verdict g a = g.c

abbrev pub invariant-verdicts : goal.invariant-verdicts
invariant-verdicts g l = IsWriting g.c l.verdicts.items l.run × Lengthens l.fn.run l.run

abbrev pub decreases-verdicts : goal.decreases-verdicts
decreases-verdicts g l = vec_len l.verdicts
