use Rattle.std.proofs.Common.{vec_len}
use Rattle.run_stops.specs.Standing.{Lengthens}
use Rattle.run_calls.specs.Answering.{IsMaking}
use Rattle.run_calls.proofs.makes.make_each.Given as goal

abbrev pub ghost-make : goal.ghost-make
ghost-make g a = g.v

abbrev pub invariant-made : goal.invariant-made
invariant-made g l = IsMaking g.v l.entries.items l.run × Lengthens l.fn.run l.run

abbrev pub decreases-made : goal.decreases-made
decreases-made g l = vec_len l.entries
