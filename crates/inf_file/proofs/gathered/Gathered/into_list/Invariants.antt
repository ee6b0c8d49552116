use Rattle.std.proofs.Common.{◌≡◌}
use Rattle.std.specs.List.{fold}
use Rattle.inf_file.specs.Rows.{with_default}
use Rattle.inf_file.proofs.gathered.Gathered.into_list.Given as goal

abbrev pub invariant-loop-param : goal.invariant-loop-param
invariant-loop-param l = l.params ≡ fold with_default l.initial.params l.yielded
