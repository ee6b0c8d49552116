use Rattle.std.proofs.Common.{◌≡◌, ◌++◌}
use Rattle.inf_file.specs.Keyed.{params_in}
use Rattle.inf_file.proofs.gathered.Params.into_list.Given as goal

abbrev pub invariant-loop-name : goal.invariant-loop-name
invariant-loop-name l = l.list.items ++ params_in l.name-iterator ≡ l.fn.self
