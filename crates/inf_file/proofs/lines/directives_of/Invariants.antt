use Rattle.std.proofs.Common.{◌≡◌, map, take}
use Rattle.inf_file.specs.Parameters.{directives_of}
use Rattle.inf_file.proofs.lines.directives_of.Given as goal

abbrev pub invariant-loop-line : goal.invariant-loop-line
invariant-loop-line l = map (λ x. x.now) l.found.items ≡ directives_of (take l.line-index l.lines)
