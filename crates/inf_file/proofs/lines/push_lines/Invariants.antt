use Rattle.std.proofs.Common.{◌≡◌, ◌++◌, map, take}
use Rattle.inf_file.proofs.lines.push_lines.Given as goal

abbrev pub invariant-loop-line : goal.invariant-loop-line
invariant-loop-line l = map (λ x. x.now) l.found.items ≡ map (λ x. x.now) l.initial.found.items ++ take l.line-index l.lines
