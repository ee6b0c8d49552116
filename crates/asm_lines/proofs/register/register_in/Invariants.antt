use Rattle.std.proofs.Common.{◌≡◌, length}
use Rattle.asm_lines.specs.Registers.{register_in}
use Rattle.asm_lines.proofs.register.register_in.Given as goal

abbrev pub invariant-loop-row : goal.invariant-loop-row
invariant-loop-row l = register_in l.rest l.name ≡ register_in l.rows l.name

abbrev pub decreases-loop-row : goal.decreases-loop-row
decreases-loop-row l = length l.rest
