use Rattle.std.proofs.Common.{◌≡◌, length}
use Rattle.asm_lines.specs.Mnemonics.{mnemonic_in}
use Rattle.asm_lines.proofs.mnemonic.mnemonic_in.Given as goal

abbrev pub invariant-loop-row : goal.invariant-loop-row
invariant-loop-row l = mnemonic_in l.rest l.name ≡ mnemonic_in l.rows l.name

abbrev pub decreases-loop-row : goal.decreases-loop-row
decreases-loop-row l = length l.rest
