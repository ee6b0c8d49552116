use Rattle.std.proofs.Common.{◌≡◌, length}
use Rattle.asm_lines.specs.Names.{is_named}
use Rattle.asm_lines.proofs.table_name.is_named.Given as goal

abbrev pub invariant-loop-letter : goal.invariant-loop-letter
invariant-loop-letter l = is_named l.letters l.rest ≡ is_named l.fn.name l.fn.word

abbrev pub decreases-loop-letter : goal.decreases-loop-letter
decreases-loop-letter l = length l.letters
