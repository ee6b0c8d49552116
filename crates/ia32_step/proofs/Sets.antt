-- A set of lemmas that functions name.
use Rattle.std.proofs.Common.{◌^◌, ◌≤◌, arith}
use Rattle.ia32_arithmetic.specs.declared.widths.Width.{Width}
use Rattle.ia32_arithmetic.specs.declared.widths.Width.TheVariants.{Byte, Word, Doubleword}
use Rattle.ia32_arithmetic.specs.Widths.{size}

pub size_some : (w : Width) → 2 ^ 8 ≤ size w
size_some Byte = omega arith
size_some Word = omega arith
size_some Doubleword = omega arith

pub ruleset sizes = (size_some)
