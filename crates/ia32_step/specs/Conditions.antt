-- The conditions of Jcc, SETcc and CMOVcc: Intel SDM volume 1, appendix B.
use Rattle.std.specs.Prelude.{Bool, not, ◌&&◌, ◌||◌}
use Rattle.ia32_arithmetic.specs.declared.flags.Flags.{Flags}
use Rattle.ia32_arithmetic.specs.Shifts.{differ}
use Rattle.ia32_decode.specs.declared.instruction.Condition.{Condition}
use Rattle.ia32_decode.specs.declared.instruction.Condition.TheVariants.{Overflow, NotOverflow, Below, AboveOrEqual, Equal, NotEqual, BelowOrEqual, Above, Sign, NotSign, Parity, NotParity, Less, GreaterOrEqual, LessOrEqual, Greater}

abbrev pub holds : Condition → Flags → Bool
holds Overflow f = f.overflow
holds NotOverflow f = not f.overflow
holds Below f = f.carry
holds AboveOrEqual f = not f.carry
holds Equal f = f.zero
holds NotEqual f = not f.zero
holds BelowOrEqual f = f.carry || f.zero
holds Above f = not (f.carry || f.zero)
holds Sign f = f.sign
holds NotSign f = not f.sign
holds Parity f = f.parity
holds NotParity f = not f.parity
holds Less f = differ f.sign f.overflow
holds GreaterOrEqual f = not (differ f.sign f.overflow)
holds LessOrEqual f = f.zero || differ f.sign f.overflow
holds Greater f = not f.zero && not (differ f.sign f.overflow)
