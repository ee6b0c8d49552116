-- Numbers of a width, as they are and as signed ones: Intel SDM volume 1, "Numeric Data Types".
use Rattle.std.specs.Prelude.{ℕ, ◌+◌, ◌-◌, ◌^◌, Bool, ◌&&◌, nat_lt, nat_le, ℤ, pos, ◌-ℤ◌, int_lt, int_le, if◌then◌else◌}
use Rattle.ia32_arithmetic.specs.declared.widths.Width.{Width}
use Rattle.ia32_arithmetic.specs.declared.widths.Width.TheVariants.{Byte, Word, Doubleword}

abbrev pub bits : Width → ℕ
bits Byte = 8
bits Word = 16
bits Doubleword = 32

abbrev pub bytes : Width → ℕ
bytes Byte = 1
bytes Word = 2
bytes Doubleword = 4

-- how many numbers there are of a width
abbrev pub size : Width → ℕ
size w = 2 ^ bits w

abbrev pub half : Width → ℕ
half w = 2 ^ (bits w - 1)

-- the sign bit is set
unfoldable pub is_negative : Width → ℕ → Bool
is_negative w n = nat_le (half w) n

-- as a signed number
unfoldable pub signed : Width → ℕ → ℤ
signed w n = if nat_lt n (half w) then pos n else (pos n -ℤ pos (size w))

-- from - half to half - 1
unfoldable pub fits_signed : Width → ℤ → Bool
fits_signed w n = int_lt n (pos (half w)) && int_le (pos 0 -ℤ pos (half w)) n

-- a number of the width v, as one of w with the same sign
unfoldable pub sign_extended : Width → Width → ℕ → ℕ
sign_extended v w a = if is_negative v a then (size w - size v + a) else a
