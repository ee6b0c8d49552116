-- Single bits, and the order of bytes: Intel SDM volume 2, BT, BTS, BTR, BTC, BSF, BSR and BSWAP.
use Rattle.std.specs.Prelude.{ℕ, ◌+◌, ◌-◌, ◌*◌, ◌/◌, ◌%◌, ◌^◌, Bool, ◌==◌, bit_or, bit_xor}
use Rattle.std.specs.Int.{w32, trailing_zeros, leading_zeros}
use Rattle.ia32_arithmetic.specs.declared.bits.BitOp.{BitOp}
use Rattle.ia32_arithmetic.specs.declared.bits.BitOp.TheVariants.{Set, Reset, Complement}

abbrev pub has_bit : ℕ → ℕ → Bool
has_bit a n = a / 2 ^ n % 2 == 1

-- bit n of a is set, cleared or turned
unfoldable pub changed_bit : BitOp → ℕ → ℕ → ℕ
changed_bit Set a n = bit_or a (2 ^ n)
changed_bit Reset a n = bit_xor (bit_or a (2 ^ n)) (2 ^ n)
changed_bit Complement a n = bit_xor a (2 ^ n)

-- of a number that is not 0
unfoldable pub lowest_bit : ℕ → ℕ
lowest_bit a = trailing_zeros w32 a

unfoldable pub highest_bit : ℕ → ℕ
highest_bit a = 31 - leading_zeros w32 a

unfoldable pub swapped : ℕ → ℕ
swapped a = a % 2 ^ 8 * 2 ^ 24 + a / 2 ^ 8 % 2 ^ 8 * 2 ^ 16 + a / 2 ^ 16 % 2 ^ 8 * 2 ^ 8 + a / 2 ^ 24
