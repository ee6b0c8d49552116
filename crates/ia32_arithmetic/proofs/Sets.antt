-- Sets of lemmas that functions name.
use Rattle.std.proofs.Common.{◌≡◌, ℕ, ◌^◌, ◌<◌, ◌≤◌, ◌*◌, ◌%◌, bit_and, bit_or, bit_xor, arith}
use Rattle.std.proofs.lemmas.Nat.{and_le_l, or_lt, xor_lt, one_shl, pow_below, trailing_le, leading_top}
pub use Rattle.std.proofs.lemmas.Int.{to_z-of_z}
use Rattle.std.specs.Int.{w32, trailing_zeros, leading_zeros}
use Rattle.ia32_arithmetic.specs.declared.widths.Width.{Width}
use Rattle.ia32_arithmetic.specs.declared.widths.Width.TheVariants.{Byte, Word, Doubleword}
use Rattle.ia32_arithmetic.specs.Widths.{bits, size}

pub and_size : (w : Width) (a b : ℕ) → a < size w → bit_and a b < size w
and_size w a b h = omega (arith, and_le_l a b)

pub or_size : (w : Width) (a b : ℕ) → a < size w → b < size w → bit_or a b < size w
or_size w a b h k = or_lt (bits w) a b h k

pub xor_size : (w : Width) (a b : ℕ) → a < size w → b < size w → bit_xor a b < size w
xor_size w a b h k = xor_lt (bits w) a b h k

pub ruleset bit_widths = (and_size, or_size, xor_size)

pub power_is : (n : ℕ) → n < 64 → (1 * 2 ^ n) % 2 ^ 64 ≡ 2 ^ n
power_is n h = one_shl n 64 h

pub ruleset signed_values = (to_z-of_z)

pub ruleset powers = (power_is)

pub power_is_32 : (n : ℕ) → n < 32 → (1 * 2 ^ n) % 2 ^ 32 ≡ 2 ^ n
power_is_32 n h = one_shl n 32 h

pub power_fits : (w : Width) (n : ℕ) → n < bits w → 2 ^ n < size w
power_fits w n h = pow_below n (bits w) h

pub bits_few : (w : Width) → bits w ≤ 32
bits_few Byte = omega arith
bits_few Word = omega arith
bits_few Doubleword = omega arith

pub ruleset bit_powers = (power_is_32, power_fits, bits_few)

pub trailing_few : (n : ℕ) → trailing_zeros w32 n ≤ 32
trailing_few n = trailing_le 32 n

pub leading_few : (a : ℕ) → 0 < a → a < 2 ^ 32 → leading_zeros w32 a ≤ 31
leading_few a p h = let t = leading_top 32 a p h in omega (arith, t.1)

pub size_some : (w : Width) → 2 ^ 8 ≤ size w
size_some Byte = omega arith
size_some Word = omega arith
size_some Doubleword = omega arith

pub ruleset scans = (trailing_few, leading_few, size_some)
