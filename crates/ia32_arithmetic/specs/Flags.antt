-- The flags that a result sets, and the flags as a word: Intel SDM volume 1, "EFLAGS Register".
use Rattle.std.specs.Prelude.{ℕ, ◌+◌, ◌%◌, ◌^◌, Bool, false, ◌==◌, count_ones, if◌then◌else◌}
use Rattle.ia32_arithmetic.specs.declared.widths.Width.{Width}
use Rattle.ia32_arithmetic.specs.declared.flags.Flags.{Flags}
use Rattle.ia32_arithmetic.specs.Widths.{is_negative}
use Rattle.ia32_arithmetic.specs.Bits.{has_bit}

abbrev pub clear : Flags
clear = record { carry = false; parity = false; auxiliary = false; zero = false; sign = false; direction = false; overflow = false }

-- PF: the low byte has an even number of ones
unfoldable pub has_even_parity : ℕ → Bool
has_even_parity n = count_ones (n % 2 ^ 8) % 2 == 0

-- SF, ZF and PF
unfoldable pub with_result : Width → ℕ → Flags → Flags
with_result w n f = record f { sign = is_negative w n; zero = n == 0; parity = has_even_parity n }

abbrev pub bit_of : Bool → ℕ → ℕ
bit_of flag weight = if flag then weight else 0

-- bits 1 and 9 are set
unfoldable pub word_of : Flags → ℕ
word_of f = 0x202 + bit_of f.carry 1 + bit_of f.parity 4 + bit_of f.auxiliary 0x10 + bit_of f.zero 0x40 + bit_of f.sign 0x80 + bit_of f.direction 0x400 + bit_of f.overflow 0x800

unfoldable pub of_word : ℕ → Flags
of_word n = record {
  carry = has_bit n 0;
  parity = has_bit n 2;
  auxiliary = has_bit n 4;
  zero = has_bit n 6;
  sign = has_bit n 7;
  direction = has_bit n 10;
  overflow = has_bit n 11;
}
