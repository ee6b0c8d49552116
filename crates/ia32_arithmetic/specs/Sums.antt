-- Sums, differences and bitwise operations: Intel SDM volume 2, ADD, ADC, SUB, SBB, CMP, NEG, INC, DEC, AND, OR, XOR, TEST and NOT.
use Rattle.std.specs.Prelude.{ℕ, ◌+◌, ◌-◌, ◌%◌, Bool, false, not, nat_lt, nat_le, pos, ◌+ℤ◌, ◌-ℤ◌, bit_and, bit_or, bit_xor, if◌then◌else◌}
use Rattle.ia32_arithmetic.specs.declared.widths.Width.{Width}
use Rattle.ia32_arithmetic.specs.declared.flags.Flags.{Flags}
use Rattle.ia32_arithmetic.specs.declared.flags.Computed.{Computed}
use Rattle.ia32_arithmetic.specs.declared.sums.BinaryOp.{BinaryOp}
use Rattle.ia32_arithmetic.specs.declared.sums.BinaryOp.TheVariants.{Add, Adc, And, Or, Sbb, Sub, Xor}
use Rattle.ia32_arithmetic.specs.declared.sums.UnaryOp.{UnaryOp}
use Rattle.ia32_arithmetic.specs.declared.sums.UnaryOp.TheVariants.{Dec, Inc, Neg, Not}
use Rattle.ia32_arithmetic.specs.Widths.{size, signed, fits_signed}
use Rattle.ia32_arithmetic.specs.Flags.{with_result}

abbrev pub one_if : Bool → ℕ
one_if c = if c then 1 else 0

-- OF: the sum or difference of the signed numbers does not fit
unfoldable pub sum_overflows : Width → ℕ → ℕ → ℕ → Bool
sum_overflows w a b c = not (fits_signed w (signed w a +ℤ signed w b +ℤ pos c))

unfoldable pub difference_overflows : Width → ℕ → ℕ → ℕ → Bool
difference_overflows w a b c = not (fits_signed w (signed w a -ℤ signed w b -ℤ pos c))

-- ADD, and with CF ADC. CF: the sum does not fit. AF: that of the low four bits does not. OF: that of the signed numbers does not.
unfoldable pub sum : Width → ℕ → ℕ → Bool → Flags → Computed
sum w a b c f =
    let s = (a + b + one_if c) % size w in
    record {
      value = s;
      flags = record (with_result w s f) {
        carry = nat_le (size w) (a + b + one_if c);
        auxiliary = nat_le 16 (a % 16 + b % 16 + one_if c);
        overflow = sum_overflows w a b (one_if c);
      };
    }

-- SUB, with CF SBB, and of 0 NEG. CF and AF: what is taken is more than there is, in the whole and in the low four bits.
unfoldable pub difference : Width → ℕ → ℕ → Bool → Flags → Computed
difference w a b c f =
    let d = (a + size w - (b + one_if c)) % size w in
    record {
      value = d;
      flags = record (with_result w d f) {
        carry = nat_lt a (b + one_if c);
        auxiliary = nat_lt (a % 16) (b % 16 + one_if c);
        overflow = difference_overflows w a b (one_if c);
      };
    }

-- AND, OR, XOR: AF is undefined
unfoldable pub logic : Width → ℕ → Flags → Computed
logic w n f = record { value = n; flags = record (with_result w n f) { carry = false; overflow = false } }

-- INC: CF stays
unfoldable pub increased : Width → ℕ → Flags → Computed
increased w a f = let d = sum w a 1 false f in record d { flags = record d.flags { carry = f.carry } }

-- DEC: CF stays
unfoldable pub decreased : Width → ℕ → Flags → Computed
decreased w a f = let d = difference w a 1 false f in record d { flags = record d.flags { carry = f.carry } }

-- NOT: no flag changes
unfoldable pub inverted : Width → ℕ → Flags → Computed
inverted w a f = record { value = size w - 1 - a; flags = f }

unfoldable pub binary : BinaryOp → Width → ℕ → ℕ → Flags → Computed
binary Add w a b f = sum w a b false f
binary Adc w a b f = sum w a b f.carry f
binary And w a b f = logic w (bit_and a b) f
binary Or w a b f = logic w (bit_or a b) f
binary Sbb w a b f = difference w a b f.carry f
binary Sub w a b f = difference w a b false f
binary Xor w a b f = logic w (bit_xor a b) f

unfoldable pub unary : UnaryOp → Width → ℕ → Flags → Computed
unary Dec w a f = decreased w a f
unary Inc w a f = increased w a f
unary Neg w a f = difference w 0 a false f
unary Not w a f = inverted w a f
