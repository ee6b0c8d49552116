-- Shifts and rotates: Intel SDM volume 2, SAL/SAR/SHL/SHR, RCL/RCR/ROL/ROR, SHLD and SHRD.
use Rattle.std.specs.Prelude.{ℕ, ◌+◌, ◌-◌, ◌*◌, ◌/◌, ◌%◌, ◌^◌, Bool, false, not, ◌||◌, nat_lt, nat_le, ◌==◌, if◌then◌else◌}
use Rattle.ia32_arithmetic.specs.declared.widths.Width.{Width}
use Rattle.ia32_arithmetic.specs.declared.flags.Flags.{Flags}
use Rattle.ia32_arithmetic.specs.declared.flags.Computed.{Computed}
use Rattle.ia32_arithmetic.specs.declared.shifts.ShiftOp.{ShiftOp}
use Rattle.ia32_arithmetic.specs.declared.shifts.ShiftOp.TheVariants.{Rcl, Rcr, Rol, Ror, Sar, Shl, Shr}
use Rattle.ia32_arithmetic.specs.declared.shifts.DoubleShiftOp.{DoubleShiftOp}
use Rattle.ia32_arithmetic.specs.declared.shifts.DoubleShiftOp.TheVariants.{Shld, Shrd}
use Rattle.ia32_arithmetic.specs.Widths.{bits, size, is_negative}
use Rattle.ia32_arithmetic.specs.Flags.{with_result}

abbrev pub differ : Bool → Bool → Bool
differ a b = if a then not b else b

-- ---- by a count n of 1 to 31

-- OF is defined at a count of 1 alone
abbrev pub overflow_of : ℕ → Bool → Flags → Bool
overflow_of n o f = if n == 1 then o else f.overflow

-- a shift sets SF, ZF and PF; AF is undefined
unfoldable pub counted : Width → ℕ → ℕ → Bool → Bool → Flags → Computed
counted w v n c o f = record { value = v; flags = record (with_result w v f) { carry = c; overflow = overflow_of n o f } }

-- a rotate does not
unfoldable pub turned : ℕ → ℕ → Bool → Bool → Flags → Computed
turned v n c o f = record { value = v; flags = record f { carry = c; overflow = overflow_of n o f } }

-- SHL: CF is the last bit that goes out, undefined from the width on
unfoldable pub shifted_left : Width → ℕ → ℕ → Flags → Computed
shifted_left w a n f =
    let v = (a * 2 ^ n) % size w in
    let c = if nat_lt n (bits w) then ((a * 2 ^ n) / size w % 2 == 1) else f.carry in
    counted w v n c (differ (is_negative w v) c) f

-- SHR: the same
unfoldable pub shifted_right : Width → ℕ → ℕ → Flags → Computed
shifted_right w a n f =
    let c = if nat_lt n (bits w) then (a / 2 ^ (n - 1) % 2 == 1) else f.carry in
    counted w (a / 2 ^ n) n c (is_negative w a) f

-- the sign bit goes on to the left, up to 64 bits
abbrev pub extended : Width → ℕ → ℕ
extended w a = if is_negative w a then (a + (2 ^ 64 - size w)) else a

-- SAR
unfoldable pub shifted_signed : Width → ℕ → ℕ → Flags → Computed
shifted_signed w a n f = counted w (extended w a / 2 ^ n % size w) n (extended w a / 2 ^ (n - 1) % 2 == 1) false f

-- of so many bits those of a go up by n, and the upper n of c come in at the bottom
unfoldable pub joined : ℕ → ℕ → ℕ → ℕ → ℕ
joined bits a c n = a % 2 ^ (bits - n) * 2 ^ n + c / 2 ^ (bits - n)

-- those that go out come in
unfoldable pub rotated : ℕ → ℕ → ℕ → ℕ
rotated bits a n = joined bits a a n

-- ROL
unfoldable pub rotated_left : Width → ℕ → ℕ → Flags → Computed
rotated_left w a n f =
    let v = rotated (bits w) a (n % bits w) in
    let c = v % 2 == 1 in
    turned v n c (differ (is_negative w v) c) f

-- CF is one more bit at the top
abbrev pub with_carry : Width → ℕ → Bool → ℕ
with_carry w a c = if c then (a + size w) else a

-- RCL
unfoldable pub rotated_carry_left : Width → ℕ → ℕ → Flags → Computed
rotated_carry_left w a n f =
    let t = rotated (bits w + 1) (with_carry w a f.carry) (n % (bits w + 1)) in
    let v = t % size w in
    let c = nat_le (size w) t in
    turned v n c (differ (is_negative w v) c) f

-- ROR: OF is the exclusive or of the two upper bits
unfoldable pub rotated_right : Width → ℕ → ℕ → Flags → Computed
rotated_right w a n f =
    let v = rotated (bits w) a (bits w - n % bits w) in
    let c = is_negative w v in
    turned v n c (differ (v / 2 ^ (bits w - 2) % 2 == 1) c) f

-- RCR: OF is by the number and CF as they were
unfoldable pub rotated_carry_right : Width → ℕ → ℕ → Flags → Computed
rotated_carry_right w a n f =
    let t = rotated (bits w + 1) (with_carry w a f.carry) (bits w + 1 - n % (bits w + 1)) in
    turned (t % size w) n (nat_le (size w) t) (differ (is_negative w a) f.carry) f

unfoldable pub shift_by : ShiftOp → Width → ℕ → ℕ → Flags → Computed
shift_by Rcl w a n f = rotated_carry_left w a n f
shift_by Rcr w a n f = rotated_carry_right w a n f
shift_by Rol w a n f = rotated_left w a n f
shift_by Ror w a n f = rotated_right w a n f
shift_by Sar w a n f = shifted_signed w a n f
shift_by Shl w a n f = shifted_left w a n f
shift_by Shr w a n f = shifted_right w a n f

-- SHLD
unfoldable pub shifted_left_double : Width → ℕ → ℕ → ℕ → Flags → Computed
shifted_left_double w a b n f =
    let v = joined (bits w) a b n in
    counted w v n (a / 2 ^ (bits w - n) % 2 == 1) (differ (is_negative w v) (is_negative w a)) f

-- SHRD
unfoldable pub shifted_right_double : Width → ℕ → ℕ → ℕ → Flags → Computed
shifted_right_double w a b n f =
    let v = joined (bits w) b a (bits w - n) in
    counted w v n (a / 2 ^ (n - 1) % 2 == 1) (differ (is_negative w v) (is_negative w a)) f

abbrev pub double_shift_by : DoubleShiftOp → Width → ℕ → ℕ → ℕ → Flags → Computed
double_shift_by Shld w a b n f = shifted_left_double w a b n f
double_shift_by Shrd w a b n f = shifted_right_double w a b n f

-- ---- by a count that is taken modulo 32

-- by 0 nothing changes
unfoldable pub shift : ShiftOp → Width → ℕ → ℕ → Flags → Computed
shift op w a count f = if count % 32 == 0 then record { value = a; flags = f } else shift_by op w a (count % 32) f

-- nor by more than the width
unfoldable pub double_shift : DoubleShiftOp → Width → ℕ → ℕ → ℕ → Flags → Computed
double_shift op w a b count f =
    if (count % 32 == 0) || nat_lt (bits w) (count % 32) then record { value = a; flags = f }
    else double_shift_by op w a b (count % 32) f
