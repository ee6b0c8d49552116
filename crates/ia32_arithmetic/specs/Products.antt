-- Products and quotients: Intel SDM volume 2, MUL, IMUL, DIV and IDIV.
use Rattle.std.specs.Prelude.{ℕ, ◌+◌, ◌-◌, ◌*◌, ◌/◌, ◌%◌, Bool, not, nat_lt, nat_le, ◌==◌, Option, None, Some, if◌then◌else◌}
use Rattle.ia32_arithmetic.specs.declared.widths.Width.{Width}
use Rattle.ia32_arithmetic.specs.declared.flags.Flags.{Flags}
use Rattle.ia32_arithmetic.specs.declared.products.Product.{Product}
use Rattle.ia32_arithmetic.specs.declared.products.Quotient.{Quotient}
use Rattle.ia32_arithmetic.specs.Widths.{size, half, is_negative}
use Rattle.ia32_arithmetic.specs.Shifts.{differ}

-- how many numbers there are of twice the width
abbrev pub square : Width → ℕ
square w = size w * size w

-- the number of twice the width with these halves
abbrev pub pair : Width → ℕ → ℕ → ℕ
pair w high low = high * size w + low

-- CF and OF; SF, ZF, AF and PF are undefined
abbrev pub with_large : Bool → Flags → Flags
with_large large f = record f { carry = large; overflow = large }

-- MUL: large is a product whose upper half is not 0
unfoldable pub multiplied : Width → ℕ → ℕ → Flags → Product
multiplied w a b f = record { high = a * b / size w; low = (a * b) % size w; flags = with_large (not (a * b / size w == 0)) f }

-- a number as one of twice the width with the same sign
unfoldable pub doubled : Width → ℕ → ℕ
doubled w a = if is_negative w a then (square w - size w + a) else a

-- the signed product, in twice the width
unfoldable pub signed_product : Width → ℕ → ℕ → ℕ
signed_product w a b = (doubled w a * doubled w b) % square w

-- its lower half with the same sign is not the product
unfoldable pub is_large : Width → ℕ → Bool
is_large w p = not (doubled w (p % size w) == p)

-- IMUL
unfoldable pub multiplied_signed : Width → ℕ → ℕ → Flags → Product
multiplied_signed w a b f =
    let p = signed_product w a b in
    record { high = p / size w % size w; low = p % size w; flags = with_large (is_large w p) f }

-- a quotient by what is not 0
abbrev pub quotient : Width → ℕ → ℕ → Option Quotient
quotient w a b = if nat_le (size w) (a / b) then None else Some (record { quotient = a / b; remainder = a % b })

-- DIV of a number of twice the width: all flags are undefined
unfoldable pub divided : Width → ℕ → ℕ → Option Quotient
divided w a b = if b == 0 then None else quotient w a b

-- a number of twice the width is below 0
abbrev pub is_minus : Width → ℕ → Bool
is_minus w a = nat_le (square w / 2) a

-- how far it is from 0
unfoldable pub magnitude : Width → ℕ → ℕ
magnitude w a = if is_minus w a then (square w - a) else a

-- so far below or above 0
unfoldable pub with_sign : Width → Bool → ℕ → ℕ
with_sign w minus n = if minus then ((size w - n) % size w) else (n % size w)

-- from - half to half - 1
abbrev pub quotient_fits : Width → Bool → ℕ → Bool
quotient_fits w minus n = if minus then nat_le n (half w) else nat_lt n (half w)

-- how far a number of the width is from 0
unfoldable pub distance : Width → ℕ → ℕ
distance w d = if is_negative w d then (size w - d) else d

-- the quotient is rounded to 0, and the remainder has the sign of what is divided
unfoldable pub quotient_signed : Width → ℕ → ℕ → Option Quotient
quotient_signed w a d =
    let minus = differ (is_minus w a) (is_negative w d) in
    let q = magnitude w a / distance w d in
    if quotient_fits w minus q then Some (record { quotient = with_sign w minus q; remainder = with_sign w (is_minus w a) (magnitude w a % distance w d) })
    else None

-- IDIV of a number of twice the width: all flags are undefined
unfoldable pub divided_signed : Width → ℕ → ℕ → Option Quotient
divided_signed w a d = if d == 0 then None else quotient_signed w a d
