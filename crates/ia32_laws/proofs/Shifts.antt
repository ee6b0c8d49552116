-- Shifts by a count and by ones; rotates and back.
use Rattle.std.proofs.Common.{◌≡◌, ℕ, zero, suc, ◌+◌, ◌-◌, ◌*◌, ◌/◌, ◌%◌, ◌^◌, ◌<◌, false, ◌==◌, ⊎_elim, refl, sym, ap, ◌∙◌, arith}
use Rattle.std.proofs.lemmas.Nat.{mul-mod_first, div-mul-add, mod-mul-add, shr_below}
use Rattle.std.proofs.Math.Nat.{div-div-eq-div-mul}
use Rattle.std.proofs.lemmas.Bool.{cases_eq, ne_eqb}
use Rattle.ia32_arithmetic.specs.declared.widths.Width.{Width}
use Rattle.ia32_arithmetic.specs.declared.widths.Width.TheVariants.{Byte, Word, Doubleword}
use Rattle.ia32_arithmetic.specs.declared.flags.Flags.{Flags}
use Rattle.ia32_arithmetic.specs.declared.shifts.ShiftOp.{ShiftOp}
use Rattle.ia32_arithmetic.specs.declared.shifts.ShiftOp.TheVariants.{Rol, Ror, Shl, Shr}
use Rattle.ia32_arithmetic.specs.Widths.{bits, size}
use Rattle.ia32_arithmetic.specs.Shifts.{shift, shift_by, shifted_left, shifted_right, rotated_left, rotated_right, counted, turned, rotated, joined}
use Rattle.ia32_laws.specs.Numbers.{shifted_by_ones, ShiftLaws}

-- ---- what a shift's value is, at a count that is not 0

shl_by : (w : Width) (a n : ℕ) (f : Flags) → (shift_by Shl w a n f).value ≡ (a * 2 ^ n) % size w
unfolding shift_by shifted_left counted
shl_by w a n f = refl

shr_by : (w : Width) (a n : ℕ) (f : Flags) → (shift_by Shr w a n f).value ≡ a / 2 ^ n
unfolding shift_by shifted_right counted
shr_by w a n f = refl

rol_by : (w : Width) (a n : ℕ) (f : Flags) → (shift_by Rol w a n f).value ≡ joined (bits w) a a (n % bits w)
unfolding shift_by rotated_left turned rotated
rol_by w a n f = refl

ror_by : (w : Width) (a n : ℕ) (f : Flags) → (shift_by Ror w a n f).value ≡ joined (bits w) a a (bits w - n % bits w)
unfolding shift_by rotated_right turned rotated
ror_by w a n f = refl

-- by a count modulo 32 of 0, and of another number
at_zero : (op : ShiftOp) (w : Width) (a k : ℕ) (f : Flags) → k % 32 ≡ 0 → (shift op w a k f).value ≡ a
unfolding shift
at_zero op w a k f e = rw e refl

at_some : (op : ShiftOp) (w : Width) (a k : ℕ) (f : Flags) → (k % 32 == 0) ≡ false → (shift op w a k f).value ≡ (shift_by op w a (k % 32) f).value
unfolding shift
at_some op w a k f e = rw e refl

not_zero : (n : ℕ) → (n ≡ 0 → ⊥) → (n == 0) ≡ false
not_zero n h = ne_eqb n 0 h

-- ---- SHL and SHR

shl_value : (w : Width) (a k : ℕ) (f : Flags) → a < size w → k < 32 → (shift Shl w a k f).value ≡ (a * 2 ^ k) % size w
shl_value w a k f h less = ⊎_elim
    (λ none. at_zero Shl w a k f (omega arith) ∙ small w a k h none)
    (λ some. at_some Shl w a k f (not_zero (k % 32) (omega arith)) ∙ shl_by w a (k % 32) f ∙ ap (λ n. (a * 2 ^ n) % size w) (omega arith))
    (cases_eq k 0)
  where
    small : (w : Width) (a k : ℕ) → a < size w → k ≡ 0 → a ≡ (a * 2 ^ k) % size w
    small Byte a k h none = rw none (omega arith)
    small Word a k h none = rw none (omega arith)
    small Doubleword a k h none = rw none (omega arith)

shr_value : (w : Width) (a k : ℕ) (f : Flags) → k < 32 → (shift Shr w a k f).value ≡ a / 2 ^ k
shr_value w a k f less = ⊎_elim
    (λ none. at_zero Shr w a k f (omega arith) ∙ rw none (omega arith))
    (λ some. at_some Shr w a k f (not_zero (k % 32) (omega arith)) ∙ shr_by w a (k % 32) f ∙ ap (λ n. a / 2 ^ n) (omega arith))
    (cases_eq k 0)

one_more : (a k m : ℕ) → ((a * 2 ^ k) % m * 2) % m ≡ (a * 2 ^ suc k) % m
one_more a k m = mul-mod_first (a * 2 ^ k) 2 m ∙ ap (λ x. x % m) (grind arith)

mod_size : (w : Width) (x : ℕ) → x % size w < size w
mod_size Byte x = omega arith
mod_size Word x = omega arith
mod_size Doubleword x = omega arith

pub left : (w : Width) (a k : ℕ) (f : Flags) → a < size w → k < 32 → (shift Shl w a k f).value ≡ shifted_by_ones Shl w a k f
unfolding shifted_by_ones
left w a zero f h less = at_zero Shl w a 0 f refl
left w a (suc k) f h less =
    let before : (a * 2 ^ k) % size w ≡ shifted_by_ones Shl w a k f = sym (shl_value w a k f h (omega arith)) ∙ left w a k f h (omega arith) in
    shl_value w a (suc k) f h less ∙ sym (one_more a k (size w)) ∙ sym (shl_value w ((a * 2 ^ k) % size w) 1 f (mod_size w (a * 2 ^ k)) (omega arith))
    ∙ ap (λ x. (shift Shl w x 1 f).value) before

halved : (a k : ℕ) → a / 2 ^ suc k ≡ a / 2 ^ k / 2
halved a k = sym (div-div-eq-div-mul a (2 ^ k) 2 ∙ ap (λ n. a / n) (grind arith))

pub right : (w : Width) (a k : ℕ) (f : Flags) → a < size w → k < 32 → (shift Shr w a k f).value ≡ shifted_by_ones Shr w a k f
unfolding shifted_by_ones
right w a zero f h less = at_zero Shr w a 0 f refl
right w a (suc k) f h less =
    let before : a / 2 ^ k ≡ shifted_by_ones Shr w a k f = sym (shr_value w a k f (omega arith)) ∙ right w a k f h (omega arith) in
    shr_value w a (suc k) f less ∙ halved a k ∙ sym (shr_value w (a / 2 ^ k) 1 f (omega arith)) ∙ ap (λ x. (shift Shr w x 1 f).value) before

-- ---- ROL and ROR

-- of b bits, n go out at one end and b - n at the other
turned_back : (b a n m : ℕ) → n + m ≡ b → a < 2 ^ b → joined b (joined b a a n) (joined b a a n) m ≡ a
unfolding joined
turned_back b a n m e h =
    let low : b - n ≡ m = omega arith in
    let high : b - m ≡ n = omega arith in
    let whole : a < 2 ^ (n + m) = rw e h in
    let above : a / 2 ^ m < 2 ^ n = shr_below a n m whole in
    rw (low, high) (ap (λ x. x * 2 ^ m + (a % 2 ^ m * 2 ^ n + a / 2 ^ m) / 2 ^ n) (mod-mul-add (a % 2 ^ m) (2 ^ n) (a / 2 ^ m) above)
    ∙ ap (λ x. a / 2 ^ m * 2 ^ m + x) (div-mul-add (a % 2 ^ m) (2 ^ n) (a / 2 ^ m) above)
    ∙ omega arith)

turn_below : (w : Width) (k : ℕ) → k % bits w < bits w
turn_below Byte k = omega arith
turn_below Word k = omega arith
turn_below Doubleword k = omega arith

pub back : (w : Width) (a k : ℕ) (f g : Flags) → a < size w → (shift Ror w (shift Rol w a k f).value k g).value ≡ a
back w a k f g h = ⊎_elim
    (λ none. at_zero Ror w (shift Rol w a k f).value k g none ∙ at_zero Rol w a k f none)
    (λ some. let test = not_zero (k % 32) some in
    at_some Ror w (shift Rol w a k f).value k g test ∙ ap (λ x. (shift_by Ror w x (k % 32) g).value) (at_some Rol w a k f test ∙ rol_by w a (k % 32) f)
    ∙ ror_by w (joined (bits w) a a (k % 32 % bits w)) (k % 32) g
    ∙ turned_back (bits w) a (k % 32 % bits w) (bits w - k % 32 % bits w) (omega (arith, turn_below w (k % 32))) h)
    (cases_eq (k % 32) 0)

pub forth : (w : Width) (a k : ℕ) (f g : Flags) → a < size w → (shift Rol w (shift Ror w a k f).value k g).value ≡ a
forth w a k f g h = ⊎_elim
    (λ none. at_zero Rol w (shift Ror w a k f).value k g none ∙ at_zero Ror w a k f none)
    (λ some. let test = not_zero (k % 32) some in
    at_some Rol w (shift Ror w a k f).value k g test ∙ ap (λ x. (shift_by Rol w x (k % 32) g).value) (at_some Ror w a k f test ∙ ror_by w a (k % 32) f)
    ∙ rol_by w (joined (bits w) a a (bits w - k % 32 % bits w)) (k % 32) g
    ∙ turned_back (bits w) a (bits w - k % 32 % bits w) (k % 32 % bits w) (omega (arith, turn_below w (k % 32))) h)
    (cases_eq (k % 32) 0)

pub shift_laws : ShiftLaws
shift_laws = record { left = left; right = right; back = back; forth = forth }
