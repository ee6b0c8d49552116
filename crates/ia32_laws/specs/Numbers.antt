-- Laws of the arithmetic of instructions: Intel SDM volume 2, SAL/SAR/SHL/SHR, RCL/RCR/ROL/ROR and DIV.
use Rattle.std.specs.Prelude.{ℕ, zero, suc, ◌≡◌, ◌+◌, ◌*◌, ◌<◌, ◌≤◌, ◌⊎◌, None, Some}
use Rattle.ia32_arithmetic.specs.declared.widths.Width.{Width}
use Rattle.ia32_arithmetic.specs.declared.flags.Flags.{Flags}
use Rattle.ia32_arithmetic.specs.declared.shifts.ShiftOp.{ShiftOp}
use Rattle.ia32_arithmetic.specs.declared.shifts.ShiftOp.TheVariants.{Rol, Ror, Shl, Shr}
use Rattle.ia32_arithmetic.specs.declared.products.Quotient.{Quotient}
use Rattle.ia32_arithmetic.specs.Widths.{size}
use Rattle.ia32_arithmetic.specs.Shifts.{shift}
use Rattle.ia32_arithmetic.specs.Products.{divided}

-- a number shifted by 1, k times
unfoldable pub shifted_by_ones : ShiftOp → Width → ℕ → ℕ → Flags → ℕ
shifted_by_ones op w a zero f = a
shifted_by_ones op w a (suc k) f = (shift op w (shifted_by_ones op w a k f) 1 f).value

pub record ShiftLaws : Type 0 where
  -- SHL by k is k times SHL by 1, and SHR is
  pub left : (w : Width) (a k : ℕ) (f : Flags) → a < size w → k < 32 → (shift Shl w a k f).value ≡ shifted_by_ones Shl w a k f
  pub right : (w : Width) (a k : ℕ) (f : Flags) → a < size w → k < 32 → (shift Shr w a k f).value ≡ shifted_by_ones Shr w a k f
  -- ROR by k gives back what ROL by k turned, and the other way round
  pub back : (w : Width) (a k : ℕ) (f g : Flags) → a < size w → (shift Ror w (shift Rol w a k f).value k g).value ≡ a
  pub forth : (w : Width) (a k : ℕ) (f g : Flags) → a < size w → (shift Rol w (shift Ror w a k f).value k g).value ≡ a

pub record DivideLaws : Type 0 where
  -- DIV's quotient and remainder
  pub equation : (w : Width) (a b : ℕ) (q : Quotient) → divided w a b ≡ Some q → q.quotient * b + q.remainder ≡ a
  pub remainder : (w : Width) (a b : ℕ) (q : Quotient) → divided w a b ≡ Some q → q.remainder < b
  -- there is none by 0, nor where it does not fit, and one otherwise
  pub none : (w : Width) (a b : ℕ) → divided w a b ≡ None → (b ≡ 0) ⊎ (size w * b ≤ a)
  pub some : (w : Width) (a b : ℕ) → 0 < b → a < size w * b → (q : Quotient) × (divided w a b ≡ Some q)
