-- A field's value fits exactly where its number is in its range.
use Rattle.std.proofs.Common.{◌≡◌, ℕ, suc, ◌^◌, ◌<◌, ◌≤◌, Bool, true, false, List, [], ◌∷◌, length, get_or, refl, arith}
use Rattle.std.specs.Prelude.{nat_le}
use Rattle.std.specs.List.{AllByRecursion}
use Rattle.std.proofs.lemmas.Bool.{leb-true, le-leb}
use Rattle.log_fields.specs.Fields.{small, medium, large, flag, flag_of, width, rule, direction, cause, cause_of, caused, Caused, HasRule}
use Rattle.log_fields.specs.NameLaws.{cause_found}
use Rattle.log_fields.specs.declared.field_values.Direction.{Direction}
use Rattle.log_fields.specs.declared.field_values.Direction.TheVariants as directions
use Rattle.log_fields.specs.declared.names.CauseKind.TheVariants as cause_kinds
use Rattle.log_fields.specs.declared.field_values.Cause.{Cause}
use Rattle.log_fields.specs.declared.field_values.Cause.TheVariants as causes

pub width_range : (n : ℕ) → width.fits n → (1 ≤ n) × (n ≤ 2)
unfolding width
width_range n h = (leb-true 1 n h.1, h.0)

pub rule_range : (n : ℕ) → rule.fits n → (1 ≤ n) × (n ≤ 14)
unfolding rule
rule_range n h = (leb-true 1 n h.1, h.0)

pub cause_range : (c : Cause) → (caused (cause_of c).0).fits (cause_of c).1 → HasRule c
cause_range (causes.Breach n) h = rule_range n.0 h
cause_range causes.Budget h = tt
cause_range causes.Memory h = tt

-- ---- what is in its range fits

pub small_fits : (n : ℕ) → n < 2 ^ 8 → small.fits n
unfolding small
small_fits n h = omega arith

pub medium_fits : (n : ℕ) → n < 2 ^ 32 → medium.fits n
unfolding medium
medium_fits n h = omega arith

pub large_fits : (n : ℕ) → n < 2 ^ 64 → large.fits n
unfolding large
large_fits n h = omega arith

pub flag_fits : (b : Bool) → flag.fits (flag_of b)
unfolding flag
flag_fits false = omega arith
flag_fits true = omega arith

pub width_fits : (n : ℕ) → 1 ≤ n → n ≤ 2 → width.fits n
unfolding width
width_fits n low high = (high, le-leb 1 n low)

rule_fits : (n : ℕ) → 1 ≤ n → n ≤ 14 → rule.fits n
unfolding rule
rule_fits n low high = (high, le-leb 1 n low)

pub all_fit : {A : Type 0} (P : A → Type 0) (xs : List A) (d : A) → ((i : ℕ) → i < length xs → P (get_or xs i d)) → AllByRecursion P xs
all_fit P [] d h = tt
all_fit P (x ∷ xs) d h = (h 0 (omega arith), all_fit P xs d (λ i less. h (suc i) (omega arith)))

pub direction_fits : (d : Direction) → direction.fits d
direction_fits directions.In = refl
direction_fits directions.Out = refl

pub cause_fits : (c : Cause) → HasRule c → cause.fits (cause_of c)
cause_fits (causes.Breach n) h = (cause_found cause_kinds.Breach, rule_fits n.0 h.0 h.1)
cause_fits causes.Budget h = (cause_found cause_kinds.Budget, tt)
cause_fits causes.Memory h = (cause_found cause_kinds.Memory, tt)
