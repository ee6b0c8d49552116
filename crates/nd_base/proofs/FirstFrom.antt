-- The first of some numbers that passes a test.
use Rattle.std.proofs.Common.{◌≡◌, ℕ, zero, suc, ◌+◌, ◌-◌, ◌<◌, ◌≤◌, Bool, true, false, leb, Some, None, refl, subst, inl, inr, arith, add-one}
use Rattle.std.proofs.lemmas.Bool.{cases_Bool, cases_lt, leb-true, leb-false}
use Rattle.nd_base.specs.LayoutText.{first_from}

-- the first number that passes
pub passes : (test : ℕ → Bool) (i n : ℕ) → i < n → test i ≡ true → first_from test i (n - i) ≡ Some i
unfolding first_from
passes test i n lt h = let k : n - i ≡ suc (n - (i + 1)) = omega arith in rw (k, h) refl

pub goes_by : (test : ℕ → Bool) (i n : ℕ) → i < n → test i ≡ false → first_from test (i + 1) (n - (i + 1)) ≡ first_from test i (n - i)
unfolding first_from
goes_by test i n lt h = let k : n - i ≡ suc (n - (i + 1)) = omega arith in rw (k, h, add-one) refl

pub none_passed : (test : ℕ → Bool) (i n : ℕ) → n ≤ i → first_from test i (n - i) ≡ None
unfolding first_from
none_passed test i n le = let k : n - i ≡ 0 = omega arith in rw k refl

pub first_found : (test : ℕ → Bool) (i n k : ℕ) → first_from test i n ≡ Some k → (i ≤ k) × (k < i + n) × (test k ≡ true)
unfolding first_from
first_found test i zero k h = absurd cc
first_found test i (suc n) k h = elim (cases_Bool (test i)) [
  | inl on ↦ let e : Some i ≡ Some k = rw on at h in let same : i ≡ k = cc in (omega arith, omega arith, subst (λ (m : ℕ). test m ≡ true) same on)
  | inr off ↦ let p = first_found test (suc i) n k (rw off at h) in (omega arith, omega arith, p.2)
]

-- none in front of it passes
pub first_before : (test : ℕ → Bool) (i n k : ℕ) → first_from test i n ≡ Some k → (m : ℕ) → i ≤ m → m < k → test m ≡ false
unfolding first_from
first_before test i zero k h m le lt = absurd cc
first_before test i (suc n) k h m le lt = elim (cases_Bool (test i)) [
  | inl on ↦ let e : Some i ≡ Some k = rw on at h in let same : i ≡ k = cc in absurd (omega arith)
  | inr off ↦ elim (cases_lt i m) [
    | inl less ↦ first_before test (suc i) n k (rw off at h) m (omega arith) lt
    | inr more ↦ let e : i ≡ m = omega arith in subst (λ (x : ℕ). test x ≡ false) e off
  ]
]

pub first_none : (test : ℕ → Bool) (i n : ℕ) → first_from test i n ≡ None → (k : ℕ) → i ≤ k → k < i + n → test k ≡ false
unfolding first_from
first_none test i zero h k le lt = absurd (omega arith)
first_none test i (suc n) h k le lt = elim (cases_Bool (test i)) [
  | inl on ↦ let e : Some i ≡ None = rw on at h in absurd cc
  | inr off ↦ elim (cases_Bool (leb (suc i) k)) [
    | inl less ↦ first_none test (suc i) n (rw off at h) k (leb-true (suc i) k less) (omega arith)
    | inr more ↦ let le2 = leb-false (suc i) k more in let e : i ≡ k = omega arith in subst (λ (m : ℕ). test m ≡ false) e off
  ]
]
