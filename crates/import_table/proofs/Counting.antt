-- A test that each number from 1 to 64 passes.
use Rattle.std.proofs.Common.{◌≡◌, ℕ, zero, suc, ◌+◌, ◌<◌, ◌≤◌, Bool, true, false, refl, sym, subst, arith}
use Rattle.std.specs.Prelude.{◌&&◌, ◌==◌}
use Rattle.std.proofs.lemmas.Bool.{and_parts, eqb-true, eqb-false}

-- m numbers from k on pass
abbrev pub all_from : (ℕ → Bool) → ℕ → ℕ → Bool
all_from test k zero = true
all_from test k (suc m) = test k && all_from test (suc k) m

at_first : (test : ℕ → Bool) (k n : ℕ) → n ≡ k → test k ≡ true → test n ≡ true
at_first test k n e h = subst (λ (i : ℕ). test i ≡ true) (sym e) h

step : (test : ℕ → Bool) (m k n : ℕ) → test k ≡ true → (suc k ≤ n → n < suc k + m → test n ≡ true) → k ≤ n → n < k + suc m → (t : Bool) → (n == k) ≡ t → test n ≡ true
step test m k n h more low high true e = at_first test k n (eqb-true n k e) h
step test m k n h more low high false e = let d = eqb-false n k e in more (omega arith) (omega arith)

from : (test : ℕ → Bool) (m k n : ℕ) → all_from test k m ≡ true → k ≤ n → n < k + m → test n ≡ true
from test zero k n h low high = absurd (omega arith)
from test (suc m) k n h low high = step test m k n (and_parts _ _ h).0 (from test m (suc k) n (and_parts _ _ h).1) low high (n == k) refl

pub passes : (test : ℕ → Bool) (n : ℕ) → all_from test 1 64 ≡ true → 1 ≤ n → n ≤ 64 → test n ≡ true
passes test n h low high = from test 64 1 n h low (omega arith)
