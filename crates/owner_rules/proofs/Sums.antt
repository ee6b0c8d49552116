-- Three counts of which none is above 0.
use Rattle.std.proofs.Common.{◌≡◌, ℕ, ◌+◌, ◌&&◌, ◌==◌, not, arith}
use Rattle.std.proofs.lemmas.Bool.Decides.{nat_tests}

pub none_of_three : (p l r : ℕ) → (not (not (p == 0)) && (not (not (l == 0)) && not (not (r == 0)))) ≡ (p + l + r == 0)
none_of_three p l r = grind (arith, nat_tests)
