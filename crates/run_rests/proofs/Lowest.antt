-- The lowest number that passes.
use Rattle.std.proofs.Common.{◌≡◌, ℕ, ◌+◌, ◌-◌, ◌<◌, ◌≤◌, Bool, true, false, cond, ◌∷◌, filter, Some, None, ap, ◌∙◌}
use Rattle.std.specs.List.{range_with_len}
use Rattle.legal_run.specs.Owed.{first}
use Rattle.run_rests.proofs.Counted.{range_front, range_end}

pub first_more : (p : ℕ → Bool) (n count : ℕ) → n < count → p n ≡ false → first (filter p (range_with_len n (count - n))) ≡ first (filter p (range_with_len (n + 1) (count - (n + 1))))
first_more p n count lt fails = ap (λ ns. first (filter p ns)) (range_front n count lt) ∙ ap (λ b. first (cond b (n ∷ filter p (range_with_len (n + 1) (count - (n + 1)))) (filter p (range_with_len (n + 1) (count - (n + 1)))))) fails

pub first_found : (p : ℕ → Bool) (n count : ℕ) → n < count → p n ≡ true → first (filter p (range_with_len n (count - n))) ≡ Some n
first_found p n count lt holds = ap (λ ns. first (filter p ns)) (range_front n count lt) ∙ ap (λ b. first (cond b (n ∷ filter p (range_with_len (n + 1) (count - (n + 1)))) (filter p (range_with_len (n + 1) (count - (n + 1)))))) holds

pub none_found : (p : ℕ → Bool) (n count : ℕ) → count ≤ n → first (filter p (range_with_len n (count - n))) ≡ None
none_found p n count le = ap (λ ns. first (filter p ns)) (range_end n count le)
