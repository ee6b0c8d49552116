-- Numbers from n up to a count: the contexts', the adapters'.
use Rattle.std.proofs.Common.{◌≡◌, ℕ, zero, suc, ◌+◌, ◌-◌, ◌<◌, ◌≤◌, Bool, true, false, ◌&&◌, ◌||◌, List, [], ◌∷◌, ◌++◌, length, refl, ap, ◌∙◌, arith}
use Rattle.std.specs.List.{list_any, list_all, range_with_len}
use Rattle.legal_run.specs.State.{numbers, all_contexts}

pub numbers_are : {A : Type 0} (n : ℕ) (xs : List A) → numbers n xs ≡ range_with_len n (length xs)
numbers_are n [] = refl
numbers_are n (x ∷ xs) = ap (λ ns. n ∷ ns) (numbers_are (suc n) xs ∙ ap (λ k. range_with_len k (length xs)) (one_more n))
  where
    one_more : (n : ℕ) → suc n ≡ n + 1
    one_more n = omega arith

pub contexts_are : all_contexts ≡ range_with_len 0 16
contexts_are = refl

pub range_front : (n count : ℕ) → n < count → range_with_len n (count - n) ≡ n ∷ range_with_len (n + 1) (count - (n + 1))
range_front n count lt = ap (range_with_len n) (one_more n count lt)
  where
    one_more : (n count : ℕ) → n < count → count - n ≡ suc (count - (n + 1))
    one_more n count lt = omega arith

pub range_end : (n count : ℕ) → count ≤ n → range_with_len n (count - n) ≡ []
range_end n count le = ap (range_with_len n) (none_left n count le)
  where
    none_left : (n count : ℕ) → count ≤ n → count - n ≡ 0
    none_left n count le = omega arith

pub range_back : (a n : ℕ) → range_with_len a (n + 1) ≡ range_with_len a n ++ (a + n) ∷ []
range_back a n = ap (range_with_len a) (one_more n) ∙ behind a n
  where
    one_more : (n : ℕ) → n + 1 ≡ suc n
    one_more n = omega arith

    behind : (a n : ℕ) → range_with_len a (suc n) ≡ range_with_len a n ++ (a + n) ∷ []
    behind a zero = ap (λ k. k ∷ []) (same a)
      where
        same : (a : ℕ) → a ≡ a + 0
        same a = omega arith
    behind a (suc n) = ap (λ ns. a ∷ ns) (behind (a + 1) n ∙ ap (λ k. range_with_len (a + 1) n ++ k ∷ []) (moved a n))
      where
        moved : (a n : ℕ) → (a + 1) + n ≡ a + suc n
        moved a n = omega arith

pub range_grows : (n : ℕ) → range_with_len 0 (n + 1) ≡ range_with_len 0 n ++ n ∷ []
range_grows n = range_back 0 n ∙ ap (λ k. range_with_len 0 n ++ k ∷ []) (itself n)
  where
    itself : (n : ℕ) → 0 + n ≡ n
    itself n = omega arith

-- ---- whether some pass, whether all pass

pub none_more : (p : ℕ → Bool) (n count : ℕ) → n < count → p n ≡ false → list_any p (range_with_len n (count - n)) ≡ list_any p (range_with_len (n + 1) (count - (n + 1)))
none_more p n count lt fails = ap (list_any p) (range_front n count lt) ∙ ap (λ b. b || list_any p (range_with_len (n + 1) (count - (n + 1)))) fails

pub one_passes : (p : ℕ → Bool) (n count : ℕ) → n < count → p n ≡ true → list_any p (range_with_len n (count - n)) ≡ true
one_passes p n count lt holds = ap (list_any p) (range_front n count lt) ∙ ap (λ b. b || list_any p (range_with_len (n + 1) (count - (n + 1)))) holds

pub none_passed : (p : ℕ → Bool) (n count : ℕ) → count ≤ n → list_any p (range_with_len n (count - n)) ≡ false
none_passed p n count le = ap (list_any p) (range_end n count le)

pub all_more : (p : ℕ → Bool) (n count : ℕ) → n < count → p n ≡ true → list_all p (range_with_len n (count - n)) ≡ list_all p (range_with_len (n + 1) (count - (n + 1)))
all_more p n count lt holds = ap (list_all p) (range_front n count lt) ∙ ap (λ b. b && list_all p (range_with_len (n + 1) (count - (n + 1)))) holds

pub not_all : (p : ℕ → Bool) (n count : ℕ) → n < count → p n ≡ false → list_all p (range_with_len n (count - n)) ≡ false
not_all p n count lt fails = ap (list_all p) (range_front n count lt) ∙ ap (λ b. b && list_all p (range_with_len (n + 1) (count - (n + 1)))) fails

pub all_passed : (p : ℕ → Bool) (n count : ℕ) → count ≤ n → list_all p (range_with_len n (count - n)) ≡ true
all_passed p n count le = ap (list_all p) (range_end n count le)
