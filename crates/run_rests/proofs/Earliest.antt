-- The least of the moments that are to come.
use Rattle.std.proofs.Common.{◌≡◌, ℕ, ◌+◌, true, false, min, cond, List, [], ◌∷◌, ◌++◌, filter, Option, Some, None, refl, sym, ap, ◌∙◌, arith}
use Rattle.std.specs.Prelude.{nat_lt}
use Rattle.std.specs.Option.{option_map_or}
use Rattle.std.specs.List.{cons_option, filter_map, range_with_len}
use Rattle.std.proofs.lemmas.List.Elements.{filter-append, filter_map-append}
use Rattle.legal_run.specs.Owed.{least}
use Rattle.miniport.specs.Waiting.{earlier}
use Rattle.run_rests.specs.Moments.{to_come}
use Rattle.run_rests.proofs.Counted.{range_grows}

-- ---- of two lists

min_three : (a b c : ℕ) → min a (min b c) ≡ min (min a b) c
min_three a b c = grind arith

joined : (m : ℕ) (one other : Option ℕ) → Some (option_map_or (λ n. min m n) (earlier one other) m) ≡ earlier (Some (option_map_or (λ n. min m n) one m)) other
joined m None None = refl
joined m None (Some y) = refl
joined m (Some x) None = refl
joined m (Some x) (Some y) = ap (λ n. Some n) (min_three m x y)

pub least_of_both : (xs ys : List ℕ) → least (xs ++ ys) ≡ earlier (least xs) (least ys)
unfolding least
least_of_both [] ys = refl
least_of_both (m ∷ xs) ys = ap (λ r. Some (option_map_or (λ n. min m n) r m)) (least_of_both xs ys) ∙ joined m (least xs) (least ys)

-- those above the clock
abbrev pub above : ℕ → List ℕ → List ℕ
above now ms = filter (λ m. nat_lt now m) ms

pub above_both : (now : ℕ) (xs ys : List ℕ) → least (above now (xs ++ ys)) ≡ earlier (least (above now xs)) (least (above now ys))
above_both now xs ys = ap least (filter-append (λ m. nat_lt now m) xs ys) ∙ least_of_both (above now xs) (above now ys)

least_one : (m : ℕ) → least (m ∷ []) ≡ Some m
unfolding least
least_one m = refl

pub least_none : least [] ≡ None
unfolding least
least_none = refl

pub above_one : (now m : ℕ) → least (above now (m ∷ [])) ≡ to_come now (Some m)
above_one now m = elim (nat_lt now m) as (λ b. least (cond b (m ∷ []) []) ≡ cond b (Some m) None) [ true ↦ least_one m | false ↦ least_none ]

-- ---- of those that some numbers have

abbrev pub earliest_of : ℕ → (ℕ → Option ℕ) → List ℕ → Option ℕ
earliest_of now moment ns = least (above now (filter_map moment ns))

of_one : (now : ℕ) (moment : ℕ → Option ℕ) (n : ℕ) (r : Option ℕ) → moment n ≡ r → earliest_of now moment (n ∷ []) ≡ to_come now r
of_one now moment n None e = ap (λ r. least (above now (cons_option r []))) e ∙ least_none
of_one now moment n (Some m) e = ap (λ r. least (above now (cons_option r []))) e ∙ above_one now m

pub earliest_grows : (now : ℕ) (moment : ℕ → Option ℕ) (n : ℕ) → earliest_of now moment (range_with_len 0 (n + 1)) ≡ earlier (earliest_of now moment (range_with_len 0 n)) (to_come now (moment n))
earliest_grows now moment n =
    ap (earliest_of now moment) (range_grows n)
    ∙ ap (λ ms. least (above now ms)) (filter_map-append moment (range_with_len 0 n) (n ∷ []))
    ∙ above_both now (filter_map moment (range_with_len 0 n)) (filter_map moment (n ∷ []))
    ∙ ap (earlier (earliest_of now moment (range_with_len 0 n))) (of_one now moment n (moment n) refl)

-- one number more, as it is computed
pub one_more : (now at : ℕ) (moment : ℕ → Option ℕ) (n : ℕ) (first one mine r : Option ℕ) → at ≡ now → first ≡ earliest_of now moment (range_with_len 0 n) → one ≡ moment n → mine ≡ to_come at one → r ≡ earlier first mine → r ≡ earliest_of now moment (range_with_len 0 (n + 1))
one_more now at moment n first one mine r is_now so_far is_one is_mine is =
    is
    ∙ (λ i. earlier (so_far i) (is_mine i))
    ∙ (λ i. earlier (earliest_of now moment (range_with_len 0 n)) (to_come (is_now i) (is_one i)))
    ∙ sym (earliest_grows now moment n)

pub all_of_them : (now : ℕ) (moment : ℕ → Option ℕ) (n count : ℕ) (first : Option ℕ) → n ≡ count → first ≡ earliest_of now moment (range_with_len 0 n) → first ≡ earliest_of now moment (range_with_len 0 count)
all_of_them now moment n count first end so_far = so_far ∙ ap (λ k. earliest_of now moment (range_with_len 0 k)) end
