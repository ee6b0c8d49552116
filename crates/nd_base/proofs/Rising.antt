-- Keys that rise, and the row that a search finds.
use Rattle.std.proofs.Common.{◌≡◌, ℕ, zero, suc, ◌+◌, ◌<◌, Bool, true, false, true≢false, ◌&&◌, List, [], ◌∷◌, map, length, get_or, Result, Ok, Err, Some, IfSome, refl, sym, ap, subst, ◌∙◌, inl, inr, arith, add-one}
use Rattle.std.specs.Ordering.{nat_cmp, is_lt, ordering_reverse, ordering_index}
use Rattle.std.specs.declared.cmp.Ordering.{Ordering}
use Rattle.std.specs.declared.cmp.Ordering.TheVariants.{Less, Equal, Greater}
use Rattle.std.specs.Cmp.{tied_itself}
use Rattle.std.specs.Cmp.Lexicographic.{slice_cmp, nat_list_cmp_total}
use Rattle.std.specs.FinMap.{nat_cmp-IsAntisymmetric, slice_cmp-IsAntisymmetric}
use Rattle.std.specs.List.{IsAllAdjacentAnswer, HoldsAt}
use Rattle.std.specs.List.Sorted.{IsSortedBy, IsNonDecreasingBy, IsPartitionPoint, IsBinarySearchResult, IsSearchInRange}
use Rattle.std.specs.Result.{result_ok}
use Rattle.std.proofs.lemmas.Bool.{and_parts, and_from, cases_lt, cases_order}
use Rattle.std.proofs.lemmas.List.{get_or-map, length-map}
use Rattle.std.proofs.lemmas.List.Sorted.{searchable_from_sorted}
use Rattle.nd_base.specs.Rows.{is_below, rise_behind, keys_rise, Rise}

abbrev order : List ℕ → List ℕ → Ordering
order = slice_cmp nat_cmp

less : (o : Ordering) → is_lt o ≡ true → o ≡ Less
less Less h = refl
less Equal h = absurd cc
less Greater h = absurd cc

below : (a b : List ℕ) → is_below a b ≡ true → order a b ≡ Less
below a b h = less (order a b) h

below_trans : (a b c : List ℕ) → is_below a b ≡ true → is_below b c ≡ true → is_below a c ≡ true
below_trans a b c p q = ap is_lt (nat_list_cmp_total.trans a b c (below a b p) (below b c q))

not_back : (a b : List ℕ) → is_below a b ≡ true → is_below b a ≡ false
not_back a b h = ap is_lt (nat_list_cmp_total.antisymm b a) ∙ ap (λ (o : Ordering). is_lt (ordering_reverse o)) (below a b h)

not_itself : (a : List ℕ) → is_below a a ≡ false
not_itself a = ap is_lt (tied_itself nat_list_cmp_total a)

no_and : (a : Bool) → (a && false) ≡ false
no_and true = refl
no_and false = refl

-- ---- the next, and all behind

behind_at : (key : List ℕ) (keys : List (List ℕ)) → rise_behind key keys ≡ true → (j : ℕ) → j < length keys → is_below key (get_or keys j []) ≡ true
behind_at key [] h j lt = absurd (omega arith)
behind_at key (next ∷ keys) h zero lt = (and_parts _ _ h).0
behind_at key (next ∷ keys) h (suc j) lt = let p = and_parts _ _ h in below_trans key next (get_or keys j []) p.0 (behind_at next keys p.1 j (omega arith))

behind_rise : (key : List ℕ) (keys : List (List ℕ)) → rise_behind key keys ≡ true → (i j : ℕ) → i < j → j < suc (length keys) → is_below (get_or (key ∷ keys) i []) (get_or (key ∷ keys) j []) ≡ true
behind_rise key keys h i zero lt within = absurd (omega arith)
behind_rise key keys h zero (suc j) lt within = behind_at key keys h j (omega arith)
behind_rise key [] h (suc i) (suc j) lt within = absurd (omega arith)
behind_rise key (next ∷ keys) h (suc i) (suc j) lt within = behind_rise next keys (and_parts _ _ h).1 i j (omega arith) (omega arith)

pub rise_at : (keys : List (List ℕ)) → keys_rise keys ≡ true → (i j : ℕ) → i < j → j < length keys → is_below (get_or keys i []) (get_or keys j []) ≡ true
rise_at [] h i j lt within = absurd (omega arith)
rise_at (key ∷ keys) h i j lt within = behind_rise key keys h i j lt within

pub rise_all : (keys : List (List ℕ)) → keys_rise keys ≡ true → Rise keys
rise_all keys h = λ i j lt within. rise_at keys h i j lt within

behind_from : (key : List ℕ) (keys : List (List ℕ)) → Rise (key ∷ keys) → rise_behind key keys ≡ true
behind_from key [] h = refl
behind_from key (next ∷ keys) h = and_from _ _ (h 0 1 (omega arith) (omega arith)) (behind_from next keys (λ i j lt within. h (suc i) (suc j) (omega arith) (omega arith)))

pub rise_from : (keys : List (List ℕ)) → Rise keys → keys_rise keys ≡ true
rise_from [] h = refl
rise_from (key ∷ keys) h = behind_from key keys h

module _ {X : Type 0} (key : X → List ℕ) where
  -- ---- what a look at each row and the next answers

  each_next : (x : X) (xs : List X) → ((k : ℕ) (d : X) → suc k < suc (length xs) → true ≡ is_below (key (get_or (x ∷ xs) k d)) (key (get_or (x ∷ xs) (suc k) d))) → rise_behind (key x) (map key xs) ≡ true
  each_next x [] h = refl
  each_next x (y ∷ ys) h = and_from _ _ (sym (h 0 x (omega arith))) (each_next y ys (λ k d lt. h (suc k) d (omega arith)))

  some_next : (x : X) (xs : List X) (k : ℕ) → suc k < suc (length xs) → ((d : X) → false ≡ is_below (key (get_or (x ∷ xs) k d)) (key (get_or (x ∷ xs) (suc k) d))) → rise_behind (key x) (map key xs) ≡ false
  some_next x [] k lt h = absurd (omega arith)
  some_next x (y ∷ ys) zero lt h = ap (λ (b : Bool). b && rise_behind (key y) (map key ys)) (sym (h x))
  some_next x (y ∷ ys) (suc k) lt h = ap (λ (b : Bool). is_below (key x) (key y) && b) (some_next y ys k (omega arith) h) ∙ no_and (is_below (key x) (key y))

  pub answer_is : (xs : List X) (r : Bool) → IsAllAdjacentAnswer (λ x y b. b ≡ is_below (key x) (key y)) xs r → r ≡ keys_rise (map key xs)
  answer_is [] true h = refl
  answer_is [] false h = let lt = h.1 in absurd (omega arith)
  answer_is (x ∷ xs) true h = sym (each_next x xs (λ k d lt. subst (λ (n : ℕ). true ≡ is_below (key (get_or (x ∷ xs) k d)) (key (get_or (x ∷ xs) n d))) (add-one k) (h k d (omega (arith, lt)))))
  answer_is (x ∷ xs) false h = sym (some_next x xs h.0 (let lt = h.1 in omega arith) (λ d. subst (λ (n : ℕ). false ≡ is_below (key (get_or (x ∷ xs) h.0 d)) (key (get_or (x ∷ xs) n d))) (add-one h.0) (h.2 d)))

  -- ---- the place of a key

  module _ (xs : List X) (rising : keys_rise (map key xs) ≡ true) where
    rows_rise : (i j : ℕ) (d : X) → i < j → j < length xs → is_below (key (get_or xs i d)) (key (get_or xs j d)) ≡ true
    rows_rise i j d lt within =
        let first = get_or-map key xs i d [] (omega arith) in
        let second = get_or-map key xs j d [] within in
        let len = length-map xs key in
        let is = rise_at (map key xs) rising i j lt (omega arith) in
        rw (← first, ← second) is

    sorted : IsSortedBy (λ a b. is_lt (order (key a) (key b))) xs
    sorted = λ k d low high. not_back (key (get_or xs k d)) (key (get_or xs (k + 1) d)) (rows_rise k (k + 1) d (omega arith) high)

    -- two rows of one key stand at one place
    one_place : (i j : ℕ) (d : X) → i < length xs → j < length xs → key (get_or xs i d) ≡ key (get_or xs j d) → i ≡ j
    one_place i j d in_i in_j same = elim (cases_order i j) [
      | inl is ↦ is
      | inr (inl lt) ↦ absurd (true≢false (sym (rows_rise i j d lt in_j) ∙ ap (is_below (key (get_or xs i d))) (sym same) ∙ not_itself (key (get_or xs i d))))
      | inr (inr gt) ↦ absurd (true≢false (sym (rows_rise j i d gt in_i) ∙ ap (is_below (key (get_or xs j d))) same ∙ not_itself (key (get_or xs j d))))
    ]

    searchable : (k : List ℕ) → IsNonDecreasingBy (λ y. ordering_index (order (key y) k)) xs
    searchable k = searchable_from_sorted nat_list_cmp_total key xs k sorted

  equal_keys : (row : X) (k : List ℕ) → order (key row) k ≡ Equal → key row ≡ k
  equal_keys row k is = slice_cmp-IsAntisymmetric nat_cmp-IsAntisymmetric (key row) k is

  same_key : (row : X) (k : List ℕ) → key row ≡ k → order (key row) k ≡ Equal
  same_key row k is = ap (λ (x : List ℕ). order x k) is ∙ tied_itself nat_list_cmp_total k

  pub place_found : (xs : List X) (k : List ℕ) (r : Result ℕ ℕ) → IsSearchInRange r (length xs) → IsBinarySearchResult (λ y. order (key y) k) xs r → IfSome (result_ok r) (λ place. (place < length xs) × HoldsAt (λ row. key row ≡ k) xs place)
  place_found xs k (Ok p) within is = (within, λ d. equal_keys (get_or xs p d) k (is d))
  place_found xs k (Err i) within is = tt

  no_place : (xs : List X) (k : List ℕ) (i place : ℕ) (row : X) → IsPartitionPoint (λ y. order (key y) k ≡ Less) (λ y. order (key y) k ≡ Greater) xs i → place < length xs → key (get_or xs place row) ≡ k → ⊥
  no_place xs k i place row parts lt same =
      let equal = same_key (get_or xs place row) k same in
      elim (cases_lt place i) [
        | inl front ↦ let e = parts.0 place row (omega arith) front in absurd cc
        | inr behind ↦ let e = parts.1 place row behind lt in absurd cc
      ]

  pub place_only : (xs : List X) (k : List ℕ) (r : Result ℕ ℕ) → IsSearchInRange r (length xs) → IsBinarySearchResult (λ y. order (key y) k) xs r → keys_rise (map key xs) ≡ true
      → (place : ℕ) (row : X) → place < length xs → key (get_or xs place row) ≡ k → result_ok r ≡ Some place
  place_only xs k (Ok p) within is rising place row lt same = ap Some (one_place xs rising p place row within lt (equal_keys (get_or xs p row) k (is row) ∙ sym same))
  place_only xs k (Err i) within is rising place row lt same = absurd (no_place xs k i place row (is (searchable xs rising k)) lt same)
