-- Names of 16-bit units, compared unit by unit.
use Rattle.std.proofs.Common.{◌≡◌, ◌≢◌, ℕ, ◌<◌, Bool, true, false, List, [], ◌∷◌, map, length, get_or, Decides, refl, sym, ap, ◌∙◌, arith, zero-add}
use Rattle.std.specs.List.{range_with_len}
use Rattle.std.proofs.lemmas.List.{ext_get_or, get_or-map, length-map}
use Rattle.std.proofs.lemmas.List.FromFn.{get_or-map-range_with_len, length-map-range_with_len}
use Rattle.std.proofs.lemmas.Slice.Eq.{bytes_eq-Decides}
use Rattle.inf_text.specs.Names.{without_case, folded, is_same}

same_folded : (xs ys : List ℕ) → Decides (is_same xs ys) (folded xs ≡ folded ys)
unfolding is_same
same_folded xs ys = bytes_eq-Decides (folded xs) (folded ys)

folded_at : (xs : List ℕ) (j : ℕ) → j < length xs → get_or (folded xs) j 0 ≡ without_case (get_or xs j 0)
unfolding folded
folded_at xs j lt = get_or-map without_case xs j 0 0 lt

length_folded : (xs : List ℕ) → length (folded xs) ≡ length xs
unfolding folded
length_folded xs = length-map xs without_case

one_folded : (x : ℕ) → folded (x ∷ []) ≡ without_case x ∷ []
unfolding folded
one_folded x = refl

heads : (x y : ℕ) → x ∷ [] ≡ y ∷ [] → x ≡ y
heads x y e = cc

-- two units
units_same : (x y : ℕ) → is_same (x ∷ []) (y ∷ []) ≡ true → without_case x ≡ without_case y
units_same x y on = heads _ _ (sym (one_folded x) ∙ (same_folded (x ∷ []) (y ∷ [])).0 on ∙ one_folded y)

same_units : (x y : ℕ) → without_case x ≡ without_case y → is_same (x ∷ []) (y ∷ []) ≡ true
same_units x y e = (same_folded (x ∷ []) (y ∷ [])).1 (one_folded x ∙ ap (λ z. z ∷ []) e ∙ sym (one_folded y))

is_off : (b : Bool) → (b ≡ true → false ≡ true) → b ≡ false
is_off true h = sym (h refl)
is_off false h = refl

-- units that are read, and a name
pub same_all : (f : ℕ → ℕ) (n : ℕ) (name : List ℕ) → length name ≡ n → ((j : ℕ) → j < n → is_same (f j ∷ []) (get_or name j 0 ∷ []) ≡ true) → is_same (map f (range_with_len 0 n)) name ≡ true
same_all f n name len each =
    let xs = map f (range_with_len 0 n) in
    let count : length xs ≡ n = length-map-range_with_len f 0 n in
    (same_folded xs name).1
    (ext_get_or 0 (folded xs) (folded name) (length_folded xs ∙ count ∙ sym len ∙ sym (length_folded name)) (λ j lt.
    let small : j < n = omega (arith, lt, length_folded xs, count) in
    folded_at xs j (omega arith) ∙ ap without_case (get_or-map-range_with_len f 0 n j j 0 small (zero-add j)) ∙ units_same _ _ (each j small) ∙ sym (folded_at name j (omega arith))))

pub same_not : (f : ℕ → ℕ) (n : ℕ) (name : List ℕ) (j : ℕ) → length name ≡ n → j < n → is_same (f j ∷ []) (get_or name j 0 ∷ []) ≡ false → is_same (map f (range_with_len 0 n)) name ≡ false
same_not f n name j len small off =
    let xs = map f (range_with_len 0 n) in
    let count : length xs ≡ n = length-map-range_with_len f 0 n in
    is_off _ (λ on.
    let there : get_or (folded xs) j 0 ≡ get_or (folded name) j 0 = ap (λ l. get_or l j 0) ((same_folded xs name).0 on) in
    let units : without_case (f j) ≡ without_case (get_or name j 0) = ap without_case (sym (get_or-map-range_with_len f 0 n j j 0 small (zero-add j))) ∙ sym (folded_at xs j (omega arith)) ∙ there ∙ folded_at name j (omega arith) in
    sym off ∙ same_units _ _ units)

pub same_length_not : (f : ℕ → ℕ) (n : ℕ) (name : List ℕ) → length name ≢ n → is_same (map f (range_with_len 0 n)) name ≡ false
same_length_not f n name ne =
    let xs = map f (range_with_len 0 n) in
    let count : length xs ≡ n = length-map-range_with_len f 0 n in
    is_off _ (λ on. absurd (ne (sym (length_folded name) ∙ sym (ap length ((same_folded xs name).0 on)) ∙ length_folded xs ∙ count)))
