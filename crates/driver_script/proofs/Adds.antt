-- Lists of lists of which one gets one more item.
use Rattle.std.proofs.Common.{◌≡◌, ℕ, zero, suc, ◌+◌, ◌-◌, ◌<◌, ◌≤◌, Bool, true, false, ltb, List, [], ◌∷◌, ◌++◌, length, map, get_or, set, Option, Some, None, refl, sym, ap, subst, ◌∙◌, arith}
use Rattle.std.specs.Option.{is_some}
use Rattle.std.proofs.lemmas.Bool.{ltb-true, ltb-false}
use Rattle.std.proofs.lemmas.List.{map-set, get_or-map, length-map}
use Rattle.driver_script.specs.declared.section_lines.Line.{Line}
use Rattle.driver_script.specs.Reading.{onto_last}

pub there : {X : Type 0} (r : Option X) (x : X) (low len : ℕ) → is_some r ≡ ltb low len → r ≡ Some x → low < len
there {X} r x low len h e = ltb-true low len (sym h ∙ ap (λ (o : Option X). is_some o) e)

pub not_there : {X : Type 0} (r : Option X) (low len : ℕ) → is_some r ≡ ltb low len → r ≡ None → len ≤ low
not_there {X} r low len h e = ltb-false low len (sym h ∙ ap (λ (o : Option X). is_some o) e)

pub add_at : {X A : Type 0} (f : X → List A) (xs : List X) (i : ℕ) (x y : X) (p : A) → i < length xs → x ≡ get_or xs i x → f y ≡ f x ++ p ∷ [] → map f (set xs i y) ≡ set (map f xs) i (get_or (map f xs) i [] ++ p ∷ [])
add_at {X} {A} f xs i x y p lt here more =
    map-set f xs i y
    ∙ ap (λ (z : List A). set (map f xs) i z) (more ∙ ap (λ (z : List A). z ++ p ∷ []) (ap f here ∙ sym (get_or-map f xs i x [] lt)))

pub set_none : {A : Type 0} (xs : List A) (i : ℕ) (y : A) → length xs ≤ i → set xs i y ≡ xs
set_none [] i y h = refl
set_none (x ∷ xs) zero y h = absurd (omega arith)
set_none {A} (x ∷ xs) (suc i) y h = ap (λ (zs : List A). x ∷ zs) (set_none xs i y (omega arith))

pub onto_last_at : (xs : List (List Line)) (line : Line) → 0 < length xs → set xs (length xs - 1) (get_or xs (length xs - 1) [] ++ line ∷ []) ≡ onto_last xs line
onto_last_at [] line h = absurd (omega arith)
onto_last_at (x ∷ []) line h = refl
onto_last_at (x ∷ y ∷ xs) line h =
    let e : length (x ∷ y ∷ xs) - 1 ≡ suc (length (y ∷ xs) - 1) = omega arith in
    ap (λ (k : ℕ). set (x ∷ y ∷ xs) k (get_or (x ∷ y ∷ xs) k [] ++ line ∷ [])) e ∙ ap (λ (zs : List (List Line)). x ∷ zs) (onto_last_at (y ∷ xs) line (omega arith))

pub onto_none : (xs : List (List Line)) (line : Line) → length xs ≤ 0 → onto_last xs line ≡ xs
onto_none [] line h = refl
onto_none (x ∷ xs) line h = absurd (omega arith)
