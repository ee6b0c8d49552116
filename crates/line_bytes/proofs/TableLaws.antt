-- A table's rows as its map holds them.
use Rattle.std.proofs.Common.{◌≡◌, ℕ, zero, suc, ◌+◌, Bool, true, false, cond, not, List, [], ◌∷◌, ◌++◌, length, Vec, Option, None, Some, is_some, refl, sym, ap, ◌∙◌}
use Rattle.std.specs.List.{position, position_or_len, slice_get}
use Rattle.std.specs.Option.{option_map}
use Rattle.std.specs.Str.{bytes_eq}
use Rattle.std.specs.Map.{keys_of, lookup}
use Rattle.std.specs.declared.alloc.Global.{Global}
use Rattle.std.proofs.lemmas.Bool.{cond-true, cond-false}
use Rattle.line_bytes.specs.Tables.{as_row, place_of, row_of, with_row}
use Rattle.line_bytes.specs.TableRows.{row_in, rows_in}

abbrev Entries : Type 0
Entries = List (Vec ℕ Global × ℕ)

abbrev pub named : List ℕ → Vec ℕ Global → Bool
named name key = bytes_eq name key.items

pub length-rows : (es : Entries) → length (rows_in es) ≡ length es
length-rows [] = refl
length-rows (e ∷ es) = ap suc (length-rows es)

length-keys : (es : Entries) → length (keys_of (rows_in es)) ≡ length (keys_of es)
length-keys [] = refl
length-keys (e ∷ es) = ap suc (length-keys es)

place-or_len : (name : List ℕ) (es : Entries) → position_or_len (bytes_eq name) (keys_of (rows_in es)) ≡ position_or_len (named name) (keys_of es)
place-or_len name [] = refl
place-or_len name (e ∷ es) = ap (λ n. cond (not (bytes_eq name e.0.items)) (1 + n) 0) (place-or_len name es)

pub place-rows : (name : List ℕ) (es : Entries) → place_of (rows_in es) name ≡ position (named name) (keys_of es)
place-rows name es = rw (place-or_len name es, length-keys es) refl

pub lookup-rows : (name : List ℕ) (es : Entries) → lookup (bytes_eq name) (rows_in es) ≡ lookup (named name) es
lookup-rows name [] = refl
lookup-rows name (e ∷ es) = ap (cond (bytes_eq name e.0.items) (Some e.1)) (lookup-rows name es)

pub row-found : (name : List ℕ) (es : Entries) (place number : ℕ) → position (named name) (keys_of es) ≡ Some place → lookup (named name) es ≡ Some number → row_of (rows_in es) name ≡ Some (place, number)
unfolding row_of
row-found name es place number p q = rw (place-rows name es ∙ p, lookup-rows name es ∙ q) refl

pub row-absent : (name : List ℕ) (es : Entries) → position (named name) (keys_of es) ≡ None → row_of (rows_in es) name ≡ None
unfolding row_of
row-absent name es p = ap (λ place. as_row place (lookup (bytes_eq name) (rows_in es))) (place-rows name es ∙ p)

pub row-kept : (name : List ℕ) (number : ℕ) (es : Entries) → is_some (position (named name) (keys_of es)) ≡ true → with_row (rows_in es) name number ≡ rows_in es
unfolding with_row
row-kept name number es h = cond-true _ _ _ (ap is_some (place-rows name es) ∙ h)

pub row-added : (name : List ℕ) (number : ℕ) (es : Entries) (key : Vec ℕ Global) → is_some (position (named name) (keys_of es)) ≡ false → key.items ≡ name → rows_in (es ++ (key, number) ∷ []) ≡ with_row (rows_in es) name number
unfolding with_row
row-added name number es key h e = behind es ∙ sym (cond-false _ _ _ (ap is_some (place-rows name es) ∙ h))
  where
    behind : (es : Entries) → rows_in (es ++ (key, number) ∷ []) ≡ rows_in es ++ (name, number) ∷ []
    behind [] = ap (λ (n : List ℕ). (n, number) ∷ []) e
    behind (x ∷ xs) = ap (λ (rest : List (List ℕ × ℕ)). row_in x ∷ rest) (behind xs)

pub none_from : {A : Type 0} (o : Option A) → is_some o ≡ false → o ≡ None
none_from None h = refl
none_from (Some x) h = absurd (cc)

abbrev pub key_of : Vec ℕ Global × ℕ → List ℕ
key_of e = e.0.items

pub name-at : (es : Entries) (place : ℕ) → slice_get (keys_of (rows_in es)) place ≡ option_map key_of (slice_get es place)
name-at [] place = refl
name-at (e ∷ es) zero = refl
name-at (e ∷ es) (suc place) = name-at es place
