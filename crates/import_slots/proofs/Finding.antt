-- The first import that passes a test, or none.
use Rattle.std.proofs.Common.{◌≡◌, ℕ, zero, suc, ◌<◌, Bool, true, false, cond, List, [], ◌∷◌, length, get_or, Some, None, refl, sym, ap, ◌∙◌, arith}
use Rattle.std.specs.List.{find}
use Rattle.std.proofs.lemmas.Option.{none-some, same_Some}
use Rattle.pe_image.specs.Image.{ImportParts}

module _ (test : ImportParts → Bool) where
  -- ---- none passes
  none_step : (t : Bool) (first : ImportParts) (imports : List ImportParts) (k : ℕ) (d : ImportParts) → test first ≡ t → cond t (Some first) (find test imports) ≡ None → k < suc (length imports) → ((j : ℕ) → find test imports ≡ None → j < length imports → test (get_or imports j d) ≡ false) → test (get_or (first ∷ imports) k d) ≡ false
  none_step true first imports k d e h less more = absurd (none-some first (sym h))
  none_step false first imports zero d e h less more = e
  none_step false first imports (suc k) d e h less more = more k h (omega arith)

  pub none_passes : (imports : List ImportParts) (k : ℕ) (d : ImportParts) → find test imports ≡ None → k < length imports → test (get_or imports k d) ≡ false
  none_passes [] k d h less = absurd (omega arith)
  none_passes (first ∷ imports) k d h less = none_step (test first) first imports k d refl h less (λ j none short. none_passes imports j d none short)

  -- ---- the first that passes
  pub record IsFirst (imports : List ImportParts) (import : ImportParts) : Type 0 where
    pub place : ℕ
    pub inside : place < length imports
    pub here : (d : ImportParts) → get_or imports place d ≡ import
    pub passes : test import ≡ true
    pub before : (j : ℕ) (d : ImportParts) → j < place → test (get_or imports j d) ≡ false

  none_before : (j : ℕ) (imports : List ImportParts) (d : ImportParts) → j < 0 → test (get_or imports j d) ≡ false
  none_before j imports d less = absurd (omega arith)

  at_front : (first import : ImportParts) (imports : List ImportParts) → test first ≡ true → first ≡ import → IsFirst (first ∷ imports) import
  at_front first import imports e same = record { place = 0; inside = omega arith; here = λ d. same; passes = ap test (sym same) ∙ e; before = λ j d less. none_before j (first ∷ imports) d less }

  one_before : (first : ImportParts) (imports : List ImportParts) (place j : ℕ) (d : ImportParts) → test first ≡ false → ((i : ℕ) → i < place → test (get_or imports i d) ≡ false) → j < suc place → test (get_or (first ∷ imports) j d) ≡ false
  one_before first imports place zero d e more less = e
  one_before first imports place (suc j) d e more less = more j (omega arith)

  behind : (first import : ImportParts) (imports : List ImportParts) → test first ≡ false → IsFirst imports import → IsFirst (first ∷ imports) import
  behind first import imports e f = let inside = f.inside in record {
    place = suc f.place;
    inside = omega arith;
    here = f.here;
    passes = f.passes;
    before = λ j d less. one_before first imports f.place j d e (λ i short. f.before i d short) less;
  }

  first_at : (t : Bool) (first import : ImportParts) (imports : List ImportParts) → test first ≡ t → cond t (Some first) (find test imports) ≡ Some import → (find test imports ≡ Some import → IsFirst imports import) → IsFirst (first ∷ imports) import
  first_at true first import imports e h more = at_front first import imports e (same_Some first import h)
  first_at false first import imports e h more = behind first import imports e (more h)

  pub first_found : (imports : List ImportParts) (import : ImportParts) → find test imports ≡ Some import → IsFirst imports import
  first_found [] import h = absurd (none-some import h)
  first_found (first ∷ imports) import h = first_at (test first) first import imports refl h (first_found imports import)
