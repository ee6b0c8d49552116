-- Words of a call, with zeros behind them.
use Rattle.std.proofs.Common.{◌≡◌, ◌≤◌, ℕ, List, [], ◌∷◌, ◌++◌, length, take, replicate, slice_index_or, refl, ap, ◌∙◌}
use Rattle.std.proofs.lemmas.List.{take-take, take_at}
use Rattle.import_answers.specs.Answers.{eight}

pub eight_of : (w : List ℕ)
    → slice_index_or w 0 0 ∷ slice_index_or w 1 0 ∷ slice_index_or w 2 0 ∷ slice_index_or w 3 0 ∷ slice_index_or w 4 0 ∷ slice_index_or w 5 0 ∷ slice_index_or w 6 0 ∷ slice_index_or w 7 0 ∷ []
    ≡ eight w
eight_of [] = refl
eight_of (a ∷ []) = refl
eight_of (a ∷ b ∷ []) = refl
eight_of (a ∷ b ∷ c ∷ []) = refl
eight_of (a ∷ b ∷ c ∷ d ∷ []) = refl
eight_of (a ∷ b ∷ c ∷ d ∷ e ∷ []) = refl
eight_of (a ∷ b ∷ c ∷ d ∷ e ∷ f ∷ []) = refl
eight_of (a ∷ b ∷ c ∷ d ∷ e ∷ f ∷ g ∷ []) = refl
eight_of (a ∷ b ∷ c ∷ d ∷ e ∷ f ∷ g ∷ h ∷ more) = refl

pub zeros : (w : List ℕ) → length w ≤ 8 → eight (take (length w) (eight w)) ≡ eight w
zeros w few = ap eight (take-take (length w) 8 (w ++ replicate 8 0) few ∙ take_at w (replicate 8 0) (length w) refl)
