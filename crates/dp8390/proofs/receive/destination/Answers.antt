use Rattle.std.proofs.Common.{◌≡◌, ℕ, List, [], ◌∷◌, ◌++◌, length, take, drop, min, refl, arith}
use Rattle.dp8390.specs.Ring.{destination_of}
use Rattle.dp8390.proofs.receive.destination.Goals as goal

-- zeros with the first bytes of a frame in front
destination_is : (f : List ℕ) → take (min (length f) 6) f ++ drop (min (length f) 6) (0 ∷ 0 ∷ 0 ∷ 0 ∷ 0 ∷ 0 ∷ []) ≡ destination_of f
destination_is [] = refl
destination_is (_ ∷ []) = refl
destination_is (_ ∷ _ ∷ []) = refl
destination_is (_ ∷ _ ∷ _ ∷ []) = refl
destination_is (_ ∷ _ ∷ _ ∷ _ ∷ []) = refl
destination_is (_ ∷ _ ∷ _ ∷ _ ∷ _ ∷ []) = refl
destination_is (a ∷ b ∷ c ∷ d ∷ e ∷ f ∷ rest) =
    let six : min (length (a ∷ b ∷ c ∷ d ∷ e ∷ f ∷ rest)) 6 ≡ 6 = omega arith in rw six refl

pub returns : goal.returns
returns c = rw (c.copy_from_slice.ensures.after, c.min-count.ensures) (destination_is c.args.frame.now)
