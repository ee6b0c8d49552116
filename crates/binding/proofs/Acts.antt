-- What a protocol asks is a function of what it was told.
use Rattle.std.proofs.Common.{◌≡◌, List, [], ◌∷◌, map, Some, refl, sym, ap, ◌∙◌}
use Rattle.binding.specs.declared.events.Event.{Event}
use Rattle.binding.specs.Meaning.{Meaning}
use Rattle.binding.specs.Loop.{Loop, asks, after}
use Rattle.binding.specs.Turns.{Turn, Made, outcome_of, event_of, ActsAreToldFor}

told_same : {P : Type 0} (m : Meaning P) (x y z : Loop P) (ts us : List Turn) → Made m x ts y → Made m x us z → map outcome_of ts ≡ map outcome_of us → (map event_of ts ≡ map event_of us) × (y ≡ z)
told_same {P} m x y z [] [] a b e = (refl, sym a ∙ b)
told_same {P} m x y z [] (u ∷ us) a b e = absurd (cc)
told_same {P} m x y z (t ∷ ts) [] a b e = absurd (cc)
told_same {P} m x y z (t ∷ ts) (u ∷ us) a b e =
    let same : t.outcome ≡ u.outcome = cc in
    let others : map outcome_of ts ≡ map outcome_of us = cc in
    let before = told_same m x a.0 b.0 ts us a.1 b.1 others in
    let event : Some t.event ≡ Some u.event = sym a.2 ∙ (ap (asks m) before.1 ∙ b.2) in
    let is : t.event ≡ u.event = cc in (
      ap (λ (v : Event). v ∷ map event_of ts) is ∙ ap (λ (vs : List Event). u.event ∷ vs) before.0,
      a.3 ∙ (ap (λ (v : Loop P). after m v t.outcome) before.1 ∙ (ap (after m b.0) same ∙ sym b.3)),
    )

pub acts_told : {P : Type 0} (m : Meaning P) → ActsAreToldFor m
acts_told m = λ x y z ts us a b e. told_same m x y z ts us a b e
