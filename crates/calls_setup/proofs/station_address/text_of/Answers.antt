use Rattle.std.proofs.Common.{◌≡◌, ℕ, ◌+◌, ◌<◌, List, map, length, get_or, slice_set, inl, inr, sym, ap, ◌∙◌, arith}
use Rattle.std.proofs.lemmas.List.{ext_get_or, get_or-map, length-map, length-set, get_or-set_other}
use Rattle.std.proofs.lemmas.Grind.{get_or-set_at}
use Rattle.std.proofs.lemmas.Bool.{cases_eq}
use Rattle.calls_setup.specs.Digits.{clipped}
use Rattle.calls_setup.proofs.station_address.text_of.Goals as goal

one_more : (text digits : List ℕ) (k v : ℕ) → k < length text → v ≡ clipped (get_or digits k 0) → ((j : ℕ) → j < k → get_or text j 0 ≡ clipped (get_or digits j 0)) → (j : ℕ) → j < k + 1 → get_or (slice_set text k v) j 0 ≡ clipped (get_or digits j 0)
one_more text digits k v lt is before j below = elim (cases_eq j k) [
  | inl e ↦ get_or-set_at text k j v 0 e lt ∙ is ∙ ap (λ i. clipped (get_or digits i 0)) (sym e)
  | inr ne ↦ get_or-set_other text k j v 0 ne ∙ before j (omega arith)
]

pub loop-k-preserved : goal.loop-k-preserved
loop-k-preserved c = record {
  count = length-set c.loop-k.text c.loop-k.k c.ascii.result ∙ c.loop-k.invariant.count;
  each = one_more c.loop-k.text c.args.digits.now c.loop-k.k c.ascii.result (omega arith) c.ascii.ensures c.loop-k.invariant.each;
}

pub returns : goal.returns
returns c =
    let digits = c.args.digits.now in
    ext_get_or 0 c.loop-k.text (map clipped digits) (omega (arith, length-map digits clipped)) (λ j lt. c.loop-k.invariant.each j (omega arith) ∙ sym (get_or-map clipped digits j 0 0 (omega arith)))
