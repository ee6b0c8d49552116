use Rattle.std.proofs.Common.{◌≡◌, ℕ, ◌+◌, ◌++◌, ◌∷◌, [], is_some, take, ap, ◌∙◌, sym, inl, inr, arith, List}
use Rattle.std.proofs.lemmas.Bool.{cases_lt}
use Rattle.std.proofs.lemmas.List.{take_more}
use Rattle.nd_mem.specs.declared.regions.Region.{Region}
use Rattle.nd_mem.specs.Regions.{cells_of}
use Rattle.nd_mem.proofs.RegionList.{none_push, some_push, held_push}
use Rattle.nd_mem.proofs.regions.first_held.Goals as goal

pub loop-region-preserved : goal.loop-region-preserved
loop-region-preserved c =
    let regions = c.args.regions.now in
    let index = c.loop-region.region-index in
    let region = c.region-item.result in
    let first = c.first_from-first.result in
    let said = c.first_from-first.ensures in
    let was = c.loop-region.invariant in
    let next : take (index + 1) regions ≡ take index regions ++ region ∷ [] =
    take_more regions index region c.loop-region-test.true ∙ ap (λ (r : Region). take index regions ++ r ∷ []) (sym c.region-item.is) in
    record {
      low = said.low;
      high = omega (arith, said.high, was.high);
      before = λ a low less.
          ap (λ (rs : List Region). cells_of rs a) next ∙ none_push (take index regions) region a (was.before a low (omega (arith, said.high))) (said.before a low less);
      here = λ less.
          ap (λ (rs : List Region). is_some (cells_of rs first)) next
          ∙ elim (cases_lt first c.loop-region.first) [
            | inl earlier ↦ held_push (take index regions) region first (said.here earlier)
            | inr as_before ↦
                let same : first ≡ c.loop-region.first = omega (arith, said.high) in
                some_push (take index regions) region first (ap (λ (a : ℕ). is_some (cells_of (take index regions) a)) same ∙ was.here (omega arith))
          ];
    }
