use Rattle.std.proofs.Common.{◌≡◌, ℕ, ◌+◌, ◌-◌, ◌≤◌, ◌<◌, None, List, length, insert, ap, ◌∙◌, sym, subst, arith}
use Rattle.std.specs.FinMap as map
use Rattle.std.specs.List.Sorted.{IsPartitionPoint}
use Rattle.nd_mem.specs.declared.regions.Region.{Region}
use Rattle.nd_mem.specs.Space.{region_refusal, zeros_from}
use Rattle.nd_mem.specs.Mapped.{mapped}
use Rattle.nd_mem.specs.Regions.{cells_of, AreLaidOut}
use Rattle.nd_mem.proofs.Laws.{zeros_of_none}
use Rattle.nd_mem.proofs.SpaceLaws.{region_taken_at}
use Rattle.nd_mem.proofs.Mapped.{get_mapped_at, low_seen, low_after, added_laid_out, mapped_added}
use Rattle.nd_mem.proofs.Memory.add_region.Goals as goal

pub returns-then-len-eq0-clause-ok : goal.returns-then-len-eq0-clause-ok
returns-then-len-eq0-clause-ok c =
    (sym c.region_refusal.ensures ∙ c.in_default.is, sym (zeros_of_none c.args.self.now c.args.at.0 c.args.len c.args.rights (omega (arith, c.if-len-eq0.true))))

pub returns-then-len-eq0-clause-low : goal.returns-then-len-eq0-clause-low
returns-then-len-eq0-clause-low c = low_seen c.self.inside.regions.items c.args.self.now c.self.view_is c.self.invariant

none : (c : goal.Else-is_err) → region_refusal (map.get c.args.self.now) c.args.at.0 c.args.len ≡ None
none c = sym c.region_refusal.ensures ∙ c.in_default.is

-- nothing is mapped where the new region stands
free : (c : goal.Else-is_err) (a : ℕ) → c.args.at.0 ≤ a → a < c.args.at.0 + c.args.len → cells_of c.self.inside.regions.items a ≡ None
free c a low high =
    let taken = region_taken_at (map.get c.args.self.now) c.args.at.0 c.args.len (none c) in
    sym (get_mapped_at c.self.inside.regions.items c.self.invariant a)
    ∙ ap (λ space. map.get space a) c.self.view_is
    ∙ ap (map.get c.args.self.now) (let e : a ≡ c.args.at.0 + (a - c.args.at.0) = omega arith in e)
    ∙ taken.1 (a - c.args.at.0) (omega arith)

most : (c : goal.Else-is_err) → c.count_begun-index.result ≤ length c.self.inside.regions.items
most c = subst (λ (rs : List Region). c.count_begun-index.result ≤ length rs) c.deref.ensures.value c.count_begun-index.ensures.most

begun : (c : goal.Else-is_err) → IsPartitionPoint (λ (region : Region). region.first.0 ≤ c.args.at.0) (λ (region : Region). c.args.at.0 < region.first.0) c.self.inside.regions.items c.count_begun-index.result
begun c = subst (λ (rs : List Region). IsPartitionPoint (λ (region : Region). region.first.0 ≤ c.args.at.0) (λ (region : Region). c.args.at.0 < region.first.0) rs c.count_begun-index.result) c.deref.ensures.value c.count_begun-index.ensures.begun

added : (c : goal.Else-is_err) → c.insert.new.self.items ≡ insert c.self.inside.regions.items c.count_begun-index.result c.in-Ok.region
added c = rw (c.insert.ensures.items, c.is_err.ensures.negation, c.if-is_err.false)

-- where the new region ends
low : (c : goal.Else-is_err) → c.args.at.0 + c.args.len ≤ 0xF0000000
low c = (region_taken_at (map.get c.args.self.now) c.args.at.0 c.args.len (none c)).0

laid_out : (c : goal.Else-is_err) → AreLaidOut (insert c.self.inside.regions.items c.count_begun-index.result c.in-Ok.region)
laid_out c =
    let made = c.in-Ok.ensures in
    added_laid_out c.self.inside.regions.items c.in-Ok.region c.args.at.0 c.args.len c.args.rights c.self.invariant (ap (λ a. a.0) made.0) made.1 made.2 (omega (arith, c.if-len-eq0.false)) c.count_begun-index.result (most c) (begun c) (low c) (free c)

pub invariant_of-self-2 : goal.invariant_of-self-2
invariant_of-self-2 c = subst AreLaidOut (sym (added c)) (laid_out c)

pub returns-clause-ok : goal.returns-clause-ok
returns-clause-ok c =
    let made = c.in-Ok.ensures in (
      none c,
      ap (λ (rs : List Region). mapped (cells_of rs)) (added c)
          ∙ mapped_added c.self.inside.regions.items c.in-Ok.region c.args.at.0 c.args.len c.args.rights c.self.invariant (ap (λ a. a.0) made.0) made.1 made.2 (omega (arith, c.if-len-eq0.false)) c.count_begun-index.result (most c) (begun c) (low c) (free c)
          ∙ ap (λ space. zeros_from space c.args.at.0 c.args.len c.args.rights) c.self.view_is,
    )

pub returns-clause-low : goal.returns-clause-low
returns-clause-low c = low_after _ (insert c.self.inside.regions.items c.count_begun-index.result c.in-Ok.region) (added c) (laid_out c)
