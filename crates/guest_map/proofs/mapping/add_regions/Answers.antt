use Rattle.std.proofs.Common.{ap, ◌∙◌, arith}
use Rattle.std.specs.FinMap as map
use Rattle.guest_map.specs.Regions.{region}
use Rattle.guest_map.proofs.Rising.{next_is_taken, next_is_added}
use Rattle.guest_map.proofs.mapping.add_regions.Goals as goal

pub returns-in-Err-OutOfMemory-clause-err : goal.returns-in-Err-OutOfMemory-clause-err
returns-in-Err-OutOfMemory-clause-err c = record {
  count = c.loop-region.region-index;
  added = λ a. ap (λ s. map.get s a) c.in-Err-OutOfMemory.ensures.err ∙ c.loop-region.invariant a;
}

pub unreachable-requires : goal.unreachable-requires
unreachable-requires c =
    let taken = next_is_taken c.region_laws.ensures (map.get c.args.memory.now) _ _ c.args.regions.now c.loop-region.region-index (region 0 0) c.requires.free c.requires.rise c.loop-region-test.true (map.get c.loop-region.memory) (omega arith) c.loop-region.invariant in
    let refused = c.in-Err-High.ensures.refusal (λ e. let is = c.in-Err-High.field-0-is in cc) in
    cc

pub unreachable-requires-in-Err-Overlaps : goal.unreachable-requires-in-Err-Overlaps
unreachable-requires-in-Err-Overlaps c =
    let taken = next_is_taken c.region_laws.ensures (map.get c.args.memory.now) _ _ c.args.regions.now c.loop-region.region-index (region 0 0) c.requires.free c.requires.rise c.loop-region-test.true (map.get c.loop-region.memory) (omega arith) c.loop-region.invariant in
    let refused = c.in-Err-Overlaps.ensures.refusal (λ e. let is = c.in-Err-Overlaps.field-0-is in cc) in
    cc

pub loop-region-preserved : goal.loop-region-preserved
loop-region-preserved c =
    next_is_added c.region_laws.ensures (map.get c.args.memory.now) _ _ c.args.regions.now c.loop-region.region-index (region 0 0) c.requires.free c.requires.rise c.loop-region-test.true c.loop-region.memory c.add_region.new.self c.loop-region.invariant c.in-Ok.ensures.ok.1
