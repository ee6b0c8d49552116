use Rattle.std.proofs.Common.{◌+◌, ℕ, List, drop, sym, subst, arith}
use Rattle.sys_forge.specs.Places.{noted}
use Rattle.sys_forge.proofs.Differing.{IsFoundSoFar, found-begun, found-step}
use Rattle.sys_forge.proofs.places.places.Goals as goal

pub loop-left-init : goal.loop-left-init
loop-left-init c = record {
  low = omega arith;
  found = subst (λ (ps : List ℕ). IsFoundSoFar c.args.bytes.now c.args.others.now c.args.bytes.now c.args.others.now 0 ps) (sym c.new-places.ensures.items) (found-begun c.args.bytes.now c.args.others.now);
}

pub loop-left-preserved : goal.loop-left-preserved
loop-left-preserved c =
    let moved = found-step c.args.bytes.now c.args.others.now c.loop-left.left.now c.loop-left.ours.now c.loop-left.at c.in-Some.size c.loop-left.places.items c.loop-left.invariant.found c.in-Some.ensures in
    let at_left = subst (λ (bs : List ℕ). IsFoundSoFar c.args.bytes.now c.args.others.now bs (drop c.in-Some.size c.loop-left.ours.now) (c.loop-left.at + c.in-Some.size) (noted c.loop-left.places.items c.loop-left.at c.in-Some.size)) (sym c.split_at.ensures.back) moved in
    let at_ours = subst (λ (bs : List ℕ). IsFoundSoFar c.args.bytes.now c.args.others.now c.split_at.result.1.now bs (c.loop-left.at + c.in-Some.size) (noted c.loop-left.places.items c.loop-left.at c.in-Some.size)) (sym c.split_at-in-loop-left.ensures.back) at_left in
    record {
      low = omega (arith, c.split_at.ensures.back_len, c.loop-left.invariant.low);
      found = subst (λ (ps : List ℕ). IsFoundSoFar c.args.bytes.now c.args.others.now c.split_at.result.1.now c.split_at-in-loop-left.result.1.now (c.loop-left.at + c.in-Some.size) ps) (sym c.in_ok-note.ensures) at_ours;
    }
