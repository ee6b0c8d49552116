use Rattle.std.proofs.Common.{◌≡◌, ◌*◌, ℕ, arith}
use Rattle.std.proofs.lemmas.Grind.{common_steps}
use Rattle.free_ranges.proofs.TournamentLemmas.{go_right, step_left, step_right, at_end}
use Rattle.free_ranges.proofs.tournament.leaf_not_below.Goals as goal

pub loop-node-preserved-then-nodes-node : goal.loop-node-preserved-then-nodes-node
loop-node-preserved-then-nodes-node c =
    let node = c.loop-node.node in
    let child : node * 2 ≡ 2 * node = omega arith in
    record {
      some = omega arith;
      inside = omega arith;
      won = go_right c.args.places c.args.nodes.now c.requires.tournament c.args.bound node (node * 2) c.loop-node.invariant.some c.loop-node-test.true c.loop-node.invariant.won child c.if-nodes-node.true;
      passed = λ k e. step_right c.args.places c.args.nodes.now c.requires.tournament c.args.bound node (node * 2) c.loop-node.invariant.some c.loop-node-test.true child c.if-nodes-node.true (c.loop-node.invariant.passed k e);
    }

pub loop-node-preserved : goal.loop-node-preserved
loop-node-preserved c =
    let node = c.loop-node.node in
    let child : node * 2 ≡ 2 * node = omega arith in
    record {
      some = omega arith;
      inside = omega arith;
      won = c.if-nodes-node.false;
      passed = λ k e. step_left c.args.places c.args.nodes.now c.requires.tournament c.args.bound node (node * 2) c.loop-node-test.true child (c.loop-node.invariant.passed k e);
    }

pub returns-clause-first : goal.returns-clause-first
returns-clause-first c = λ k e. at_end c.args.places c.args.bound c.loop-node.node c.args.nodes.now (c.loop-node.invariant.passed k e)
