use Rattle.std.proofs.Common.{◌+◌, ap, ◌∙◌, sym, arith, drop}
use Rattle.std.specs.Prelude.{filter}
use Rattle.guest_world.specs.declared.world.World.{World}
use Rattle.legal_run.specs.State.{all_contexts}
use Rattle.legal_run.specs.After.{all_ended, ends_context}
use Rattle.handler_leaves.proofs.Contexts.{ends_one, ends_none, ends_all, ended_levels}
use Rattle.handler_leaves.proofs.stops.stop.Goals as goal
use Rattle.handler_leaves.proofs.stops.stop.Goals.{then-ends, else-ends}

pub loop-n-preserved : goal.loop-n-preserved
loop-n-preserved g c =
    let f = ends_context g.o.inputs g.o.state c.args.a.0 in
    let n = c.loop-n.n in
    let w = c.loop-n.world in
    elim c.if-ends.branch [
      | then-ends b ↦
          let ended = sym c.ends.ensures ∙ b.if-ends.true in
          let is = b.world-is ∙ ended_levels w (record { 0 = n }) b.end.new.self b.end.ensures.moved in
          ap (λ (v : World). all_ended v (filter f (drop (n + 1) all_contexts))) is ∙ sym (ends_one f w n c.loop-n-test.true ended) ∙ c.loop-n.invariant
      | else-ends b ↦
          let stays = sym c.ends.ensures ∙ b.if-ends.false in
          ap (λ (v : World). all_ended v (filter f (drop (n + 1) all_contexts))) b.world-is ∙ sym (ends_none f w n c.loop-n-test.true stays) ∙ c.loop-n.invariant
    ]

pub returns : goal.returns
returns g c = sym (ends_all (ends_context g.o.inputs g.o.state c.args.a.0) c.loop-n.world c.loop-n.n (omega (arith, c.loop-n-test.false, c.loop-n.auto.n-end))) ∙ c.loop-n.invariant
