use Rattle.std.proofs.Common.{◌≡◌, ◌∙◌, sym, ap, Bool, cond, Some, None, arith}
use Rattle.driver_script.proofs.Texts.{goes, stops, ends}
use Rattle.driver_script.proofs.front.first_outside.Goals as goal

pub returns-then-not-passes : goal.returns-then-not-passes
returns-then-not-passes c =
    stops c.loop-rest.number c.loop-rest.front c.loop-rest.rest.now c.next_line.result.0.now c.next_line.result.1.now c.next_line.ensures.lines c.if-not-passes.ensures ∙ c.loop-rest.invariant.so_far

pub loop-rest-preserved : goal.loop-rest-preserved
loop-rest-preserved c =
    let shorter = c.next_line.ensures.shorter in
    record {
      so_far = goes c.loop-rest.number c.loop-rest.front c.passes.new.self c.loop-rest.rest.now c.next_line.result.0.now c.next_line.result.1.now c.next_line.ensures.lines c.if-not-passes.ensures ∙ c.loop-rest.invariant.so_far;
      inside = omega (arith, shorter);
    }

pub returns-then-has_adapter : goal.returns-then-has_adapter
returns-then-has_adapter c =
    ap (λ (b : Bool). cond b None (Some c.loop-rest.number)) c.if-has_adapter.ensures ∙ sym (ends c.loop-rest.number c.loop-rest.front c.loop-rest.rest.now c.loop-rest-test.ensures) ∙ c.loop-rest.invariant.so_far

pub returns-else-has_adapter : goal.returns-else-has_adapter
returns-else-has_adapter c =
    ap (λ (b : Bool). cond b None (Some c.loop-rest.number)) c.if-has_adapter.ensures ∙ sym (ends c.loop-rest.number c.loop-rest.front c.loop-rest.rest.now c.loop-rest-test.ensures) ∙ c.loop-rest.invariant.so_far
