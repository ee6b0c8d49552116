use Rattle.std.proofs.Common.{refl, sym, arith}
use Rattle.std.proofs.lemmas.Bool.{eqb-true}
use Rattle.inf_text.proofs.LineLoops.{same_quotes, goes, stops, all_read}
use Rattle.inf_text.proofs.joining.joined_lines.Goals as goal

pub loop-rest-init : goal.loop-rest-init
loop-rest-init c = record {
  so_far = rw (c.new-found.ensures.items, c.new-front.ensures) refl;
  quotes = rw c.new-front.ensures refl;
  count = omega arith;
}

pub loop-rest-preserved-then-not-goes_on : goal.loop-rest-preserved-then-not-goes_on
loop-rest-preserved-then-not-goes_on c = record {
  so_far =
      stops c.loop-rest.found.items _ c.push.new.self.items c.loop-rest.first c.loop-rest.number c.loop-rest.front c.extend_from_slice.new.self c.new-front-then-not-goes_on.result c.loop-rest.rest.now c.next_line.result.0.now c.next_line.result.1.now
      c.said-said.result.now c.kept-goes_on.result.0.now c.loop-rest.inside c.kept-goes_on.result.1 c.next_line.ensures.lines c.loop-rest.invariant.quotes c.said-said.ensures c.kept-goes_on.ensures.kept c.kept-goes_on.ensures.goes_on
      c.if-not-goes_on.true c.in_ok-extend_from_slice.ensures.ok c.in_ok-push.ensures.items c.new-front-then-not-goes_on.ensures c.loop-rest.invariant.so_far;
  quotes = rw c.new-front-then-not-goes_on.ensures refl;
  count = omega (arith, c.next_line.ensures.shorter);
}

pub loop-rest-preserved : goal.loop-rest-preserved
loop-rest-preserved c = record {
  so_far =
      goes c.loop-rest.found.items _ c.loop-rest.first c.loop-rest.number c.loop-rest.front c.extend_from_slice.new.self c.loop-rest.rest.now c.next_line.result.0.now c.next_line.result.1.now
      c.said-said.result.now c.kept-goes_on.result.0.now c.loop-rest.inside c.kept-goes_on.result.1 c.next_line.ensures.lines c.loop-rest.invariant.quotes c.said-said.ensures c.kept-goes_on.ensures.kept c.kept-goes_on.ensures.goes_on
      c.if-not-goes_on.false c.in_ok-extend_from_slice.ensures.ok c.loop-rest.invariant.so_far;
  quotes = same_quotes c.loop-rest.front c.extend_from_slice.new.self c.kept-goes_on.result.0.now c.loop-rest.inside c.is_open-inside.result c.loop-rest.invariant.quotes c.is_open-inside.ensures c.in_ok-extend_from_slice.ensures.ok;
  count = omega (arith, c.next_line.ensures.shorter);
}

pub returns : goal.returns
returns c = all_read c.loop-rest.found.items _ c.push-2.new.self.items c.loop-rest.first c.loop-rest.number c.loop-rest.front c.loop-rest.rest.now (eqb-true _ _ (sym c.loop-rest-test.ensures)) c.in_ok-push-2.ensures.items c.loop-rest.invariant.so_far
