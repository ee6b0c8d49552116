use Rattle.std.proofs.Common.{ℕ, ◌-◌, ◌+◌, arith, sym, subst, ◌∙◌}
use Rattle.calls_packets.proofs.Totals.{Left, ends_here, too_many, stops_here, goes_on}
use Rattle.calls_packets.proofs.fields.total_from.Goals as goal

pub returns-then-buffer-eq0 : goal.returns-then-buffer-eq0
returns-then-buffer-eq0 c = ends_here c.args.world.now c.args.first c.loop-taken.total c.loop-taken.buffer _ c.loop-taken.invariant.left c.if-buffer-eq0.true

pub returns-in-None : goal.returns-in-None
returns-in-None c = stops_here c.args.world.now c.args.first c.loop-taken.total c.loop-taken.buffer _ (64 - (c.loop-taken._taken + 1)) c.loop-taken.invariant.left (omega arith) (omega arith) (sym c.count_and_next.ensures.found ∙ c.in-None.is)

pub loop-taken-preserved : goal.loop-taken-preserved
loop-taken-preserved c = record {
  small = omega (arith, c.loop-taken.invariant.small, c.in-Some.ensures.small);
  left = subst (λ (count : ℕ). Left c.args.world.now c.args.first (c.loop-taken.total + count) c.in-Some.next (64 - (c.loop-taken._taken + 1))) (sym c.from-total.ensures) (goes_on c.args.world.now c.args.first c.loop-taken.total c.loop-taken.buffer _ (64 - (c.loop-taken._taken + 1)) c.in-Some.count c.in-Some.next c.loop-taken.invariant.left (omega arith) (omega arith) (sym c.count_and_next.ensures.found ∙ c.in-Some.is));
}

pub returns-then-buffer-eq0-2 : goal.returns-then-buffer-eq0-2
returns-then-buffer-eq0-2 c = ends_here c.args.world.now c.args.first c.loop-taken.total c.loop-taken.buffer _ c.loop-taken.invariant.left c.if-buffer-eq0-2.true

pub returns-else-buffer-eq0-2 : goal.returns-else-buffer-eq0-2
returns-else-buffer-eq0-2 c = too_many c.args.world.now c.args.first c.loop-taken.total c.loop-taken.buffer _ c.loop-taken.invariant.left (omega arith) (omega arith)
