use Rattle.std.proofs.Common.{◌≡◌, ◌<◌, ◌≤◌, length, ap, sym, ◌∙◌, arith}
use Rattle.owner_machine.specs.State.{Owner}
use Rattle.legal_run.specs.Calls.{is_at, slot_address, was_handed}
use Rattle.call_verdicts.proofs.Numbers.{first_next, first_takes, first_ends}
use Rattle.call_verdicts.proofs.packets.handed_at.Goals as goal

pub loop-k-preserved : goal.loop-k-preserved
loop-k-preserved g c =
    let less : c.loop-k.k < length g.s.owner.packets = omega (arith, c.loop-k-test.true, c.packets-k-end.ensures, ap (λ (o : Owner). length o.packets) c.requires.0) in
    sym (first_next (λ k. is_at c.args.packet (slot_address g.s k)) (was_handed c.args.a.0) g.s.owner.packets c.loop-k.k less (sym c.is_handed_at.ensures ∙ c.if-is_handed_at.false)) ∙ c.loop-k.invariant

pub returns-then-is_handed_at : goal.returns-then-is_handed_at
returns-then-is_handed_at g c =
    let less : c.loop-k.k < length g.s.owner.packets = omega (arith, c.loop-k-test.true, c.packets-k-end.ensures, ap (λ (o : Owner). length o.packets) c.requires.0) in
    sym (first_takes (λ k. is_at c.args.packet (slot_address g.s k)) (was_handed c.args.a.0) c.loop-k.k g.s.owner.packets c.loop-k.k less (sym c.is_handed_at.ensures ∙ c.if-is_handed_at.true)) ∙ c.loop-k.invariant

pub returns : goal.returns
returns g c =
    let most : length g.s.owner.packets ≤ c.loop-k.k = omega (arith, c.loop-k-test.false, c.packets-k-end.ensures, ap (λ (o : Owner). length o.packets) c.requires.0) in
    sym (first_ends (λ k. is_at c.args.packet (slot_address g.s k)) (was_handed c.args.a.0) c.loop-k.k g.s.owner.packets c.loop-k.k most) ∙ c.loop-k.invariant
