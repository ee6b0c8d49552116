use Rattle.std.proofs.Common.{◌≡◌, ◌<◌, ◌≤◌, ◌++◌, length, get_or, true, false, sym, ap, ◌∙◌, arith, List}
use Rattle.call_log.specs.declared.entry.Entry.{Entry}
use Rattle.owner_machine.specs.State.{Owner}
use Rattle.owner_machine.specs.Packets.{at_miniport}
use Rattle.legal_run.specs.Calls.{given_back}
use Rattle.leave_verdicts.proofs.Judging.{put_back, all_back, back_skips}
use Rattle.leave_verdicts.proofs.packets.give_back.Goals as goal

pub loop-k-preserved-then-not-is_at_miniport : goal.loop-k-preserved-then-not-is_at_miniport
loop-k-preserved-then-not-is_at_miniport g c =
    let ks = c.args.packets.now in
    let i = c.loop-k.k-index in
    let lt : i < length ks = omega (arith, c.loop-k-test.true) in
    let gone : at_miniport g.s.owner (get_or ks i 0) ≡ false =
    ap (λ (o : Owner). at_miniport o (get_or ks i 0)) (sym c.requires) ∙ sym c.is_at_miniport.ensures ∙ c.if-not-is_at_miniport.true in
    ap (λ (gs : List Entry). c.loop-k.entries.items ++ gs) (sym (back_skips g.s ks i lt gone)) ∙ c.loop-k.invariant

pub loop-k-preserved : goal.loop-k-preserved
loop-k-preserved g c =
    let ks = c.args.packets.now in
    let i = c.loop-k.k-index in
    let lt : i < length ks = omega (arith, c.loop-k-test.true) in
    let held : at_miniport g.s.owner (get_or ks i 0) ≡ true =
    ap (λ (o : Owner). at_miniport o (get_or ks i 0)) (sym c.requires) ∙ sym c.is_at_miniport.ensures ∙ c.if-not-is_at_miniport.false in
    put_back g.s ks i c.loop-k.entries.items c.push.new.self.items (c.args.entries.now.items ++ given_back g.s ks) lt held c.in_ok-push.ensures.items c.loop-k.invariant

pub returns : goal.returns
returns g c =
    let most : length c.args.packets.now ≤ c.loop-k.k-index = omega (arith, c.loop-k-test.false) in
    all_back g.s c.args.packets.now c.loop-k.k-index c.loop-k.entries.items _ most c.loop-k.invariant
