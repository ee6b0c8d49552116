use Rattle.std.proofs.Common.{◌≡◌, ◌<◌, length, sym, ◌∙◌, arith}
use Rattle.owner_machine.specs.Loans.{wants}
use Rattle.call_verdicts.proofs.Rows.{one_wants, one_passes}
use Rattle.call_verdicts.proofs.holders.wanting.Goals as goal

pub loop-b-preserved-then-not-is_wanted_by : goal.loop-b-preserved-then-not-is_wanted_by
loop-b-preserved-then-not-is_wanted_by c =
    let less : c.loop-b.b < length c.args.book.now.drivers = omega (arith, c.loop-b-test.true, c.drivers-b-end.ensures) in
    one_passes (wants c.args.a.0 c.args.bytes.now) c.args.book.now.drivers c.loop-b.b c.loop-b.holders _ less (sym c.is_wanted_by.ensures ∙ c.if-not-is_wanted_by.true) c.loop-b.invariant

pub loop-b-preserved : goal.loop-b-preserved
loop-b-preserved c =
    let less : c.loop-b.b < length c.args.book.now.drivers = omega (arith, c.loop-b-test.true, c.drivers-b-end.ensures) in
    one_wants (wants c.args.a.0 c.args.bytes.now) c.args.book.now.drivers c.loop-b.b c.loop-b.holders c.push.new.self _ less (sym c.is_wanted_by.ensures ∙ c.if-not-is_wanted_by.false) c.in_ok-push.ensures.ok c.loop-b.invariant
