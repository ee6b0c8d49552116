use Rattle.std.proofs.Common.{◌≡◌, ◌<◌, length, sym, ◌∙◌, arith}
use Rattle.owner_machine.specs.Loans.{away_of}
use Rattle.call_verdicts.proofs.Rows.{one_counts, none_counts, all_counted}
use Rattle.call_verdicts.proofs.holders.away.Goals as goal

pub loop-j-preserved-then-not-is_away : goal.loop-j-preserved-then-not-is_away
loop-j-preserved-then-not-is_away c =
    let less : c.loop-j.j < length c.args.book.now.loans = omega (arith, c.loop-j-test.true, c.loans-j-end.ensures) in
    record {
      few = omega (arith, c.loop-j.invariant.few);
      counted = none_counts (away_of c.args.a.0) c.args.book.now.loans c.loop-j.j c.loop-j.count _ less (sym c.is_away.ensures ∙ c.if-not-is_away.true) c.loop-j.invariant.counted;
    }

pub loop-j-preserved : goal.loop-j-preserved
loop-j-preserved c =
    let less : c.loop-j.j < length c.args.book.now.loans = omega (arith, c.loop-j-test.true, c.loans-j-end.ensures) in
    record {
      few = omega (arith, c.loop-j.invariant.few);
      counted = one_counts (away_of c.args.a.0) c.args.book.now.loans c.loop-j.j c.loop-j.count _ less (sym c.is_away.ensures ∙ c.if-not-is_away.false) c.loop-j.invariant.counted;
    }
