use Rattle.std.proofs.Common.{◌∙◌}
use Rattle.ndis_run.proofs.Pieces.{printed_more, count_within, count_inside}
use Rattle.ndis_run.proofs.transfer.print.Goals as goal

pub loop-done-preserved : goal.loop-done-preserved
loop-done-preserved g c =
    let before = c.loop-done.invariant in
    let count = c.in_ok-done.ensures.count in
    record {
      within = count_inside c.args.piece.now c.loop-done.done _ _ before.within count;
      told = λ first is. printed_more _ first c.args.piece.now c.loop-done.done c.in_ok-done.field-0 _ (count_within c.args.piece.now c.loop-done.done _ _ count) (c.in_ok-done.ensures.known _ (before.told first is));
      quiet = c.in_ok-done.ensures.quiet ∙ before.quiet;
    }
