use Rattle.std.proofs.Common.{◌∙◌}
use Rattle.ndis_run.proofs.Pieces.{appended_more, count_within, count_inside}
use Rattle.ndis_run.proofs.transfer.append_all.Goals as goal

pub loop-done-preserved : goal.loop-done-preserved
loop-done-preserved g c =
    let before = c.loop-done.invariant in
    let count = c.in_ok-done.ensures.count in
    record {
      within = count_inside c.args.bytes.now c.loop-done.done _ _ before.within count;
      writable = c.writes_add_up.ensures.writable _ _ c.args.name.now c.append.ensures.only before.writable;
      told = λ m first is. appended_more c.set_files_are_kept.ensures.set c.set_files_are_kept.ensures.last _ m c.args.name.now first c.args.bytes.now c.loop-done.done c.in_ok-done.field-0 _ (count_within c.args.bytes.now c.loop-done.done _ _ count) (c.in_ok-done.ensures.known _ (before.told m first is));
      quiet = c.in_ok-done.ensures.quiet ∙ before.quiet;
      only = c.writes_add_up.ensures.in_a_row _ _ _ before.only c.append.ensures.only;
    }
