use Rattle.std.proofs.Common.{◌≡◌, ◌≤◌, ◌++◌, Some, take, sym, ap, ◌∙◌, arith}
use Rattle.std.specs.Prelude.{slice_get}
use Rattle.call_log.specs.Lines.{log_text}
use Rattle.ndis_run.proofs.LogPieces.{text_next}
use Rattle.ndis_run.proofs.log_file.gather.Goals as goal

pub loop-next-preserved : goal.loop-next-preserved
loop-next-preserved c =
    let low : c.args.from ≤ c.loop-next.next = c.loop-next.auto.next in
    let is : slice_get c.args.log.now.entries c.loop-next.next ≡ Some c.in-Some.entry.now = sym c.in-Some.ensures.value in
    record {
      first = λ e. absurd (omega arith);
      text = text_next c.args.log.now.entries c.args.from c.loop-next.next c.in-Some.entry.now c.loop-next.piece is c.loop-next.invariant.text
          ∙ ap (λ bs. log_text (take c.args.from c.args.log.now.entries) ++ bs) (sym c.in_ok-put_line.ensures);
    }
