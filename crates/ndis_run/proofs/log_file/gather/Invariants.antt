use Rattle.std.proofs.Common.{◌≡◌, ◌++◌, take, length}
use Rattle.call_log.specs.Lines.{log_text}
use Rattle.ndis_run.proofs.log_file.gather.Given as goal

abbrev pub invariant-loop-next : goal.invariant-loop-next
invariant-loop-next l = record {
  first : l.next ≡ l.from → length l.piece ≡ 0;
  text : log_text (take l.next l.log.entries) ≡ log_text (take l.from l.log.entries) ++ l.piece;
}
