use Rattle.std.proofs.Common.{◌≡◌, ℕ, ◌≤◌, ◌++◌, ◌-◌, List, Some, take, length}
use Rattle.ndis_run.proofs.transfer.print.Given as goal

abbrev pub invariant-loop-done : goal.invariant-loop-done
invariant-loop-done g l = record {
  within : l.done ≤ length l.piece;
  told : (before : List ℕ) → g.O.Sink.written l.fn.out ≡ Some before → g.O.Sink.written l.out ≡ Some (before ++ take l.done l.piece);
  quiet : g.O.Sink.faults l.out ≡ g.O.Sink.faults l.fn.out;
}

abbrev pub decreases-loop-done : goal.decreases-loop-done
decreases-loop-done g l = length l.piece - l.done
