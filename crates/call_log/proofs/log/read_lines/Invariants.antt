use Rattle.std.proofs.Common.{◌≡◌, ◌+◌, ◌≤◌, ◌++◌, length}
use Rattle.call_log.specs.Lines.{log_text}
use Rattle.call_log.specs.Logs.{AllFit}
use Rattle.call_log.proofs.log.read_lines.Given as goal

abbrev pub invariant-loop-rest : goal.invariant-loop-rest
invariant-loop-rest l = (log_text l.log.entries ++ l.rest ≡ l.bytes) × (l.log.spare ≡ 0) × (length l.log.entries + length l.rest ≤ length l.bytes) × AllFit l.log.entries

abbrev pub decreases-loop-rest : goal.decreases-loop-rest
decreases-loop-rest l = length l.rest
