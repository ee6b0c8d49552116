use Rattle.std.proofs.Common.{◌≡◌, ◌++◌, ◌+◌, ◌≤◌, [], false, length}
use Rattle.std.specs.Str.Lines.{lines}
use Rattle.inf_text.specs.Quotes.{is_open}
use Rattle.inf_text.specs.Joining.{joined}
use Rattle.inf_text.proofs.joining.joined_lines.Given as goal

abbrev pub invariant-loop-rest : goal.invariant-loop-rest
invariant-loop-rest l = record {
  so_far : l.found.items ++ joined l.first l.number l.front (lines l.rest) ≡ joined 1 1 [] (lines l.text);
  quotes : l.inside ≡ is_open false l.front;
  count : l.number + length l.rest ≤ 1 + length l.text;
}

abbrev pub decreases-loop-rest : goal.decreases-loop-rest
decreases-loop-rest l = length l.rest
