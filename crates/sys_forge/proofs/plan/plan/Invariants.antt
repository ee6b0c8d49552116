use Rattle.std.proofs.Common.{◌≤◌, length}
use Rattle.std.specs.Str.Lines.{lines}
use Rattle.line_bytes.specs.Putting.{AreWide}
use Rattle.sys_forge.proofs.Planning.{IsPlanned}
use Rattle.sys_forge.proofs.plan.plan.Given as goal

abbrev pub invariant-loop-rest : goal.invariant-loop-rest
invariant-loop-rest l = record {
  low : 0x80101000 ≤ l.tables.words;
  high : l.tables.words ≤ 0x80500000;
  planned : IsPlanned (lines l.text) (lines l.rest) l.tables l.all.items;
  labels : AreWide l.tables.labels;
  moved : AreWide l.moved.labels;
}

abbrev pub decreases-loop-rest : goal.decreases-loop-rest
decreases-loop-rest l = length l.rest
