use Rattle.std.proofs.Common.{◌+◌, ◌*◌, ◌≤◌, length}
use Rattle.std.specs.Str.Lines.{lines}
use Rattle.sys_forge.proofs.Settling.{IsStandingSoFar}
use Rattle.sys_forge.proofs.assembly.emitted.Given as goal

abbrev pub invariant-loop-rest : goal.invariant-loop-rest
invariant-loop-rest l = record {
  room : length l.out + 4 * l.met.imports ≤ 0x3FF000;
  short : l.number + length l.rest ≤ length l.text + 1;
  labels : l.met.labels + 1 ≤ l.number;
  so_far : IsStandingSoFar l.plan.tables (lines l.text) (lines l.rest) l.left l.out l.met l.number;
}

abbrev pub decreases-loop-rest : goal.decreases-loop-rest
decreases-loop-rest l = length l.rest
