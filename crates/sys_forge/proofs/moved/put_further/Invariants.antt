use Rattle.std.proofs.Common.{◌+◌, ◌*◌, ◌≤◌, length, ℕ}
use Rattle.std.specs.Str.Lines.{lines}
use Rattle.sys_forge.specs.Standing.{AreMade}
use Rattle.sys_forge.specs.Moved.{IsMovedLine}
use Rattle.sys_forge.proofs.Emission.{IsSoFar}
use Rattle.sys_forge.proofs.moved.put_further.Given as goal

abbrev pub invariant-loop-rest : goal.invariant-loop-rest
invariant-loop-rest l = record {
  room : length l.out + 4 * l.met.imports ≤ 0x3FF000;
  labels : l.met.labels + length l.rest ≤ length l.text;
  number : ℕ;
  are : AreMade (lines l.rest) l.left;
  so_far : IsSoFar (IsMovedLine l.tables l.moved) (lines l.text) (lines l.rest) l.out l.met number;
}

abbrev pub decreases-loop-rest : goal.decreases-loop-rest
decreases-loop-rest l = length l.rest
