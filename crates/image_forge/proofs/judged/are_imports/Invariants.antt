use Rattle.std.proofs.Common.{◌≡◌, ◌+◌, length}
use Rattle.image_forge.specs.Forged.{AreImportsFrom}
use Rattle.image_forge.proofs.judged.are_imports.Given as goal

abbrev pub invariant-loop-function : goal.invariant-loop-function
invariant-loop-function l = record {
  counted : l.place + length l.rest ≡ length l.functions;
  behind : AreImportsFrom l.tables l.place l.rest → AreImportsFrom l.tables 0 l.functions;
}

abbrev pub decreases-loop-function : goal.decreases-loop-function
decreases-loop-function l = length l.rest
