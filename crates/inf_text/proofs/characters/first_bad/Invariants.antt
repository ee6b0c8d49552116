use Rattle.std.proofs.Common.{◌≡◌, drop}
use Rattle.inf_text.specs.Characters.{units, first_bad}
use Rattle.inf_text.proofs.Loops.{further}
use Rattle.inf_text.proofs.characters.first_bad.Given as goal

abbrev pub invariant-loop-i : goal.invariant-loop-i
invariant-loop-i l = further l.i (first_bad l.before (drop l.i (units l.bytes))) ≡ first_bad 0 (units l.bytes)
