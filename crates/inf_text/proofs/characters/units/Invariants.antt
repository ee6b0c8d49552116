use Rattle.std.proofs.Common.{◌≡◌, take}
use Rattle.inf_text.specs.Characters.{units}
use Rattle.inf_text.proofs.characters.units.Given as goal

abbrev pub invariant-loop-i : goal.invariant-loop-i
invariant-loop-i l = l.found.items ≡ take l.i (units l.bytes)
