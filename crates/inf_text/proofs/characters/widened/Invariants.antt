use Rattle.std.proofs.Common.{◌≡◌, take}
use Rattle.inf_text.proofs.characters.widened.Given as goal

abbrev pub invariant-loop-byte : goal.invariant-loop-byte
invariant-loop-byte l = l.found.items ≡ take l.byte-index l.bytes
