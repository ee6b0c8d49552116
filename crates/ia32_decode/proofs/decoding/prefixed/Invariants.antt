use Rattle.std.proofs.Common.{◌≡◌, length}
use Rattle.ia32_decode.specs.Prefixes.{none, read_behind}
use Rattle.ia32_decode.proofs.decoding.prefixed.Given as goal

-- what is left, behind the prefixes so far, is read as all is
abbrev pub invariant-loop-byte : goal.invariant-loop-byte
invariant-loop-byte l = read_behind l.prefixes l.rest ≡ read_behind none l.fn.bytes

abbrev pub decreases-loop-byte : goal.decreases-loop-byte
decreases-loop-byte l = length l.rest
