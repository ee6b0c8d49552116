use Rattle.std.proofs.Common.{◌≡◌, length}
use Rattle.nd_base.specs.Words.{words}
use Rattle.nd_base.proofs.words.next_word.Given as goal

abbrev pub invariant-loop-rest : goal.invariant-loop-rest
invariant-loop-rest l = words l.rest ≡ words l.bytes

abbrev pub decreases-loop-rest : goal.decreases-loop-rest
decreases-loop-rest l = length l.rest
