use Rattle.std.proofs.Common.{length}
use Rattle.frame_wire.specs.Reading.{entries_of}
use Rattle.frame_wire.proofs.Loop.{TakenUpTo}
use Rattle.frame_wire.proofs.reading.frames_of.Given as goal

abbrev pub invariant-loop-entry : goal.invariant-loop-entry
invariant-loop-entry l = TakenUpTo l.order l.first l.frames.items l.rest (entries_of l.order l.bytes)

abbrev pub decreases-loop-entry : goal.decreases-loop-entry
decreases-loop-entry l = length l.rest
