use Rattle.std.proofs.Common.{length}
use Rattle.image_forge.proofs.section.put_relocations.Given as goal

abbrev pub decreases-loop-first : goal.decreases-loop-first
decreases-loop-first l = length l.rest
