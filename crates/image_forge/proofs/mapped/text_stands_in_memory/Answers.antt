use Rattle.image_forge.proofs.Standing.{text_stands}
use Rattle.image_forge.proofs.mapped.text_stands_in_memory.Goals as goal

pub returns : goal.returns
returns c = text_stands
