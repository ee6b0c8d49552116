use Rattle.pe_image.proofs.Again.{relocations}
use Rattle.pe_image.proofs.meaning.relocations_are_of_blocks.Goals as goal

pub returns : goal.returns
returns c = relocations
