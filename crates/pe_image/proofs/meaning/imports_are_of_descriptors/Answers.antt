use Rattle.pe_image.proofs.Again.{imports}
use Rattle.pe_image.proofs.meaning.imports_are_of_descriptors.Goals as goal

pub returns : goal.returns
returns c = imports
