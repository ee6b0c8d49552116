use Rattle.pe_image.proofs.Spelled.{names}
use Rattle.pe_image.proofs.meaning.names_are_as_spelled.Goals as goal

pub returns : goal.returns
returns c = names
