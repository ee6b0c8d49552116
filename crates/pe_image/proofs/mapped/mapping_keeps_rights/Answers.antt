use Rattle.pe_image.proofs.Laws.{image_rights}
use Rattle.pe_image.proofs.mapped.mapping_keeps_rights.Goals as goal

pub returns : goal.returns
returns c = image_rights
