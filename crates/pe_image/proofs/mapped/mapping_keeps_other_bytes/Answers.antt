use Rattle.pe_image.proofs.Laws.{image_other}
use Rattle.pe_image.proofs.mapped.mapping_keeps_other_bytes.Goals as goal

pub returns : goal.returns
returns c = image_other
