use Rattle.pe_image.proofs.Laws.{image_relocated}
use Rattle.pe_image.proofs.mapped.relocated_word_is_moved.Goals as goal

pub returns : goal.returns
returns c = image_relocated
