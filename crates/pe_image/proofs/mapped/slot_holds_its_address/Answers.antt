use Rattle.pe_image.proofs.Laws.{image_slotted}
use Rattle.pe_image.proofs.mapped.slot_holds_its_address.Goals as goal

pub returns : goal.returns
returns c = image_slotted
