use Rattle.pe_image.proofs.Spelled.{shares}
use Rattle.pe_image.proofs.meaning.overlaps_share_an_address.Goals as goal

pub returns : goal.returns
returns c = shares
