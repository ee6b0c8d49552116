use Rattle.pe_image.proofs.Grammar.{images, one_image}
use Rattle.pe_image.proofs.meaning.images_are_as_spelled.Goals as goal

pub returns-clause-read : goal.returns-clause-read
returns-clause-read c = images

pub returns-clause-one : goal.returns-clause-one
returns-clause-one c = one_image
