use Rattle.pe_image.proofs.Spelled.{no_more_descriptors}
use Rattle.pe_image.proofs.Again.{few_descriptors}
use Rattle.pe_image.proofs.meaning.no_more_descriptors.Goals as goal

pub returns-clause-standing : goal.returns-clause-standing
returns-clause-standing c = few_descriptors

pub returns-clause-read : goal.returns-clause-read
returns-clause-read c = no_more_descriptors
