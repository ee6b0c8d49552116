use Rattle.std.proofs.Common.{None, refl, arith}
use Rattle.pe_image.proofs.Laws.{image_taken, image_cells-out}
use Rattle.pe_image.proofs.mapped.image_fits_into_empty_memory.Goals as goal

pub returns-clause-taken : goal.returns-clause-taken
returns-clause-taken c = λ image laid. image_taken c.region_laws.ensures (λ a. None) 0x80100000 image laid (omega (arith, laid.size)) (λ a low high. refl)

pub returns-clause-inside : goal.returns-clause-inside
returns-clause-inside c = λ image slots a laid out. image_cells-out image 0x80100000 slots a laid (λ low. omega (arith, out low, laid.size))
