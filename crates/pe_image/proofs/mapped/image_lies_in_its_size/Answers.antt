use Rattle.pe_image.proofs.Laws.{image_taken, image_cells-out}
use Rattle.pe_image.proofs.mapped.image_lies_in_its_size.Goals as goal

pub returns : goal.returns
returns c = record {
  taken = image_taken c.region_laws.ensures;
  inside = image_cells-out;
  size = λ image laid. laid.size;
}
