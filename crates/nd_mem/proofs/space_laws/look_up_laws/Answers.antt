use Rattle.nd_mem.proofs.Laws.{same_space}
use Rattle.nd_mem.proofs.Mapped.{get_mapped_cells}
use Rattle.nd_mem.proofs.space_laws.look_up_laws.Goals as goal

pub returns : goal.returns
returns c = record { same = same_space; mapped = get_mapped_cells }
