use Rattle.std.proofs.Common.{ap, ◌∙◌}
use Rattle.nd_mem.specs.Mapped.{mapped}
use Rattle.nd_mem.specs.Regions.{cells_of}
use Rattle.nd_mem.proofs.Mapped.{mapped_new}
use Rattle.nd_mem.proofs.Memory.new.Goals as goal

pub returns : goal.returns
returns c = ap (λ rs. mapped (cells_of rs)) c.new.ensures.items ∙ mapped_new
