use Rattle.run_ends.proofs.Cutting.{lost_as_it_is, lost_later, may_be_cut}
use Rattle.run_ends.proofs.laws.cut_laws.Goals as goal

pub returns : goal.returns
returns c = record { settled = may_be_cut; lost = lost_as_it_is; later = lost_later }
