use Rattle.miniport.proofs.Standing.{stands}
use Rattle.miniport.proofs.laws.free_entries_stand.Goals as goal

pub returns : goal.returns
returns c = stands
