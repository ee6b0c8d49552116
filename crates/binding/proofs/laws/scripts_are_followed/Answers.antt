use Rattle.binding.proofs.Following.{scripts_followed}
use Rattle.binding.proofs.laws.scripts_are_followed.Goals as goal

pub returns : goal.returns
returns c = scripts_followed
