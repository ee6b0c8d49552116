use Rattle.driver_plays.proofs.Playing.{scripts_played}
use Rattle.driver_plays.proofs.laws.scripts_are_played.Goals as goal

pub returns : goal.returns
returns c = scripts_played c.scripts_are_followed.ensures
