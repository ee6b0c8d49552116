use Rattle.driver_script.proofs.Soundness.{scripts_sound}
use Rattle.driver_script.proofs.laws.scripts_are_sound.Goals as goal

pub returns : goal.returns
returns c = scripts_sound
