use Rattle.ia32_decode.proofs.Chosen.{chosen_one}
use Rattle.ia32_decode.proofs.encoding.chosen_is_one.Goals as goal

pub returns : goal.returns
returns c = chosen_one
