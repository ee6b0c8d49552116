use Rattle.ia32_decode.proofs.Lengths.{at_most_fifteen}
use Rattle.ia32_decode.proofs.decoding.at_most_fifteen_bytes.Goals as goal

pub returns : goal.returns
returns c = at_most_fifteen
