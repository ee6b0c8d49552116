use Rattle.ia32_decode.proofs.Told.{spelled_decoded}
use Rattle.ia32_decode.proofs.decoding.spelled_is_decoded.Goals as goal

pub returns : goal.returns
returns c = spelled_decoded
