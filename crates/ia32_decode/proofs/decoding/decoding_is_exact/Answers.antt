use Rattle.ia32_decode.proofs.Told.{decoding_is_only}
use Rattle.ia32_decode.proofs.decoding.decoding_is_exact.Goals as goal

pub returns : goal.returns
returns c = decoding_is_only
