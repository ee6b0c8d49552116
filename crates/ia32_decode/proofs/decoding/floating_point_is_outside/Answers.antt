use Rattle.ia32_decode.proofs.PermittedLaws.{floating_is_outside}
use Rattle.ia32_decode.proofs.decoding.floating_point_is_outside.Goals as goal

pub returns : goal.returns
returns c = floating_is_outside
