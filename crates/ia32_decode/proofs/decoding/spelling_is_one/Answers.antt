use Rattle.codes.specs.ReadingLaws.{prefix_free}
use Rattle.ia32_decode.specs.Prefixes.{instruction}
use Rattle.ia32_decode.proofs.PrefixLaws.{instruction_exact}
use Rattle.ia32_decode.proofs.decoding.spelling_is_one.Goals as goal

pub returns : goal.returns
returns c = prefix_free instruction instruction_exact
