use Rattle.ia32_decode.proofs.PermittedLaws.{prefixes_permitted}
use Rattle.ia32_decode.proofs.decoding.prefixes_are_permitted.Goals as goal

pub returns : goal.returns
returns c = prefixes_permitted
