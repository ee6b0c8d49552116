use Rattle.ia32_fields.proofs.CallBytes.{call_spelled}
use Rattle.ia32_fields.proofs.calls_are_spelled.Goals as goal

pub returns : goal.returns
returns c = call_spelled
