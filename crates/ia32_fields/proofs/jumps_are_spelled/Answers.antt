use Rattle.ia32_fields.proofs.JumpBytes.{jumps_spelled}
use Rattle.ia32_fields.proofs.jumps_are_spelled.Goals as goal

pub returns : goal.returns
returns c = jumps_spelled
