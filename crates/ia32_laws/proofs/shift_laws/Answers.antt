use Rattle.ia32_laws.proofs.Shifts as laws
use Rattle.ia32_laws.proofs.shift_laws.Goals as goal

pub returns : goal.returns
returns c = laws.shift_laws
