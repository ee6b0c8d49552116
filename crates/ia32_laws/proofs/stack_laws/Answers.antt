use Rattle.ia32_laws.proofs.Stack as laws
use Rattle.ia32_laws.proofs.stack_laws.Goals as goal

pub returns : goal.returns
returns c = laws.stack_laws c.read_laws.ensures c.fault_laws.ensures
