use Rattle.ia32_laws.proofs.Quotients as laws
use Rattle.ia32_laws.proofs.divide_laws.Goals as goal

pub returns : goal.returns
returns c = laws.divide_laws
