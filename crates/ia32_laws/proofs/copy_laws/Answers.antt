use Rattle.ia32_laws.proofs.Copies as laws
use Rattle.ia32_laws.proofs.copy_laws.Goals as goal

pub returns : goal.returns
returns c = laws.copy_laws c.read_laws.ensures c.write_laws.ensures c.fault_laws.ensures c.fetch_laws.ensures c.each_step_is_as_spelled.ensures
