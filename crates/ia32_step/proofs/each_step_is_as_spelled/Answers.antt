use Rattle.ia32_step.proofs.Steps as steps
use Rattle.ia32_step.proofs.each_step_is_as_spelled.Goals as goal

pub returns : goal.returns
returns c = steps.each_step_is_as_spelled c.decoding_is_exact.ensures c.spelled_is_decoded.ensures c.at_most_fifteen_bytes.ensures c.read_laws.ensures c.fetch_laws.ensures
