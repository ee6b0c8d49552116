use Rattle.legal_run.proofs.Follows.{sixteen, turn_leaves, reply_returns}
use Rattle.legal_run.proofs.kinds.code_laws.Goals as goal

pub returns : goal.returns
returns c = record { contexts = sixteen; turn = turn_leaves; reply = reply_returns }
