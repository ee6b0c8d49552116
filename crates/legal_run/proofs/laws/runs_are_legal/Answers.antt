use Rattle.legal_run.proofs.Legal.{is_legal}
use Rattle.legal_run.proofs.laws.runs_are_legal.Goals as goal

pub returns : goal.returns
returns c = is_legal
