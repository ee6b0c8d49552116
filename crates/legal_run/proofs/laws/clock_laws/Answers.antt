use Rattle.legal_run.proofs.Between.{rises}
use Rattle.legal_run.proofs.Clocks.{effect_moment}
use Rattle.legal_run.proofs.laws.clock_laws.Goals as goal

pub returns : goal.returns
returns c = record { sum = λ inputs s e. effect_moment inputs s e; rises = rises }
