use Rattle.legal_run.proofs.Carried.{enters, answers}
use Rattle.legal_run.proofs.Steps.{asked, jumps, quiets, turns}
use Rattle.legal_run.proofs.Behind.{made_behind, answered_behind}
use Rattle.legal_run.proofs.kinds.entry_laws.Goals as goal

pub returns : goal.returns
returns c = record { jump = jumps; quiet = quiets; turn = turns; reply = answers; enter = enters; asked = asked; made = made_behind; answered = answered_behind }
