use Rattle.run_facts.proofs.OpenCalls.{works, calls}
use Rattle.run_facts.proofs.laws.calls_agree.Goals as goal

pub returns : goal.returns
returns c = record { works = works c.entry_laws.ensures.reply; calls = calls c.entry_laws.ensures.reply }
