use Rattle.std.proofs.Common.{◌∙◌}
use Rattle.ia32_step.specs.State.{machine}
use Rattle.ia32_step.proofs.Held.{moved_held}
use Rattle.ia32_step.proofs.Kept.{keeps_behind}
use Rattle.ia32_step.proofs.run_kept.Goals as goal

pub returns-then-is_met-clause-keeps : goal.returns-then-is_met-clause-keeps
returns-then-is_met-clause-keeps c = c.new.ensures c.execute.new.m

pub returns-else-is_met-clause-keeps : goal.returns-else-is_met-clause-keeps
returns-else-is_met-clause-keeps c =
    keeps_behind c.fault_laws.ensures c.fetch_laws.ensures c.read_laws.ensures c.args.decodings.now c.in-Ok.write c.args.r.now c.args.m.now c.execute.new.m
    (c.is_met.ensures c.if-is_met.false) c.in-Ok.ensures.write c.requires.kept

pub returns-in-Err-clause-state : goal.returns-in-Err-clause-state
returns-in-Err-clause-state c = c.execute.ensures.state ∙ moved_held c.args.decodings.now (machine c.args.r.now c.args.m.now) c.requires.held
