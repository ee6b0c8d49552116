use Rattle.ia32_step.proofs.step_decoded.Goals as goal

pub returns-then-not-look_up-clause-keeps : goal.returns-then-not-look_up-clause-keeps
returns-then-not-look_up-clause-keeps c = c.new.ensures c.run_fetched.new.m
