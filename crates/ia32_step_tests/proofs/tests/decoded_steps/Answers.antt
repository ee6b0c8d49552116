use Rattle.ia32_step_tests.proofs.tests.decoded_steps.Goals as goal

pub loop-count-init : goal.loop-count-init
loop-count-init c = c.new-decodings.ensures c.args.m.now
