use Rattle.std.proofs.Common.{sym, ◌∙◌}
use Rattle.run_rests.proofs.Later.{jumps}
use Rattle.run_rests.proofs.jumps.next_jump.Goals as goal

pub returns-then-waiting : goal.returns-then-waiting
returns-then-waiting g c = jumps g.o.inputs g.o.state c.next_moment.result (sym c.rests-resting.ensures ∙ c.if-resting.true) (sym c.all_wait-waiting.ensures ∙ c.if-waiting.true) c.next_moment.ensures
