use Rattle.run_calls.proofs.Wrote.{wrote}
use Rattle.run_calls.proofs.moves.write_light.Goals as goal

pub returns : goal.returns
returns g c = wrote c.run_laws.ensures g.o c.args.entry c.args.run.now c.write.new.book c.write.new.log c.tell.new.course c.requires.0 c.requires.1.1.0 c.write.ensures.logs c.write.ensures.book c.tell.ensures
