use Rattle.run_moves.proofs.Stopped.{adapters_counted, few_drivers, stopped}
use Rattle.run_moves.proofs.running.Running.stop.Goals as goal

pub stop-requires : goal.stop-requires
stop-requires g c = (c.requires.0.kept.world, (c.requires.0.kept.owner, (adapters_counted c.lists_keep_their_lengths.ensures g.o c.args.self.now c.requires.0, c.requires.0.kept.keeps.few)))

pub tell_bound-requires : goal.tell_bound-requires
tell_bound-requires g c = (c.requires.0.shown, (c.requires.0.kept.owner, few_drivers c.lists_keep_their_lengths.ensures g.o c.args.self.now c.requires.0 c.requires.1.1.1.0))

pub returns : goal.returns
returns g c = stopped c.run_laws.ensures g.o c.args.a c.args.cause c.args.self.now c.write.new.book c.stop.new.world c.write.new.log c.tell_bound.new.course c.requires.0 c.stop.ensures c.tell_bound.ensures c.write.ensures.logs c.write.ensures.book
