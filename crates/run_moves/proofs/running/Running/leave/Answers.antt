use Rattle.run_moves.proofs.Turning.{left}
use Rattle.run_moves.proofs.running.Running.leave.Goals as goal

pub returns : goal.returns
returns g c = left c.run_laws.ensures g.o c.args.x c.args.self.now c.leave.new.adapters c.leave.new.book c.leave.new.world c.leave.new.log c.leave.result c.requires.0 c.leave.ensures
