use Rattle.run_moves.proofs.Turning.{turned}
use Rattle.run_moves.proofs.running.Running.turn.Goals as goal

pub returns : goal.returns
returns g c = turned c.run_laws.ensures g.o c.args.x c.args.self.now c.turn.new.adapters c.turn.new.book c.turn.new.world c.turn.new.log c.turn.result c.requires.0 c.turn.ensures
