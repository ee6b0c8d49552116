use Rattle.std.proofs.Common.{inr}
use Rattle.ndis_run.proofs.LogPieces.{stays_front}
use Rattle.ndis_run.proofs.log_file.write_log.Goals as goal

pub returns-clause-front : goal.returns-clause-front
returns-clause-front g c = λ m is. inr (stays_front c.args.log.now.entries c.loop-done.done _ m c.args.name.now (c.loop-done.invariant.told m is))
