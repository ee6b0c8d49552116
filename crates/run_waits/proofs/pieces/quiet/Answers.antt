use Rattle.std.proofs.Common.{refl}
use Rattle.call_log.specs.declared.entry.Entry.TheVariants as entries
use Rattle.run_waits.proofs.Settling.{settles}
use Rattle.run_waits.proofs.pieces.quiet.Goals as goal

pub returns : goal.returns
returns g c = settles c.moves_add.ensures g.c (entries.Quiet c.args.driver) c.args.run.now c.quiet.new.self c.requires.0 c.quiet.ensures c.requires.1.1 refl refl refl
