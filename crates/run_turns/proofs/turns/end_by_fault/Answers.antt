use Rattle.std.proofs.Common.{arith}
use Rattle.run_turns.proofs.Turning.{goes, settles_by}
use Rattle.run_turns.proofs.turns.end_by_fault.Goals as goal

pub fault-requires : goal.fault-requires
fault-requires g c =
    let room = c.requires.1.1.1.1.1.1 in
    (c.requires.0.runs, (goes c.contexts_are_ready.ensures g.c c.args.run.now c.args.x c.requires.0 c.requires.1.0 c.requires.1.1.0, (c.requires.1.1.1.0, omega (arith, room))))

pub returns : goal.returns
returns g c = settles_by g.c _ c.args.run.now c.fault.new.self c.stop_for.new.run c.fault.ensures.written c.stop_for.ensures
