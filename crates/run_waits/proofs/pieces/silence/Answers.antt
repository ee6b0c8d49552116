use Rattle.std.proofs.Common.{arith}
use Rattle.run_waits.proofs.Silencing.{has_room, may_stop, silenced}
use Rattle.run_waits.proofs.pieces.silence.Goals as goal

pub stop_whole-requires : goal.stop_whole-requires
stop_whole-requires g c =
    let settled = c.requires.0 in
    let counts = c.lists_keep_their_lengths.ensures in
    let may = c.requires.1.1.0 in
    (settled.runs, (may_stop c.free_entries_stand.ensures counts g.c c.args.run.now c.args.a settled may, ((omega arith, omega arith), (c.requires.1.0.drivers, has_room counts c.stops_take_room.ensures g.c c.args.run.now c.args.a settled may c.requires.1.1.1))))

pub returns : goal.returns
returns g c = silenced c.lists_keep_their_lengths.ensures c.stops_take_room.ensures g.c c.args.a c.args.run.now c.stop_whole.new.run c.requires.0 c.requires.1.1.0 c.stop_whole.ensures
