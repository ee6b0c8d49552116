use Rattle.std.proofs.Common.{◌≡◌, length, refl, ap, arith}
use Rattle.call_log.specs.declared.entry.Entry.TheVariants as entries
use Rattle.run_stops.specs.Standing.{state_of}
use Rattle.run_waits.proofs.Coming.{may_come, the_frame, within}
use Rattle.run_waits.proofs.Settling.{settles}
use Rattle.run_waits.proofs.arrivals.arrive.Goals as goal

pub come-requires : goal.come-requires
come-requires g c =
    let settled = c.requires.0 in
    let s = state_of g.c c.args.run.now in
    let due = c.requires.1.1.0 in
    let room = c.requires.1.1.1 in
    let there = within g.c s due in
    let same : length c.args.frames.now ≡ length g.c.frames = ap length c.requires.1.0 in
    (settled.runs, (the_frame g.c s c.args.frames.now c.args.run.now.course.come c.index-frames-run.result c.requires.1.0 settled.runs.shown.arrivals c.index-frames-run.is due, (may_come c.free_entries_stand.ensures g.c c.args.run.now settled due, (omega (arith, there, same), omega (arith, room)))))

pub returns : goal.returns
returns g c = settles c.moves_add.ensures g.c (entries.WireIn (state_of g.c c.args.run.now).come) c.args.run.now c.come.new.run c.requires.0 c.come.ensures c.requires.1.1.1 refl refl refl
