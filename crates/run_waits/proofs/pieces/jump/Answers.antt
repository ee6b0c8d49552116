use Rattle.std.proofs.Common.{refl, arith}
use Rattle.call_log.specs.declared.entry.Entry.TheVariants as entries
use Rattle.run_stops.specs.Standing.{point_of, state_of}
use Rattle.run_waits.proofs.Settling.{is_later, settles}
use Rattle.run_waits.proofs.pieces.jump.Goals as goal

pub jump-requires : goal.jump-requires
jump-requires g c =
    let settled = c.requires.0 in
    let room = c.requires.1.1 in
    (settled.runs, (c.free_entries_stand.ensures (point_of g.c c.args.run.now) (entries.Time c.args.moment) settled.free c.requires.1.0 refl refl, (is_later g.c (state_of g.c c.args.run.now) c.args.moment c.requires.1.0, omega (arith, room))))

pub returns : goal.returns
returns g c = settles c.moves_add.ensures g.c (entries.Time c.args.moment) c.args.run.now c.jump.new.self c.requires.0 c.jump.ensures c.requires.1.1 refl refl refl
