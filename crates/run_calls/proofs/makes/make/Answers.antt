use Rattle.std.proofs.Common.{arith}
use Rattle.run_calls.specs.Answering.{rest_of}
use Rattle.run_calls.proofs.Answered.{entry_is_due}
use Rattle.run_calls.proofs.Making.{makes_one}
use Rattle.run_calls.proofs.makes.make.Goals as goal

pub write_light-requires : goal.write_light-requires
write_light-requires g c =
    let m = c.requires in
    let room = m.room in
    (m.answering, (entry_is_due g.v c.args.entry (rest_of g.v.inputs c.args.run.now) c.args.run.now m, (m.light.0.0, (m.light.0.1, omega (arith, room)))))

pub returns : goal.returns
returns g c = makes_one c.run_laws.ensures c.rooms_stay.ensures g.v c.args.entry (rest_of g.v.inputs c.args.run.now) c.args.run.now c.write_light.new.run c.requires c.write_light.ensures
