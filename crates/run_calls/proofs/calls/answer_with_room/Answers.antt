use Rattle.run_calls.proofs.Judging.{lost_asking}
use Rattle.run_calls.proofs.calls.answer_with_room.Goals as goal

pub returns-in-Err : goal.returns-in-Err
returns-in-Err g c = lost_asking g.c c.args.run.now c.make_room.new.log c.make_room.ensures.entries c.make_room.ensures.spare c.requires.0
