use Rattle.run_leaves.proofs.Returning.{lost, lost_wider, on_error}
use Rattle.run_leaves.proofs.leaves.leave.Goals as goal

pub returns-in_err-judgement : goal.returns-in_err-judgement
returns-in_err-judgement g c = on_error g.c _ c.args.run.now c.args.run.now c.from_residual.result c.from_residual.ensures.0 (lost g.c c.args.run.now c.requires.0)

pub returns-in_err-make_room : goal.returns-in_err-make_room
returns-in_err-make_room g c =
    on_error g.c _ c.args.run.now _ c.from_residual-in_err-make_room.result c.from_residual-in_err-make_room.ensures.0
    (lost_wider g.c c.args.run.now c.make_room.new.log c.make_room.ensures.entries c.make_room.ensures.spare c.requires.0)
