use Rattle.std.proofs.Common.{ap, ◌∙◌}
use Rattle.legal_run.specs.VerdictLaws.{is_send}
use Rattle.run_enters.proofs.Unasked.{alone, may_be, no_send, own, some_spare}
use Rattle.run_enters.proofs.alone.enter_alone.Goals as goal

pub enter_ready-requires : goal.enter_ready-requires
enter_ready-requires g c =
    let q = c.requires in
    let ready = q.1.1.1.0 in
    let e = c.args.entering in (
      q.0.runs,
      (
        may_be c.args.a c.args.h e ready.adapter ready.handler q.1.1.0,
        (
          own g.c c.args.run.now c.args.a c.args.x c.args.h e ready,
          (
            q.1.1.1.1.0,
            (ap is_send ready.handler ∙ no_send c.args.h q.1.0, (q.1.1.1.1.1.0, some_spare _ _ q.1.1.1.1.1.1)),
          ),
        ),
      ),
    )

pub returns : goal.returns
returns g c =
    let q = c.requires in
    alone c.moves_add.ensures c.states_are_free.ensures c.rooms_stay.ensures g.c c.args.a c.args.x c.args.h c.args.entering c.args.run.now c.enter_ready.new.run c.enter_ready.result q.0 q.1.1.1.1.1.1 q.1.0 q.1.1.1.0 q.1.1.1.1.0 c.enter_ready.ensures
