use Rattle.run_enters.proofs.May.{few, few_long, may}
use Rattle.run_enters.proofs.alone.enter_ready.Goals as goal

pub enter-requires : goal.enter-requires
enter-requires g c =
    let q = c.requires in
    let r = c.args.run.now in (
      q.0,
      (
        may c.enter_laws.ensures c.contexts_are_ready.ensures c.periods_are_short.ensures g.c r c.args.x c.args.entering q.0 q.1.0 q.1.1.0 q.1.1.1.0 q.1.1.1.1.1.0,
        (q.1.1.1.1.0, (few c.expirations_are_few.ensures g.c r q.0 (few_long c.len.result _ c.len.ensures c.len.type_inv c.if-len.false), q.1.1.1.1.1.1)),
      ),
    )
