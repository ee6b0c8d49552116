use Rattle.std.proofs.Common.{refl}
use Rattle.run_stops.specs.Standing.{point_of}
use Rattle.run_enters.specs.Entered.{first_context}
use Rattle.run_enters.proofs.Settling.{lost_before}
use Rattle.run_enters.proofs.Unasked.{or_lost}
use Rattle.run_enters.proofs.enters.enter_entry.Goals as goal

pub returns-in_err-entering : goal.returns-in_err-entering
returns-in_err-entering g c = or_lost g.c _ first_context _ c.args.run.now c.args.run.now c.from_residual.result c.from_residual.ensures.0 (lost_before g.c c.args.run.now c.requires.0) refl

pub enter_alone-requires : goal.enter_alone-requires
enter_alone-requires g c =
    let q = c.requires in
    let ready = c.in_ok-entering.ensures in
    let meets = c.enter_laws.ensures.entry (point_of g.c c.args.run.now) first_context c.in_ok-entering.entering q.0.free q.1.0 refl ready in
    (q.0, (refl, (refl, (ready, (meets, (q.1.1.1.0, q.1.1.1.1))))))
