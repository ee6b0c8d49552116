use Rattle.std.proofs.Common.{◌≡◌, Some, None, refl, ap, ◌∙◌, sym}
use Rattle.std.specs.List.{position}
use Rattle.owner_machine.specs.Requests.{asked_of, first_asked}
use Rattle.owner_machine.specs.State.{Owner}
use Rattle.legal_run.specs.VerdictLaws.{is_send}
use Rattle.run_stops.specs.Stopping.{owner_of}
use Rattle.run_enters.proofs.Handed.{ask_sends, asked, left_behind, may_hand, runs_behind, some_asked, some_left}
use Rattle.run_enters.proofs.Settling.{lost_as_before}
use Rattle.run_enters.proofs.Unasked.{may_be, or_lost, own, some_spare}
use Rattle.run_enters.proofs.asks.enter_asked.Goals as goal

pub enter_ready-requires : goal.enter_ready-requires
enter_ready-requires g c =
    let q = c.requires in
    let ready = q.1.1.1.0 in
    let e = c.args.entering in (
      q.0.runs,
      (
        may_be (Some c.args.a) c.args.h e ready.adapter ready.handler q.1.1.0,
        (
          own g.c c.args.run.now (Some c.args.a) c.args.x c.args.h e ready,
          (
            q.1.1.1.1.0,
            (ap is_send ready.handler ∙ ask_sends c.args.h q.1.0, (q.1.1.1.1.1.0, some_spare _ _ q.1.1.1.1.1.1)),
          ),
        ),
      ),
    )

pub returns-in_err-enter_ready : goal.returns-in_err-enter_ready
returns-in_err-enter_ready g c =
    let wanted = c.in_err-enter_ready.ensures in
    or_lost g.c (Some c.args.a) c.args.x c.args.h c.args.run.now c.enter_ready.new.run c.from_residual.result c.from_residual.ensures.0 (lost_as_before g.c c.args.run.now c.enter_ready.new.run c.requires.0 wanted.0 wanted.1) wanted.1

pub unreachable-requires : goal.unreachable-requires
unreachable-requires g c =
    let q = c.requires in
    let r = c.args.run.now in
    let m = c.enter_ready.new.run in
    let grown = c.in_ok-enter_ready.ensures in
    let runs = runs_behind c.moves_add.ensures g.c c.args.x c.args.entering r m grown in
    let missing : first_asked (owner_of g.c m) c.args.a.0 ≡ None = ap (λ (o : Owner). position (asked_of c.args.a.0) o.requests) (sym runs.kept.owner) ∙ sym c.first_request.ensures ∙ c.in_default.is in
    some_asked c.duties_are_served.ensures c.moves_add.ensures g.c c.args.a c.args.x c.args.h c.args.entering r m q.1.0 q.1.1.1.0 grown missing

pub note-requires : goal.note-requires
note-requires g c =
    let q = c.requires in
    let r = c.args.run.now in
    let m = c.enter_ready.new.run in
    let grown = c.in_ok-enter_ready.ensures in
    let runs = runs_behind c.moves_add.ensures g.c c.args.x c.args.entering r m grown in
    let there : first_asked (owner_of g.c m) c.args.a.0 ≡ Some c.in-Some.r = ap (λ (o : Owner). position (asked_of c.args.a.0) o.requests) (sym runs.kept.owner) ∙ sym c.first_request.ensures ∙ c.in-Some.is in (
      runs,
      (
        refl,
        (
          may_hand c.duties_are_served.ensures c.moves_add.ensures g.c c.args.a c.args.x c.args.h c.args.entering c.in-Some.r r m q.1.0 q.1.1.1.0 grown there,
          (refl, (tt, some_left _ _ (left_behind c.rooms_stay.ensures c.moves_add.ensures g.c (Some c.args.a) c.args.x c.args.h c.args.entering r m q.0 q.1.1.1.1.1.1 q.1.1.1.0 q.1.1.1.1.0 grown))),
        ),
      ),
    )

pub returns : goal.returns
returns g c =
    let q = c.requires in
    let r = c.args.run.now in
    let m = c.enter_ready.new.run in
    let grown = c.in_ok-enter_ready.ensures in
    let runs = runs_behind c.moves_add.ensures g.c c.args.x c.args.entering r m grown in
    let there : first_asked (owner_of g.c m) c.args.a.0 ≡ Some c.in-Some.r = ap (λ (o : Owner). position (asked_of c.args.a.0) o.requests) (sym runs.kept.owner) ∙ sym c.first_request.ensures ∙ c.in-Some.is in
    asked c.duties_are_served.ensures c.moves_add.ensures c.states_are_free.ensures c.rooms_stay.ensures g.c c.args.a c.args.x c.args.h c.args.entering c.in-Some.r r m c.note.new.self q.0 q.1.1.1.1.1.1 q.1.0 q.1.1.1.0 q.1.1.1.1.0 grown there c.note.ensures
