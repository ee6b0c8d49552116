use Rattle.std.proofs.Common.{◌≡◌, [], ◌∷◌, Some, refl, sym, ap, ◌∙◌}
use Rattle.std.specs.Prelude.{is_some}
use Rattle.import_answers.specs.World.{word}
use Rattle.legal_run.specs.State.{start}
use Rattle.legal_run.specs.Enters.{loan_named}
use Rattle.legal_run.specs.VerdictLaws.{is_send}
use Rattle.run_stops.specs.Standing.{state_of}
use Rattle.run_enters.proofs.Handed.{left_behind, runs_behind, some_left}
use Rattle.run_enters.proofs.Settling.{lost_as_before}
use Rattle.run_enters.proofs.Taken.{has_named, home, kept_named, lives, may_go}
use Rattle.run_enters.proofs.Unasked.{may_be, or_lost, own, some_spare}
use Rattle.run_enters.proofs.homes.enter_home.Goals as goal

pub loan_named-loan-requires : goal.loan_named-loan-requires
loan_named-loan-requires g c =
    let q = c.requires in
    let r = c.args.run.now in
    let words = c.args.entering.words in
    let s = state_of g.c r in
    let told : c.second_word-descriptor.result ≡ word words 2 = c.second_word-descriptor.ensures ∙ ap (λ ws. word ws 2) c.as_slice.ensures in
    let named : loan_named (record (start g.c) { owner = r.book; lent = c.as_slice-2.result.now }) c.args.a.0 (0 ∷ c.second_word-descriptor.result ∷ []) ≡ loan_named s c.args.a.0 (0 ∷ word words 2 ∷ []) =
    kept_named (record (start g.c) { owner = r.book; lent = c.as_slice-2.result.now }) s c.args.a.0 c.second_word-descriptor.result (word words 2) q.0.runs.kept.owner (c.as_slice-2.ensures.value ∙ q.0.runs.shown.loans) told in
    (refl, (refl, ap is_some named ∙ has_named g.c s c.args.a c.args.x words c.args.entering.writes q.1.1.0.carried))

pub enter_ready-requires : goal.enter_ready-requires
enter_ready-requires g c =
    let q = c.requires in
    let ready = q.1.1.0 in
    let e = c.args.entering in (
      q.0.runs,
      (
        may_be (Some c.args.a) _ e ready.adapter ready.handler q.1.0,
        (
          own g.c c.args.run.now (Some c.args.a) c.args.x _ e ready,
          (
            q.1.1.1.0,
            (ap is_send ready.handler, (q.1.1.1.1.0, some_spare _ _ q.1.1.1.1.1)),
          ),
        ),
      ),
    )

pub returns-in_err-enter_ready : goal.returns-in_err-enter_ready
returns-in_err-enter_ready g c =
    let wanted = c.in_err-enter_ready.ensures in
    or_lost g.c (Some c.args.a) c.args.x _ c.args.run.now c.enter_ready.new.run c.from_residual.result c.from_residual.ensures.0 (lost_as_before g.c c.args.run.now c.enter_ready.new.run c.requires.0 wanted.0 wanted.1) wanted.1

pub back-requires : goal.back-requires
back-requires g c =
    let q = c.requires in
    let r = c.args.run.now in
    let m = c.enter_ready.new.run in
    let e = c.args.entering in
    let grown = c.in_ok-enter_ready.ensures in
    let words = e.words in
    let s = state_of g.c r in
    let told : c.second_word-descriptor.result ≡ word words 2 = c.second_word-descriptor.ensures ∙ ap (λ ws. word ws 2) c.as_slice.ensures in
    let named : loan_named s c.args.a.0 (0 ∷ word words 2 ∷ []) ≡ Some c.loan_named-loan.result.0 =
    sym (kept_named (record (start g.c) { owner = r.book; lent = c.as_slice-2.result.now }) s c.args.a.0 c.second_word-descriptor.result (word words 2) q.0.runs.kept.owner (c.as_slice-2.ensures.value ∙ q.0.runs.shown.loans) told) ∙ c.loan_named-loan.ensures in
    let may = may_go c.each_duty_is_served.ensures c.moves_add.ensures g.c c.args.a c.args.x e c.loan_named-loan.result r m q.1.1.0 grown named in (
      runs_behind c.moves_add.ensures g.c c.args.x e r m grown,
      (
        may,
        (
          lives c.back_is_live.ensures c.moves_add.ensures g.c c.args.x e c.loan_named-loan.result r m grown may,
          some_left _ _ (left_behind c.rooms_stay.ensures c.moves_add.ensures g.c (Some c.args.a) c.args.x _ e r m q.0 q.1.1.1.1.1 q.1.1.0 q.1.1.1.0 grown),
        ),
      ),
    )

pub returns : goal.returns
returns g c =
    let q = c.requires in
    let r = c.args.run.now in
    let m = c.enter_ready.new.run in
    let e = c.args.entering in
    let words = e.words in
    let s = state_of g.c r in
    let told : c.second_word-descriptor.result ≡ word words 2 = c.second_word-descriptor.ensures ∙ ap (λ ws. word ws 2) c.as_slice.ensures in
    let named : loan_named s c.args.a.0 (0 ∷ word words 2 ∷ []) ≡ Some c.loan_named-loan.result.0 =
    sym (kept_named (record (start g.c) { owner = r.book; lent = c.as_slice-2.result.now }) s c.args.a.0 c.second_word-descriptor.result (word words 2) q.0.runs.kept.owner (c.as_slice-2.ensures.value ∙ q.0.runs.shown.loans) told) ∙ c.loan_named-loan.ensures in
    home c.each_duty_is_served.ensures c.moves_add.ensures c.states_are_free.ensures c.rooms_stay.ensures g.c c.args.a c.args.x c.args.entering c.loan_named-loan.result r m c.back.new.self q.0 q.1.1.1.1.1 q.1.1.0 q.1.1.1.0 c.in_ok-enter_ready.ensures named c.back.ensures
