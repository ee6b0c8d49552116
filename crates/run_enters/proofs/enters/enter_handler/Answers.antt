use Rattle.std.proofs.Common.{refl, ◌≡◌, true, Option, Some, sym, ap, ◌∙◌, subst}
use Rattle.log_fields.specs.declared.field_values.Handler.{Handler}
use Rattle.log_fields.specs.declared.field_values.Handler.TheVariants as handler
use Rattle.legal_run.specs.Owed.{is_owed}
use Rattle.legal_run.specs.Enters.{is_reset}
use Rattle.handler_entries.specs.declared.enters.Entering.{Entering}
use Rattle.handler_words.specs.Ready.{IsReady, IsReadyOr}
use Rattle.run_stops.specs.Standing.{point_of, state_of}
use Rattle.run_enters.proofs.May.{few_drivers, given, one_of_four}
use Rattle.run_enters.proofs.Settling.{lost_before}
use Rattle.run_enters.proofs.Unasked.{asks_no_reset, asks_one, is_left, no_reset, or_lost}
use Rattle.run_enters.proofs.enters.enter_handler.Goals as goal

pub prepare_owed-requires : goal.prepare_owed-requires
prepare_owed-requires g c =
    let q = c.requires in
    let r = c.args.run.now in (
      q.0.runs,
      (
        one_of_four _ _ (given c.adapters_are_given.ensures g.c r c.args.a.0 c.args.h q.0.runs q.1.1.0) q.1.0.adapters,
        (
          few_drivers c.lists_keep_their_lengths.ensures g.c r q.0.runs q.1.0.drivers,
          (q.1.1.1.1.0, (q.1.1.1.1.1.0, (q.1.1.1.1.1.1.0, q.1.1.0))),
        ),
      ),
    )

pub returns-in_err-entering : goal.returns-in_err-entering
returns-in_err-entering g c = or_lost g.c _ c.args.x c.args.h c.args.run.now c.args.run.now c.from_residual.result c.from_residual.ensures.0 (lost_before g.c c.args.run.now c.requires.0) refl

pub enter_asked-requires : goal.enter_asked-requires
enter_asked-requires g c =
    let q = c.requires in
    let r = c.args.run.now in
    let o = point_of g.c r in
    let e = c.in-Some.entering in
    let ready : IsReady o (Some c.args.a) c.args.x c.args.h e = subst (λ (m : Option Entering). IsReadyOr o c.args.a c.args.x c.args.h m) c.in-Some.is c.in_ok-entering.ensures in
    let meets = c.enter_laws.ensures.owed o c.args.a c.args.x c.args.h e q.0.free q.1.1.0 (asks_no_reset c.args.h c.in-Query.is) ready in
    (q.0, (asks_one c.args.h c.in-Query.is, (one_of_four _ _ (given c.adapters_are_given.ensures g.c r c.args.a.0 c.args.h q.0.runs q.1.1.0) q.1.0.adapters, (ready, (meets, (q.1.1.1.1.1.1.1.0, q.1.1.1.1.1.1.1.1))))))

pub enter_home-requires : goal.enter_home-requires
enter_home-requires g c =
    let q = c.requires in
    let r = c.args.run.now in
    let o = point_of g.c r in
    let e = c.in-Some.entering in
    let ready : IsReady o (Some c.args.a) c.args.x c.args.h e = subst (λ (m : Option Entering). IsReadyOr o c.args.a c.args.x c.args.h m) c.in-Some.is c.in_ok-entering.ensures in
    let meets = c.enter_laws.ensures.owed o c.args.a c.args.x c.args.h e q.0.free q.1.1.0 (ap is_reset c.in-ReturnPacket.is) ready in
    (q.0, (one_of_four _ _ (given c.adapters_are_given.ensures g.c r c.args.a.0 c.args.h q.0.runs q.1.1.0) q.1.0.adapters, (subst (λ (k : Handler). IsReady o (Some c.args.a) c.args.x k e) c.in-ReturnPacket.is ready, (meets, (q.1.1.1.1.1.1.1.0, q.1.1.1.1.1.1.1.1)))))

pub enter_reset-requires : goal.enter_reset-requires
enter_reset-requires g c =
    let q = c.requires in
    let r = c.args.run.now in
    let o = point_of g.c r in
    let e = c.in-Some.entering in
    let inside = given c.adapters_are_given.ensures g.c r c.args.a.0 c.args.h q.0.runs q.1.1.0 in
    let ready : IsReady o (Some c.args.a) c.args.x c.args.h e = subst (λ (m : Option Entering). IsReadyOr o c.args.a c.args.x c.args.h m) c.in-Some.is c.in_ok-entering.ensures in
    let owed : is_owed g.c (state_of g.c r) c.args.a.0 handler.Reset ≡ true = sym (ap (is_owed g.c (state_of g.c r) c.args.a.0) c.in-Reset.is) ∙ q.1.1.0 in
    (q.0, (owed, (inside, (one_of_four _ _ inside q.1.0.adapters, (q.1.1.1.1.0, (q.1.1.1.1.1.0, (q.1.1.1.1.1.1.0, (subst (λ (k : Handler). IsReady o (Some c.args.a) c.args.x k e) c.in-Reset.is ready, (q.1.1.1.1.1.1.1.0, q.1.1.1.1.1.1.1.1)))))))))

pub enter_alone-requires : goal.enter_alone-requires
enter_alone-requires g c =
    let q = c.requires in
    let r = c.args.run.now in
    let o = point_of g.c r in
    let e = c.in-Some.entering in
    let d = c.in_default-h in
    let alone = is_left c.args.h d.not-Reset d.not-ReturnPacket d.not-Query d.not-Set q.1.1.1.0 in
    let ready : IsReady o (Some c.args.a) c.args.x c.args.h e = subst (λ (m : Option Entering). IsReadyOr o c.args.a c.args.x c.args.h m) c.in-Some.is c.in_ok-entering.ensures in
    let meets = c.enter_laws.ensures.owed o c.args.a c.args.x c.args.h e q.0.free q.1.1.0 (no_reset c.args.h alone) ready in
    (q.0, (alone, (one_of_four _ _ (given c.adapters_are_given.ensures g.c r c.args.a.0 c.args.h q.0.runs q.1.1.0) q.1.0.adapters, (ready, (meets, (q.1.1.1.1.1.1.1.0, q.1.1.1.1.1.1.1.1))))))
