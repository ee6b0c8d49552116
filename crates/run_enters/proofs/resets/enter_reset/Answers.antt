use Rattle.std.proofs.Common.{◌<◌, ◌+◌, ◌^◌, Some, refl, ap, sym, subst, ℕ}
use Rattle.guest_world.specs.Worlds.{longest_time}
use Rattle.legal_run.specs.VerdictLaws.{is_send}
use Rattle.run_stops.specs.Standing.{state_of}
use Rattle.run_enters.proofs.Begun.{begin, begun, left_begun, may_begin, meets_behind, ready_behind, same_clock}
use Rattle.run_enters.proofs.Handed.{some_left}
use Rattle.run_enters.proofs.Unasked.{may_be, own, some_spare}
use Rattle.run_enters.proofs.resets.enter_reset.Goals as goal

pub note-requires : goal.note-requires
note-requires g c =
    let q = c.requires in
    (q.0.runs, (refl, (may_begin g.c (state_of g.c c.args.run.now) c.args.a c.args.x.0 q.0.free q.1.0 q.1.1.1.1.0 q.1.1.1.1.1.0 q.1.1.1.1.1.1.0, (refl, (tt, some_spare _ _ q.1.1.1.1.1.1.1.1.1)))))

pub enter_ready-requires : goal.enter_ready-requires
enter_ready-requires g c =
    let q = c.requires in
    let r = c.args.run.now in
    let m = c.note.new.self in
    let e = c.args.entering in
    let ready = q.1.1.1.1.1.1.1.0 in
    let added = c.moves_add.ensures g.c (begin c.args.a) r m c.note.ensures in
    let may = may_begin g.c (state_of g.c r) c.args.a c.args.x.0 q.0.free q.1.0 q.1.1.1.1.0 q.1.1.1.1.1.0 q.1.1.1.1.1.1.0 in (
      added.runs,
      (
        may_be (Some c.args.a) _ e ready.adapter ready.handler q.1.1.1.0,
        (
          own g.c m (Some c.args.a) c.args.x _ e (ready_behind g.c c.args.a c.args.x e r m added ready),
          (
            meets_behind c.enter_laws.ensures g.c c.args.a c.args.x e r m added q.1.0 ready,
            (ap is_send ready.handler, (subst (λ (n : ℕ). n + longest_time < 2 ^ 64) (sym (same_clock g.c c.args.a r m q.0.runs added)) q.1.1.1.1.1.1.1.1.0, some_left _ _ (left_begun c.rooms_stay.ensures g.c c.args.a r m q.0.runs q.1.1.1.1.1.1.1.1.1 may added))),
          ),
        ),
      ),
    )

pub returns : goal.returns
returns g c =
    let q = c.requires in
    let r = c.args.run.now in
    let m = c.note.new.self in
    let e = c.args.entering in
    let ready = q.1.1.1.1.1.1.1.0 in
    let added = c.moves_add.ensures g.c (begin c.args.a) r m c.note.ensures in
    let may = may_begin g.c (state_of g.c r) c.args.a c.args.x.0 q.0.free q.1.0 q.1.1.1.1.0 q.1.1.1.1.1.0 q.1.1.1.1.1.1.0 in
    begun c.moves_add.ensures c.states_are_free.ensures c.rooms_stay.ensures g.c c.args.a c.args.x e r m c.enter_ready.new.run c.enter_ready.result q.1.1.0 q.0 added
    (left_begun c.rooms_stay.ensures g.c c.args.a r m q.0.runs q.1.1.1.1.1.1.1.1.1 may added) (ready_behind g.c c.args.a c.args.x e r m added ready)
    (meets_behind c.enter_laws.ensures g.c c.args.a c.args.x e r m added q.1.0 ready) c.enter_ready.ensures
