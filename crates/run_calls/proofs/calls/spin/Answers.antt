use Rattle.std.proofs.Common.{◌≡◌, ◌<◌, length, refl, sym, ap, ◌∙◌, subst, arith}
use Rattle.call_log.specs.declared.entry.Entry.TheVariants as entries
use Rattle.legal_run.specs.State.{State}
use Rattle.legal_run.specs.After.{after}
use Rattle.legal_run.specs.Must.{must}
use Rattle.legal_run.specs.Run.{Run, is_memory_stop}
use Rattle.std.specs.List.{list_any}
use Rattle.owner_book.specs.Stopping.{stop_room}
use Rattle.run_stops.specs.Standing.{state_of}
use Rattle.run_stops.specs.Stopping.{owner_of}
use Rattle.run_calls.proofs.Answered.{did_spin, spin_due, spun_next, spun_world}
use Rattle.run_calls.proofs.Settling.{by_one, by_two, continued, fed_more, room_behind, sixteen}
use Rattle.run_calls.proofs.calls.spin.Goals as goal

pub write_call-requires : goal.write_call-requires
write_call-requires g c = let room = c.requires.1.1.1.1 in (c.requires.0.answering, (c.requires.1.0, omega (arith, room)))

pub write_spin-requires : goal.write_spin-requires
write_spin-requires g c =
    let q = c.requires in
    let a = c.args in
    let s = state_of g.c a.run.now in
    let e = entries.Call a.x a.calling.import a.words in
    let m = c.write_call.new.run in
    let at = continued c.run_laws.ensures g.c e a.run.now m c.write_call.ensures in
    let less : a.x.0 < length s.contexts = sixteen c.lists_keep_their_lengths.ensures g.c a.run.now a.x q.0.answering.reaches q.1.0.goes.number in
    let room = q.1.1.1.1 in
    let spare = c.write_call.ensures.spare in (
      at.0,
      (
        ap must at.1 ∙ spin_due g.c s a.x a.calling.import a.words a.lock q.1.1.1.0 (did_spin s a.x a.calling.import a.words a.holder a.run.now.world q.1.1.0),
        (
          c.write_call.ensures.world
              ∙ sym (spun_world g.c s a.x a.calling.import a.words a.lock a.holder a.run.now.world less q.1.1.0)
              ∙ ap (λ (t : State). (after g.c t (entries.Spin a.x a.lock)).world) (sym at.1),
          omega (arith, room, spare),
        ),
      ),
    )

pub returns : goal.returns
returns g c =
    let q = c.requires in
    let a = c.args in
    let s = state_of g.c a.run.now in
    let e = entries.Call a.x a.calling.import a.words in
    let f = entries.Spin a.x a.lock in
    let m = c.write_call.new.run in
    let r = c.write_spin.new.run in
    let at = continued c.run_laws.ensures g.c e a.run.now m c.write_call.ensures in
    let stays = room_behind c.run_laws.ensures c.rooms_stay.ensures g.c a.run.now.log.entries e (subst (Run g.c) c.write_call.ensures.written at.0.reaches.run) refl in
    let room = q.1.1.1.1 in
    let spare = c.write_call.ensures.spare in
    let same : stop_room (owner_of g.c m) ≡ stop_room (after g.c s e).owner = ap (λ (t : State). stop_room t.owner) at.1 in
    let added = c.moves_add.ensures g.c f m r c.write_spin.ensures in
    by_two g.c e f a.run.now m r c.write_call.ensures.written
    (by_one c.run_laws.ensures c.rooms_stay.ensures g.c f m r added refl refl (ap (list_any is_memory_stop) c.write_call.ensures.written ∙ fed_more a.run.now.log.entries e q.0.fed refl) (omega (arith, stays, same, room, spare))
    (ap (λ (t : State). must (after g.c t f)) at.1 ∙ spun_next g.c s a.x a.calling.import a.words a.lock (did_spin s a.x a.calling.import a.words a.holder a.run.now.world q.1.1.0)))
