use Rattle.std.proofs.Common.{◌≡◌, ◌<◌, length, refl, sym, ap, ◌∙◌, subst, arith}
use Rattle.call_log.specs.declared.entry.Entry.TheVariants as entries
use Rattle.import_table.specs.Table.{row_of}
use Rattle.owner_book.specs.Stopping.{stop_room}
use Rattle.legal_run.specs.State.{State}
use Rattle.legal_run.specs.After.{after}
use Rattle.legal_run.specs.Run.{Run}
use Rattle.run_stops.specs.Standing.{state_of}
use Rattle.run_stops.specs.Stopping.{owner_of}
use Rattle.run_calls.specs.Answering.{Serving}
use Rattle.run_calls.proofs.Answered.{begins, known_as}
use Rattle.run_calls.proofs.Settling.{continued, room_behind, sixteen, then_settles}
use Rattle.run_calls.proofs.calls.answer_at_once.Goals as goal

pub write_call-requires : goal.write_call-requires
write_call-requires g c = let room = c.requires.1.1.1.1.1.1.1.1.1.1 in (c.requires.0.answering, (c.requires.1.0, omega (arith, room)))

pub make_and_reply-requires : goal.make_and_reply-requires
make_and_reply-requires g c =
    let q = c.requires in
    let a = c.args in
    let s = state_of g.c a.run.now in
    let e = entries.Call a.x a.calling.import a.words in
    let m = c.write_call.new.run in
    let at = continued c.run_laws.ensures g.c e a.run.now m c.write_call.ensures in
    let less : a.x.0 < length s.contexts = sixteen c.lists_keep_their_lengths.ensures g.c a.run.now a.x q.0.answering.reaches q.1.0.goes.number in
    let stays = room_behind c.run_laws.ensures c.rooms_stay.ensures g.c a.run.now.log.entries e (subst (Run g.c) c.write_call.ensures.written at.0.reaches.run) refl in
    let same : stop_room (owner_of g.c m) ≡ stop_room (after g.c s e).owner = ap (λ (t : State). stop_room t.owner) at.1 in
    let room = q.1.1.1.1.1.1.1.1.1.1 in
    let spare = c.write_call.ensures.spare in
    let v : Serving = record { inputs = g.c; context = a.x; import = a.calling.import; reply = a.reply } in
    let making = begins g.c a.x a.calling.import a.words a.reply a.made.items a.run.now m c.write_call.ensures at.0 at.1 less q.1.1.0 q.1.1.1.0 q.1.1.1.1.0 q.0.fed q.1.1.1.1.1.1.0 q.1.1.1.1.1.1.1.0 q.1.1.1.1.1.1.1.1.0 (omega (arith, stays, same, room, spare)) in
    let known = known_as v a.made.items m a.x a.reply making refl refl in
    (known.0, (refl, (refl, (q.1.1.1.1.1.0 ∙ ap row_of (sym known.1), q.1.1.1.1.1.1.1.1.1.0))))

pub returns : goal.returns
returns g c =
    let e = entries.Call c.args.x c.args.calling.import c.args.words in
    then_settles g.c e c.args.run.now c.write_call.new.run c.make_and_reply.new.run c.write_call.ensures.written c.make_and_reply.ensures
