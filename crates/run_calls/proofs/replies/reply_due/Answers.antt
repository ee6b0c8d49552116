use Rattle.std.proofs.Common.{arith}
use Rattle.legal_run.specs.After.{import_of}
use Rattle.run_stops.specs.Standing.{state_of}
use Rattle.run_calls.specs.Answering.{Serving}
use Rattle.run_calls.proofs.Replying.{may_reply}
use Rattle.run_calls.proofs.replies.reply_due.Goals as goal

pub reply_whole-requires : goal.reply_whole-requires
reply_whole-requires g c =
    let q = c.requires in
    let a = c.args in
    let v : Serving = record { inputs = g.c; context = a.x; import = import_of (state_of g.c a.run.now) a.x; reply = a.reply } in
    let room = q.0.room in
    (q.0.answering, (q.0.fed, (q.1.0, (may_reply c.calls_can_be_answered.ensures c.calls_go_on.ensures c.calls_keep.ensures c.contexts_are_ready.ensures c.replies_are_taken.ensures c.spent_are_due.ensures v a.run.now q.1.1 q.0, (q.1.1, omega (arith, room))))))
