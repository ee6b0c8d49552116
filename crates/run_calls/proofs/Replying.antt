-- The reply that is due may be made.
use Rattle.std.proofs.Common.{◌≡◌, List, [], ◌++◌, Some, refl, ap, ◌∙◌, subst, arith, append-nil}
use Rattle.log_fields.specs.declared.write.Write.{Write}
use Rattle.call_log.specs.declared.entry.Entry.TheVariants as entries
use Rattle.import_table.specs.Table.{row_of}
use Rattle.guest_world.specs.declared.answer.Answer.TheVariants.{Now}
use Rattle.legal_run.specs.Laws.{CallsKeep, RepliesAreTaken}
use Rattle.legal_run.specs.State.{caller}
use Rattle.legal_run.specs.Replies.{answered}
use Rattle.legal_run.specs.Run.{Meets}
use Rattle.miniport.specs.Replies.{MayReply}
use Rattle.run_duties.specs.Laws.{CallLaws}
use Rattle.run_facts.specs.Facts.{CallsCanBeAnswered, ContextsAreReady, IsOfRun, SpentAreDue}
use Rattle.run_moves.specs.declared.running.Running.{Running}
use Rattle.run_stops.specs.Standing.{IsGiven, point_of, state_of}
use Rattle.run_calls.specs.Answering.{IsMaking, Serving}
use Rattle.run_calls.proofs.Answered.{reply_is_due}

pub may_reply : CallsCanBeAnswered → CallLaws → CallsKeep → ContextsAreReady → RepliesAreTaken → SpentAreDue → (v : Serving) (r : Running) → IsGiven v.inputs → IsMaking v [] r
    → MayReply (point_of v.inputs r) v.context v.reply r.world
may_reply answers laws keep ready taken spent v r given making =
    let c = v.inputs in
    let x = v.context in
    let reply = v.reply in
    let s = state_of c r in
    let call = making.call in
    let due = reply_is_due v r making in
    let here : IsOfRun c s = record { log = r.log.entries; reaches = making.answering.reaches } in
    let same : reply.writes ++ call.writes ≡ reply.writes = ap (λ (ws : List Write). reply.writes ++ ws) making.plain ∙ append-nil reply.writes in
    let meets : Meets c s (entries.Reply x reply.eax reply.writes) =
    subst (λ (ws : List Write). Meets c s (entries.Reply x reply.eax ws)) same (laws.given c r.log.entries x call reply r.world making.answering.reaches.run due making.called making.comes) in
    let kept = keep s.world r.world (caller s x) (row_of call.import) call.words (Now reply) making.comes in
    let moment = kept.moment in
    let time = making.time in
    let most = making.most in
    record {
      number = ready.numbers c s x.0 here (answers.due c s x here due);
      meets = meets;
      given = reply;
      found = subst (λ (ws : List Write). answered s x (record { eax = reply.eax; writes = ws }) ≡ Some (reply, r.world)) same (taken s x call reply r.world making.called making.by_row making.comes);
      same = refl;
      most = most;
      unspent = spent.replies c s x reply.eax reply.writes given.budget given.some (record { is = here; fed = making.fed }) meets;
      memory = kept.memory;
      returns = making.returns;
      time = omega (arith, moment, time, most);
    }
