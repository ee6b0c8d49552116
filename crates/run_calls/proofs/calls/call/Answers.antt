use Rattle.std.proofs.Common.{◌≡◌, ◌<◌, ◌≤◌, ◌+◌, ◌^◌, ℕ, List, true, sym, ap, ◌∙◌, subst, arith, Ok, Err, slice_index_or}
use Rattle.std.proofs.lemmas.Result.{err_from_is_err_and}
use Rattle.nd_base.specs.declared.numbers.Breach.{Breach}
use Rattle.import_table.specs.Table.{row_of, seen}
use Rattle.guest_world.specs.Worlds.{longest_time}
use Rattle.guest_world.specs.declared.world.World.{World}
use Rattle.guest_world.specs.declared.answer.Answer.TheVariants.{Now, Spin}
use Rattle.guest_world.specs.declared.answer.CallRefusal.TheVariants.{Broken}
use Rattle.import_answers.specs.Outcomes.{Comes}
use Rattle.import_answers.specs.World.{word}
use Rattle.import_answers.specs.Answers.{eight}
use Rattle.guest_calls.specs.Rows.{Stays, words_of}
use Rattle.log_fields.specs.Fields.{HasRule}
use Rattle.log_fields.specs.declared.field_values.Cause.TheVariants as cause
use Rattle.legal_run.specs.State.{Calling, Nothing, OnLock, clock}
use Rattle.legal_run.specs.Calls.{Did, did, makes, outcome_of}
use Rattle.legal_run.specs.Calls as calls
use Rattle.legal_run.specs.After.{calling}
use Rattle.miniport.specs.Steps.{MayCall}
use Rattle.owner_book.specs.Stopping.{stop_room}
use Rattle.run_stops.specs.Standing.{IsGiven, point_of, state_of}
use Rattle.run_stops.specs.Stopping.{owner_of}
use Rattle.run_calls.specs.Answering.{IsAnswer, Opens, CanReturn, is_served}
use Rattle.run_calls.proofs.Answered.{did_spin}
use Rattle.run_calls.proofs.Judging.{asking, opens, can_return, did_break, first_word, goes, heard, import_number, lost, may_call, small_cost, still_settled}
use Rattle.run_calls.proofs.calls.call.Goals as goal

pub import_row-row-requires : goal.import_row-row-requires
import_row-row-requires g c = import_number (state_of g.c c.args.run.now) c.args.x c.args.import c.requires.1.1.1.1.0

pub asked-call-requires : goal.asked-call-requires
asked-call-requires g c = (c.requires.0.runs, (c.requires.1.1.0, import_number (state_of g.c c.args.run.now) c.args.x c.args.import c.requires.1.1.1.1.0))

pub returns-in_err-words : goal.returns-in_err-words
returns-in_err-words g c = let p = err_from_is_err_and c.from_residual.result c.from_residual.ensures.1 in rw (p.1) (lost g.c c.args.run.now c.args.run.now.world c.requires.0)

pub returns-in_err-kept : goal.returns-in_err-kept
returns-in_err-kept g c = let p = err_from_is_err_and c.from_residual-in_err-kept.result c.from_residual-in_err-kept.ensures.1 in rw (p.1) (lost g.c c.args.run.now c.args.run.now.world c.requires.0)

pub returns-in-Err-OutOfMemory : goal.returns-in-Err-OutOfMemory
returns-in-Err-OutOfMemory g c = lost g.c c.args.run.now c.answer.new.world c.requires.0

pub answer_now-requires : goal.answer_now-requires
answer_now-requires g c =
    let q = c.requires in
    let a = c.args in
    let s = state_of g.c a.run.now in
    let asked = c.asked-call.ensures in
    let v = c.answer.new.world in
    let ws = c.in_ok-words.words in
    let reply = c.in-Ok-Now.reply in
    let range = import_number s a.x a.import q.1.1.1.1.0 in
    let go = goes c.contexts_are_ready.ensures g.c a.run.now a.x q.0 q.1.1.0 q.1.1.1.0 in
    let said : ws ≡ _ = c.in_ok-words.ensures ∙ asked.words in
    let comes : IsAnswer s a.x a.import ws reply v = heard (Stays c.caller_of-caller.result.adapter) s a.x a.import c.asked-call.result ws c.caller_of-caller.result c.answer.result (Ok (Now reply)) a.run.now.world v c.in_ok-words.ensures asked.import c.caller_of-caller.ensures q.0.runs.kept.world (c.in-Ok-Now.is ∙ ap Ok c.in-Ok-Now.field-0-is) c.answer.ensures in
    let room = q.1.1.1.1.1.1.1 in
    let time = q.1.1.1.1.1.1.0 in
    let moment : clock s ≡ a.run.now.world.clock.clock = ap (λ (w : World). w.clock.clock) (sym q.0.runs.kept.world) in (
      asking g.c a.run.now v q.0,
      subst (λ (k : Calling). Opens (point_of g.c a.run.now) a.x k ws × (((c.asked-call.result.import ≡ k.import) × (words_of c.asked-call.result ≡ ws)) × (IsAnswer s a.x k.import ws reply v × ((seen c.import_row-row.result.now ≡ row_of k.import) × ((reply.cost ≤ 2 ^ 33) × (CanReturn s a.x × ((clock s + longest_time < 2 ^ 64) × (IsGiven g.c × ((stop_room (owner_of g.c a.run.now) + 3 ≤ a.run.now.log.spare) × (is_served k.import ≡ true))))))))))
          (sym c.opened-calling.ensures) (
            opens g.c a.run.now a.x a.import ws c.in_ok-kept.kept go range q.1.1.1.1.0 said (c.in_ok-kept.ensures ∙ sym c.in_ok-words.ensures),
            ((asked.import, sym c.in_ok-words.ensures), (comes, (c.import_row-row.ensures, (small_cost c.costs_are_small.ensures s a.x a.import c.asked-call.result ws reply v c.in_ok-words.ensures asked.call asked.fits comes, (can_return c.call_laws.ensures s a.x a.import ws (Now reply) v said range comes, (omega (arith, time, moment), (q.1.0, (room, q.1.1.1.1.1.0)))))))),
          ),
    )

pub spin-requires : goal.spin-requires
spin-requires g c =
    let q = c.requires in
    let a = c.args in
    let s = state_of g.c a.run.now in
    let asked = c.asked-call.ensures in
    let v = c.answer.new.world in
    let ws = c.in_ok-words.words in
    let holder = c.in-Ok-Spin.holder in
    let range = import_number s a.x a.import q.1.1.1.1.0 in
    let go = goes c.contexts_are_ready.ensures g.c a.run.now a.x q.0 q.1.1.0 q.1.1.1.0 in
    let said : ws ≡ _ = c.in_ok-words.ensures ∙ asked.words in
    let comes : Comes (outcome_of s a.x a.import ws) s.world (Ok (Spin holder)) v = heard (Stays c.caller_of-caller.result.adapter) s a.x a.import c.asked-call.result ws c.caller_of-caller.result c.answer.result (Ok (Spin holder)) a.run.now.world v c.in_ok-words.ensures asked.import c.caller_of-caller.ensures q.0.runs.kept.world (c.in-Ok-Spin.is ∙ ap Ok c.in-Ok-Spin.field-0-is) c.answer.ensures in
    let lock : slice_index_or c.asked-call.result.words 0 0 ≡ word ws 1 = ap (λ (xs : List ℕ). slice_index_or xs 0 0) (sym (ap eight c.in_ok-words.ensures ∙ asked.call.zeros)) ∙ first_word ws in
    let may = may_call g.c a.run.now a.x a.import ws c.in_ok-kept.kept (OnLock (slice_index_or c.asked-call.result.words 0 0)) go range q.1.1.1.1.0 said (c.in_ok-kept.ensures ∙ sym c.in_ok-words.ensures) (ap (calling a.import ws) (did_spin s a.x a.import ws holder v comes ∙ ap (λ (n : ℕ). calls.Waits (OnLock n)) (sym lock))) in
    let room = q.1.1.1.1.1.1.1 in (
      asking g.c a.run.now v q.0,
      subst (λ (k : Calling). MayCall (point_of g.c a.run.now) a.x k ws × (Comes (outcome_of s a.x k.import ws) s.world (Ok (Spin holder)) v × ((slice_index_or c.asked-call.result.words 0 0 ≡ word ws 1) × (stop_room (owner_of g.c a.run.now) + 1 < a.run.now.log.spare))))
          (sym c.opened-calling-in-Ok-Spin.ensures)
          (may, (comes, (lock, omega (arith, room)))),
    )

pub break_rule-requires : goal.break_rule-requires
break_rule-requires g c =
    let q = c.requires in
    let a = c.args in
    let s = state_of g.c a.run.now in
    let asked = c.asked-call.ensures in
    let v = c.answer.new.world in
    let ws = c.in_ok-words.words in
    let rule = c.in-Err-Broken.rule in
    let range = import_number s a.x a.import q.1.1.1.1.0 in
    let go = goes c.contexts_are_ready.ensures g.c a.run.now a.x q.0 q.1.1.0 q.1.1.1.0 in
    let said : ws ≡ _ = c.in_ok-words.ensures ∙ asked.words in
    let comes : Comes (outcome_of s a.x a.import ws) s.world (Err (Broken rule)) v = heard (Stays c.caller_of-caller.result.adapter) s a.x a.import c.asked-call.result ws c.caller_of-caller.result c.answer.result (Err (Broken rule)) a.run.now.world v c.in_ok-words.ensures asked.import c.caller_of-caller.ensures q.0.runs.kept.world (c.in-Err-Broken.is ∙ ap Err c.in-Err-Broken.field-0-is) c.answer.ensures in
    let broken = did_break s a.x a.import ws rule v comes in
    let may = may_call g.c a.run.now a.x a.import ws c.in_ok-kept.kept Nothing go range q.1.1.1.1.0 said (c.in_ok-kept.ensures ∙ sym c.in_ok-words.ensures) (ap (calling a.import ws) broken.0) in
    let room = q.1.1.1.1.1.1.1 in (
      still_settled g.c a.run.now v broken.1.0 q.0,
      subst (λ (b : Breach). MayCall (point_of g.c a.run.now) a.x c.opened-calling-in-Err-Broken.result ws × ((did s a.x c.opened-calling-in-Err-Broken.result.import ws ≡ calls.Broken b.0) × (HasRule (cause.Breach b) × (IsGiven g.c × (stop_room (owner_of g.c a.run.now) < a.run.now.log.spare)))))
          (sym c.in-Err-Broken.rule-is)
          (subst (λ (k : Calling). MayCall (point_of g.c a.run.now) a.x k ws × ((did s a.x k.import ws ≡ calls.Broken rule.0) × (HasRule (cause.Breach rule) × (IsGiven g.c × (stop_room (owner_of g.c a.run.now) < a.run.now.log.spare)))))
          (sym c.opened-calling-in-Err-Broken.ensures)
          (may, (broken.0, (broken.1.1, (q.1.0, omega (arith, room)))))),
    )
