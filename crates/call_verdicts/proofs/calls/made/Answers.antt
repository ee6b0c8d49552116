use Rattle.std.proofs.Common.{◌≡◌, ◌<◌, ◌≤◌, ℕ, List, Option, Some, IfOk, sym, ap, ◌∙◌, subst}
use Rattle.nd_base.specs.declared.numbers.AdapterNo.{AdapterNo}
use Rattle.import_answers.specs.World.{IsNumber}
use Rattle.owner_machine.specs.State.{Owner}
use Rattle.legal_run.specs.State.{adapter_in, adapter_of}
use Rattle.legal_run.specs.Calls.{served}
use Rattle.call_verdicts.specs.Deeds.{CanServe, IsBehind, did_as}
use Rattle.call_verdicts.proofs.Answered.{behind, judged_so}
use Rattle.call_verdicts.proofs.calls.made.Goals as goal

pub served-requires : goal.served-requires
served-requires g c =
    let q = c.requires in
    let own : adapter_of g.s c.args.x.0 ≡ Some c.in-Some.a = ap (λ (o : Owner). adapter_of (record g.s { owner = o }) c.args.x.0) (sym q.0) ∙ sym c.adapter_of.ensures ∙ c.in-Some.is in
    let few : IsNumber (Some c.in-Some.a) = subst IsNumber own q.1.1.0 in (
      q.0,
      (
        q.1.0,
        (
          few,
          (
            q.1.1.1.0,
            (
              subst (λ (ws : List ℕ). IsBehind g.s c.args.call.now.import ws c.args.world.now) (sym c.words_of-words.ensures) (behind c.calls_keep.ensures g.s c.args.x c.args.call.now.import _ c.args.reply.now c.args.world.now q.1.1.1.1.0),
              subst (λ (n : Option AdapterNo). CanServe g.s n c.args.call.now.import) own q.1.1.1.1.1,
            ),
          ),
        ),
      ),
    )

pub returns-in-Some : goal.returns-in-Some
returns-in-Some g c =
    let q = c.requires in
    let own : adapter_of g.s c.args.x.0 ≡ Some c.in-Some.a = ap (λ (o : Owner). adapter_of (record g.s { owner = o }) c.args.x.0) (sym q.0) ∙ sym c.adapter_of.ensures ∙ c.in-Some.is in
    judged_so g.s c.args.x c.in-Some.a c.args.call.now.import _ c.args.reply.now c.args.world.now c.served.result own q.1.1.1.1.0
    (subst (λ (ws : List ℕ). IfOk c.served.result (λ d. did_as d ≡ served g.s (Some c.in-Some.a) c.args.call.now.import ws c.args.reply.now)) c.words_of-words.ensures c.served.ensures)
