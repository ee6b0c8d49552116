-- Where the reply of a call is due, its context is open.
use Rattle.std.proofs.Common.{◌≡◌, ℕ, Bool, true, false, cond, ◌==◌, List, Some, None, refl, sym, ap, ◌∙◌, subst}
use Rattle.std.specs.Prelude.{is_some}
use Rattle.std.specs.Option.{option_map_or}
use Rattle.std.proofs.lemmas.Bool.{eqb-true}
use Rattle.nd_base.specs.declared.numbers.CtxNo.{CtxNo}
use Rattle.call_log.specs.declared.entry.Entry.{Entry}
use Rattle.call_log.specs.declared.entry.Entry.TheVariants as entries
use Rattle.legal_run.specs.State.{Inputs, State, is_open}
use Rattle.legal_run.specs.Replies.{Told, answered, replies}
use Rattle.legal_run.specs.EntryLaws.{GoesOn as Served}
use Rattle.legal_run.specs.Must.{Due, ReplyOf, must, Serves}
use Rattle.legal_run.specs.Run.{Run, Meets, now}
use Rattle.run_facts.specs.Facts.{IsOfRun}
use Rattle.run_facts.proofs.Runs.{case_of}
use Rattle.run_facts.proofs.EntryBudget.{answered_open}

-- a reply that is due may be made (a law of crates/run_duties)
abbrev pub RepliesGo : Type 0
RepliesGo = (c : Inputs) (log : List Entry) (x : CtxNo) → Run c log → must (now c log) ≡ Some (ReplyOf x) → Served c (now c log)

same_context : (s : State) (x : CtxNo) (b : Bool) (told : Told) → option_map_or (λ told. is_some (answered s x told)) (cond b (Some told) None) false ≡ true → b ≡ true
same_context s x true told h = refl
same_context s x false told h = absurd (cc)

by_entry : (c : Inputs) (s : State) (x : CtxNo) (e : Entry) → replies s x e ≡ true → Meets c s e → is_open s x.0 ≡ true
by_entry c s x (entries.Reply y eax writes) h meets =
    let same = eqb-true y.0 x.0 (same_context s x (y.0 == x.0) (record { eax = eax; writes = writes }) h) in
    subst (λ (n : ℕ). is_open s n ≡ true) same (answered_open s.owner.contexts s.owner.contexts y.0 (case_of s.owner (entries.Reply y eax writes) meets.owner))
by_entry c s x _ h meets = absurd (cc)

open_there : (c : Inputs) (s : State) (x : CtxNo) → must s ≡ Some (ReplyOf x) → Served c s → is_open s x.0 ≡ true
open_there c s x due served = by_due served.asked.due (sym due ∙ served.asked.must) served.asked.serves
  where
    by_due : (d : Due) → Some (ReplyOf x) ≡ Some d → Serves c s d served.entry → is_open s x.0 ≡ true
    by_due d is serves =
        let same : ReplyOf x ≡ d = cc in
        by_entry c s x served.entry (subst (λ (d : Due). Serves c s d served.entry) (sym same) serves) served.meets

pub open_where_due : RepliesGo → (c : Inputs) (s : State) (x : CtxNo) → IsOfRun c s → must s ≡ Some (ReplyOf x) → is_open s x.0 ≡ true
open_where_due go c s x is due =
    subst (λ (t : State). is_open t x.0 ≡ true) is.reaches.state
    (open_there c (now c is.log) x (ap must is.reaches.state ∙ due) (go c is.log x is.reaches.run (ap must is.reaches.state ∙ due)))
