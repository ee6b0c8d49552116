-- Each duty of a run has an entry that serves it.
use Rattle.std.proofs.Common.{◌≡◌, ℕ, Bool, true, false, cond, ◌==◌, ◌||◌, List, [], ◌∷◌, ◌++◌, Option, Some, None, refl, sym, ap, ◌∙◌, subst, slice_get, inl, inr, ◌⊎◌}
use Rattle.std.specs.Prelude.{⊤, nat_lt, count_by, position}
use Rattle.std.specs.Option.{option_map, option_map_or, option_or}
use Rattle.nd_base.specs.declared.numbers.AdapterNo.{AdapterNo}
use Rattle.nd_base.specs.declared.numbers.CtxNo.{CtxNo}
use Rattle.nd_base.specs.declared.numbers.RequestNo.{RequestNo}
use Rattle.nd_base.specs.declared.numbers.Status.{Status}
use Rattle.nd_mem.specs.Space.{address}
use Rattle.log_fields.specs.declared.field_values.Handler.{Handler}
use Rattle.log_fields.specs.declared.field_values.Handler.TheVariants as handler
use Rattle.call_log.specs.declared.entry.Entry.{Entry}
use Rattle.call_log.specs.declared.entry.Entry.TheVariants as entries
use Rattle.owner_machine.specs.declared.rows.Context.{Context}
use Rattle.owner_machine.specs.declared.rows.Context.TheVariants as kept_context
use Rattle.owner_machine.specs.declared.rows.Next.{Next as OwnerNext}
use Rattle.owner_machine.specs.declared.rows.Next.TheVariants as nexts
use Rattle.owner_machine.specs.declared.rows.Packet.{Packet}
use Rattle.owner_machine.specs.declared.rows.Request.{Request}
use Rattle.owner_machine.specs.State.{Owner, at, failure, request_aborted}
use Rattle.owner_machine.specs.Packets.{is_refused, out_of, held_of, queued_with_id, packet_adapter, first_queued, handed_one, behind_verdict, behind_complete, has_verdict, is_ending, may_requeue}
use Rattle.owner_machine.specs.Loans.{away_of, due_of, behind_back}
use Rattle.owner_machine.specs.Requests.{open_of, is_turned_away, refused_with, first_asked, behind_answer}
use Rattle.owner_machine.specs.Handlers.{behind_leave, next_entered}
use Rattle.owner_machine.specs.Must.{Due as OwnerDue, Completes, BacksFailed, Answers, Hands, BacksDue, HandsAsk, owner_must, must_behind, send_refusal, first_due}
use Rattle.legal_run.specs.State.{Inputs, State, Next, Free, Takes, Verdicts, Spinning, Makes, Stops, adapter, start}
use Rattle.legal_run.specs.Calls.{leaves}
use Rattle.legal_run.specs.Laws.{RepliesAreTaken}
use Rattle.legal_run.specs.After.{after, is_breaking, owner_left}
use Rattle.legal_run.specs.Must.{Due, Owes, Exactly, ReplyOf, next_must, taken_first, must}
use Rattle.legal_run.specs.Run.{Run, RunFrom, Meets, now, now_from}
use Rattle.legal_run.specs.EntryLaws.{GoesOn, IsPlain, DutyLaws, is_ask}
use Rattle.run_duties.proofs.Rows.{true_both, case_of, kept_from, goes_by, next, row_at}
use Rattle.run_duties.proofs.Calls.{Sixteen}
use Rattle.run_duties.proofs.Room.{FirstFree}
use Rattle.run_duties.proofs.Made.{made_goes_on, first_or}
use Rattle.run_duties.proofs.Ends.{drawn_goes_on, taken_goes_on}
use Rattle.run_duties.proofs.Replied.{spin_stands, reply_goes_on}
use Rattle.run_duties.proofs.Stops.{stop_stands}

-- ---- an entry that must stand may stand

-- what is drawn from a leave, what a call makes, a spin, a stop, a loan that goes home
pub exactly_stands : Sixteen → (c : Inputs) (log : List Entry) (e : Entry) → Run c log → must (now c log) ≡ Some (Exactly e) → Meets c (now c log) e
unfolding must
exactly_stands sixteen c log e run is = by_next (now c log).next refl (owner_must (now c log).owner) is
  where
    by_next : (n : Next) → (now c log).next ≡ n → (m : Option OwnerDue) → option_or (taken_first n) (option_or (option_map Owes m) (next_must n)) ≡ Some (Exactly e) → Meets c (now c log) e
    by_next (Takes f) next m h = let same : f ≡ e = cc in taken_goes_on c log e run (next ∙ ap (λ (g : Entry). Takes g) same)
    by_next Free next None h = absurd (cc)
    by_next (Verdicts []) next None h = absurd (cc)
    by_next (Verdicts (f ∷ es)) next None h = let same : f ≡ e = cc in (drawn_goes_on c log e es run (next ∙ ap (λ (g : Entry). Verdicts (g ∷ es)) same)).0
    by_next (Spinning x l) next None h =
        let same : entries.Spin x (address l) ≡ e = cc in
        subst (λ (g : Entry). Meets c (now c log) g) same (spin_stands sixteen c log x (address l) run (is ∙ ap (λ (g : Entry). Some (Exactly g)) (sym same)))
    by_next (Makes x [] lent) next None h = absurd (cc)
    by_next (Makes x (f ∷ es) lent) next None h = let same : f ≡ e = cc in made_goes_on sixteen c log x e es lent run (next ∙ ap (λ (g : Entry). Makes x (g ∷ es) lent) same)
    by_next (Stops why []) next None h = absurd (cc)
    by_next (Stops why (b ∷ ats)) next None h =
        let same : entries.Stop (adapter b) why ≡ e = cc in
        subst (λ (g : Entry). Meets c (now c log) g) same (stop_stands c log (adapter b) why run (is ∙ ap (λ (g : Entry). Some (Exactly g)) (sym same)))
    by_next Free next (Some d) h = absurd (cc)
    by_next (Verdicts es) next (Some d) h = absurd (cc)
    by_next (Spinning x l) next (Some d) h = absurd (cc)
    by_next (Makes x es lent) next (Some d) h = absurd (cc)
    by_next (Stops why ats) next (Some d) h = absurd (cc)

pub reset_goes_on : Sixteen → (c : Inputs) (log : List Entry) (a : AdapterNo) (status : Status) → Run c log → must (now c log) ≡ Some (Exactly (entries.ResetEnd a status))
    → Meets c (now c log) (entries.ResetEnd a status)
reset_goes_on sixteen c log a status run is = exactly_stands sixteen c log (entries.ResetEnd a status) run is

pub answer_goes_on : Sixteen → (c : Inputs) (log : List Entry) (q : RequestNo) (status : Status) (bytes : List ℕ) → Run c log → must (now c log) ≡ Some (Exactly (entries.Answer q status bytes))
    → Meets c (now c log) (entries.Answer q status bytes)
answer_goes_on sixteen c log q status bytes run is = exactly_stands sixteen c log (entries.Answer q status bytes) run is

-- ---- what the owner machine asks for

owed_by : (s : State) (d : OwnerDue) → must s ≡ Some (Owes d) → owner_must s.owner ≡ Some d
unfolding must
owed_by s d h = by_next s.next (owner_must s.owner) h
  where
    some_due : (m : OwnerDue) → Some (Owes m) ≡ Some (Owes d) → Some m ≡ Some d
    some_due m h = cc

    by_next : (n : Next) (m : Option OwnerDue) → option_or (taken_first n) (option_or (option_map Owes m) (next_must n)) ≡ Some (Owes d) → m ≡ Some d
    by_next (Takes f) m h = absurd (cc)
    by_next Free None h = absurd (cc)
    by_next (Verdicts []) None h = absurd (cc)
    by_next (Verdicts (f ∷ es)) None h = absurd (cc)
    by_next (Spinning x l) None h = absurd (cc)
    by_next (Makes x [] lent) None h = absurd (cc)
    by_next (Makes x (f ∷ es) lent) None h = absurd (cc)
    by_next (Stops why []) None h = absurd (cc)
    by_next (Stops why (b ∷ ats)) None h = absurd (cc)
    by_next Free (Some m) h = some_due m h
    by_next (Verdicts es) (Some m) h = some_due m h
    by_next (Spinning x l) (Some m) h = some_due m h
    by_next (Makes x es lent) (Some m) h = some_due m h
    by_next (Stops why ats) (Some m) h = some_due m h

-- a question that is handed, and a reset that is entered, stand behind two kinds of entries alone
abbrev asks_for : OwnerNext → Bool
asks_for (nexts.HandingAsk a enter) = true
asks_for (nexts.Resetting a) = true
asks_for _ = false

abbrev IsFrom : OwnerNext → OwnerDue → Type 0
IsFrom n d = IsPlain d ⊎ (asks_for n ≡ true)

abbrev MayBeFrom : OwnerNext → Option OwnerDue → Type 0
MayBeFrom n (Some d) = IsFrom n d
MayBeFrom n None = ⊤

packet_from : (o : Owner) (n : OwnerNext) (b fresh : Bool) (k : ℕ) → MayBeFrom n (cond b (Some (Completes fresh k (send_refusal o (packet_adapter o k)))) None)
packet_from o n true fresh k = inl tt
packet_from o n false fresh k = tt

ask_from : (o : Owner) (n : OwnerNext) (r : ℕ) (q : Option Request)
    → MayBeFrom n (option_map_or (λ p. cond (is_turned_away p.place) (option_map (λ status. Answers r status) (refused_with o p.adapter.0 p.question)) None) q None)
ask_from o n r None = tt
ask_from o n r (Some q) = by_place (is_turned_away q.place) (refused_with o q.adapter.0 q.question)
  where
    by_place : (b : Bool) (m : Option ℕ) → MayBeFrom n (cond b (option_map (λ status. Answers r status) m) None)
    by_place true (Some status) = inl tt
    by_place true None = tt
    by_place false m = tt

tail_from : (n : OwnerNext) (x y z : Option ℕ)
    → MayBeFrom n (first_due (option_map (λ k. Completes false k failure) x) (first_due (option_map (λ j. BacksFailed j) y) (option_map (λ r. Answers r failure) z)))
tail_from n (Some k) y z = inl tt
tail_from n None (Some j) z = inl tt
tail_from n None None (Some r) = inl tt
tail_from n None None None = tt

ends_from : (n : OwnerNext) (x : Option ℕ) → MayBeFrom n (option_map (λ k. Completes false k request_aborted) x)
ends_from n (Some k) = inl tt
ends_from n None = tt

hands_from : (n : OwnerNext) (b : Bool) (x : Option ℕ) → MayBeFrom n (cond b (option_map (λ k. Hands k) x) None)
hands_from n true (Some k) = inl tt
hands_from n true None = tt
hands_from n false x = tt

home_from : (n : OwnerNext) (b : Bool) (a : ℕ) → MayBeFrom n (cond b None (Some (BacksDue a)))
home_from n true a = tt
home_from n false a = inl tt

question_from : (a : AdapterNo) (enter : ℕ) (x : Option ℕ) → MayBeFrom (nexts.HandingAsk a enter) (option_map (λ r. HandsAsk r) x)
question_from a enter (Some r) = inr refl
question_from a enter None = tt

from_next : (o : Owner) (n : OwnerNext) → MayBeFrom n (must_behind o n)
from_next o (nexts.Sent packet) = packet_from o (nexts.Sent packet) (at (λ p. is_refused p.place) o.packets packet.0) true packet.0
from_next o (nexts.Tagged packet) = packet_from o (nexts.Tagged packet) (at (λ p. is_refused p.place) o.packets packet.0) false packet.0
from_next o (nexts.Asked request) = ask_from o (nexts.Asked request) request.0 (slice_get o.requests request.0)
from_next o (nexts.Tail a) = tail_from (nexts.Tail a) (position (out_of a.0) o.packets) (position (away_of a.0) o.loans) (position (open_of a.0) o.requests)
from_next o (nexts.Aborting a) = ends_from (nexts.Aborting a) (position (held_of a.0) o.packets)
from_next o (nexts.Cancelling driver id) = ends_from (nexts.Cancelling driver id) (position (queued_with_id driver.0 id) o.packets)
from_next o (nexts.Handing a enter left) = hands_from (nexts.Handing a enter left) (nat_lt 0 left) (first_queued o a.0)
from_next o (nexts.GoingHome a) = home_from (nexts.GoingHome a) (count_by (due_of a.0) o.loans == 0) a.0
from_next o (nexts.HandingAsk a enter) = question_from a enter (first_asked o a.0)
from_next o (nexts.Resetting a) = inr refl
from_next o nexts.Free = tt
from_next o (nexts.Left a h enter from) = tt

-- ---- behind those entries a run goes on

entered_asks : (a : AdapterNo) (h : Handler) (m : ℕ) (words : List ℕ) → asks_for (next_entered (Some a) h m words) ≡ true → is_ask h ≡ true
entered_asks a handler.Query m words is = refl
entered_asks a handler.Set m words is = refl
entered_asks a handler.Send m words is = absurd (cc)
entered_asks a handler.SendPackets m words is = absurd (cc)
entered_asks a handler.ReturnPacket m words is = absurd (cc)
entered_asks a _ m words is = absurd (cc)

handed_asks : (m : OwnerNext) → asks_for (handed_one m) ≡ true → ⊥
handed_asks (nexts.Handing a enter left) is = absurd (cc)
handed_asks _ is = absurd (cc)

back_asks : (m : OwnerNext) → asks_for (behind_back m) ≡ true → ⊥
back_asks (nexts.Tail a) is = absurd (cc)
back_asks (nexts.GoingHome a) is = absurd (cc)
back_asks _ is = absurd (cc)

answer_asks : (m : OwnerNext) → asks_for (behind_answer m) ≡ true → ⊥
answer_asks (nexts.Tail a) is = absurd (cc)
answer_asks _ is = absurd (cc)

left_asks : (y : Option Context) → asks_for (behind_leave y) ≡ true → ⊥
left_asks (Some (kept_context.Open (Some a) h n call)) is = absurd (cc)
left_asks (Some (kept_context.Open None h n call)) is = absurd (cc)
left_asks (Some kept_context.Free) is = absurd (cc)
left_asks None is = absurd (cc)

leave_asks : (o : Owner) (x : CtxNo) (eax : ℕ) (breaks : Bool) → asks_for (owner_left o (entries.Leave x eax) breaks).next ≡ true → ⊥
leave_asks o x eax true is = absurd (cc)
leave_asks o x eax false is = left_asks (slice_get o.contexts x.0) is

-- no verdict and no ending stands where a question is handed
no_verdict : (m : OwnerNext) (k : ℕ) (p : Packet) → (has_verdict m k p || is_ending m p) ≡ true → asks_for (behind_verdict m k) ≡ true → ⊥
no_verdict (nexts.HandingAsk a enter) k p ends is = absurd (cc)
no_verdict (nexts.Resetting a) k p ends is = absurd (cc)
no_verdict (nexts.Left a h enter from) k p ends is = absurd (cc)
no_verdict _ k p ends is = absurd (cc)

complete_asks : (o : Owner) (k : ℕ) → asks_for (behind_complete o k) ≡ true → ⊥
complete_asks o k is = by_test (at (λ p. has_verdict o.next k p || is_ending o.next p) o.packets k) refl is
  where
    by_test : (b : Bool) → at (λ p. has_verdict o.next k p || is_ending o.next p) o.packets k ≡ b → asks_for (cond b (behind_verdict o.next k) nexts.Free) ≡ true → ⊥
    by_test true ends is = let row = row_at (λ p. has_verdict o.next k p || is_ending o.next p) o.packets k ends in no_verdict o.next k row.row row.passes is
    by_test false ends is = absurd (cc)

requeue_asks : (o : Owner) (k : ℕ) → may_requeue o k ≡ true → asks_for (behind_verdict o.next k) ≡ true → ⊥
requeue_asks o k may is =
    let row = row_at (has_verdict o.next k) o.packets k (true_both (at (has_verdict o.next k) o.packets k) _ may).0 in
    no_verdict o.next k row.row (first_or (has_verdict o.next k row.row) (is_ending o.next row.row) row.passes) is

run_more : (c : Inputs) (s : State) (log : List Entry) (e : Entry) → RunFrom c s log → Meets c (now_from c s log) e → RunFrom c s (log ++ e ∷ [])
unfolding RunFrom now_from
run_more c s [] e run meets = (meets, tt)
run_more c s (f ∷ log) e run meets = (run.0, run_more c (after c s f) log e run.1 meets)

asks_go : DutyLaws → (c : Inputs) (log : List Entry) (e : Entry) → Run c log → Meets c (now c log) e → asks_for (after c (now c log) e).owner.next ≡ true → GoesOn c (after c (now c log) e)
asks_go laws c log (entries.Enter (Some a) x h words writes) run meets is =
    let e : Entry = entries.Enter (Some a) x h words writes in
    subst (GoesOn c) (next c log e) (laws.asks c log a x h words writes (entered_asks a h (now c log).owner.enters words is) (run_more c (start c) log e run meets))
asks_go laws c log (entries.Enter None x h words writes) run meets is = absurd (cc)
asks_go laws c log (entries.ResetBegin a) run meets is =
    let e : Entry = entries.ResetBegin a in
    subst (GoesOn c) (next c log e) (laws.reset c log a (run_more c (start c) log e run meets))
asks_go laws c log (entries.Leave x eax) run meets is = absurd (leave_asks (now c log).owner x eax (is_breaking (leaves c (now c log) x eax)) is)
asks_go laws c log (entries.Hand packet) run meets is = absurd (handed_asks (now c log).owner.next is)
asks_go laws c log (entries.Requeue packet) run meets is = absurd (requeue_asks (now c log).owner packet.0 (case_of (now c log).owner (entries.Requeue packet) meets.owner) is)
asks_go laws c log (entries.Complete packet status) run meets is = absurd (complete_asks (now c log).owner packet.0 is)
asks_go laws c log (entries.Back loan failed) run meets is = absurd (back_asks (now c log).owner.next is)
asks_go laws c log (entries.Answer r status bytes) run meets is = absurd (answer_asks (now c log).owner.next is)
asks_go laws c log e run meets is = absurd (cc)

-- ---- over a run

record Asked (c : Inputs) (s : State) : Type 0 where
  pub log : List Entry
  pub run : Run c log
  pub is : now c log ≡ s
  pub goes : asks_for s.owner.next ≡ true → GoesOn c s

asked_step : DutyLaws → (c : Inputs) (s : State) (e : Entry) → Asked c s → Meets c s e → Asked c (after c s e)
asked_step laws c s e h meets =
    let here : Meets c (now c h.log) e = subst (λ (t : State). Meets c t e) (sym h.is) meets in
    let there : Asked c (after c (now c h.log) e) = record { log = h.log ++ e ∷ []; run = run_more c (start c) h.log e h.run here; is = next c h.log e; goes = asks_go laws c h.log e h.run here } in
    subst (λ (t : State). Asked c (after c t e)) h.is there

asked_begun : (c : Inputs) → Asked c (start c)
unfolding RunFrom now_from
asked_begun c = record { log = []; run = tt; is = refl; goes = λ is. absurd (cc) }

asked_now : DutyLaws → (c : Inputs) (log : List Entry) → Run c log → Asked c (now c log)
asked_now laws c log run = kept_from c (Asked c) (asked_step laws c) (start c) log (asked_begun c) run

-- ---- each duty

owner_goes_on : DutyLaws → (c : Inputs) (log : List Entry) (d : OwnerDue) → Run c log → must (now c log) ≡ Some (Owes d) → GoesOn c (now c log)
owner_goes_on laws c log d run is =
    let s : State = now c log in
    let from : MayBeFrom s.owner.next (Some d) = subst (MayBeFrom s.owner.next) (owed_by s d is) (from_next s.owner s.owner.next) in
    elim from [
      | inl plain ↦ laws.plain c s d is plain
      | inr asks ↦ (asked_now laws c log run).goes asks
    ]

pub each_goes_on : Sixteen → RepliesAreTaken → FirstFree → DutyLaws → (c : Inputs) (log : List Entry) (due : Due) → Run c log → must (now c log) ≡ Some due → GoesOn c (now c log)
each_goes_on sixteen taken first_is_free laws c log (Owes d) run is = owner_goes_on laws c log d run is
each_goes_on sixteen taken first_is_free laws c log (Exactly e) run is = goes_by c (now c log) (Exactly e) e is refl (exactly_stands sixteen c log e run is)
each_goes_on sixteen taken first_is_free laws c log (ReplyOf x) run is = reply_goes_on sixteen taken first_is_free c log x run is
