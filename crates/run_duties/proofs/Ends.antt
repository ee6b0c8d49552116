-- What is drawn from a leave may stand, one entry after the other, and a loan goes home behind the enter of its handler.
use Rattle.std.proofs.Common.{◌≡◌, ℕ, zero, suc, Bool, true, false, cond, not, ◌==◌, ◌||◌, ◌+◌, arith, sym, List, [], ◌∷◌, ◌++◌, ◌&&◌, Option, Some, None, refl, ap, ◌∙◌, subst, slice_get}
use Rattle.std.specs.Prelude.{⊤, drop, filter, count_by, slice_index_or}
use Rattle.std.specs.Option.{option_map, option_map_or, option_or}
use Rattle.std.proofs.lemmas.Bool.{eq-eqb, eqb-true}
use Rattle.nd_base.specs.declared.numbers.AdapterNo.{AdapterNo}
use Rattle.nd_base.specs.declared.numbers.CtxNo.{CtxNo}
use Rattle.log_fields.specs.declared.field_values.Handler.{Handler}
use Rattle.log_fields.specs.declared.field_values.Handler.TheVariants as handler
use Rattle.call_log.specs.declared.entry.Entry.{Entry}
use Rattle.call_log.specs.declared.entry.Entry.TheVariants as entries
use Rattle.owner_machine.specs.declared.rows.Adapter.{Adapter}
use Rattle.owner_machine.specs.declared.rows.Context.{Context}
use Rattle.owner_machine.specs.declared.rows.Context.TheVariants as kept_context
use Rattle.owner_machine.specs.declared.rows.Loan.{Loan}
use Rattle.owner_machine.specs.declared.rows.Next.{Next as OwnerNext}
use Rattle.owner_machine.specs.declared.rows.Next.TheVariants as nexts
use Rattle.owner_machine.specs.declared.rows.OpenCall.{OpenCall}
use Rattle.owner_machine.specs.declared.rows.Packet.{Packet}
use Rattle.owner_machine.specs.declared.rows.Request.{Request}
use Rattle.owner_machine.specs.declared.rows.RequestPlace.{RequestPlace}
use Rattle.owner_machine.specs.declared.rows.RequestPlace.TheVariants as places
use Rattle.owner_machine.specs.Requests.{is_handed, handed_of, by_verdict, may_end_ask}
use Rattle.legal_run.specs.Owed.{first}
use Rattle.legal_run.specs.EntryLaws.{is_ask}
use Rattle.owner_machine.specs.State.{Owner, at, numbers_from, is_resetting, phase_is}
use Rattle.owner_machine.specs.Adapters.{left_reset}
use Rattle.owner_machine.specs.Loans.{due_of, may_go_home}
use Rattle.owner_machine.specs.Contexts.{serialized, is_entry}
use Rattle.owner_machine.specs.Handlers.{is_none as is_empty}
use Rattle.import_answers.specs.Statuses.{success, pending}
use Rattle.import_answers.specs.World.{word}
use Rattle.owner_machine.specs.Contexts.{in_call, reset_complete}
use Rattle.owner_machine.specs.Handlers.{adapter_left, adapters_left, behind_leave}
use Rattle.owner_machine.specs.Must.{Due as OwnerDue, BacksDue, owner_must, must_behind, serves, may_break_in, is_served}
use Rattle.owner_machine.specs.Machine.{rule_against, has_case, last_rule}
use Rattle.owner_machine.specs.Machine as owners
use Rattle.legal_run.specs.State.{Inputs, State, Next, Free, Takes, Verdicts, Spinning, Makes, Stops, Nothing, OnLock, OnClock, OnSync, adapter, adapter_in, handler_in, adapter_of, context_at, handler_of, is_registered, start}
use Rattle.legal_run.specs.Enters.{loan_named}
use Rattle.log_fields.specs.declared.write.Write.{Write}
use Rattle.legal_run.specs.Calls.{is_at, handed_request, fits, answer, Did, Broken, Waits, Made, did, Drawn, Breaking, Draws, leaves, asks, verdicts, slot_status, request_verdict, drawn_from, drawn, leaves_even, has_attributes}
use Rattle.legal_run.specs.After.{after, next_after, popped, call_next, leave_next, enter_next, takes, spent, reaches, number_in, cost_of, owner_left, is_breaking}
use Rattle.legal_run.specs.Must.{Owes, Exactly, first_of, next_must, taken_first, must}
use Rattle.legal_run.specs.Run.{Run, now, Meets, breaks_in}
use Rattle.owner_machine.specs.Packets.{is_miniport, at_miniport}
use Rattle.std.specs.List.{list_any}
use Rattle.legal_run.specs.VerdictLaws.{is_send}
use Rattle.run_duties.proofs.Rows.{run_parts, kept, kept_from, due_meets, in_turn, position_passes, case_of, true_both}
use Rattle.run_duties.proofs.Handed.{is_asking, settled, settles, AllAsk, Asks, asks_step, asks_begun, Leaving, leaving}
use Rattle.run_duties.proofs.Calls.{is_special}
use Rattle.run_duties.proofs.Ones.{served_alone}
use Rattle.run_duties.proofs.Sends.{own_hand, is_sending, AllSend, Sends, sends_step, sends_begun, Sent, sent_leaves}
use Rattle.run_duties.proofs.Sends as send_rows
use Rattle.run_duties.proofs.Verdicts.{AllStand, DrawnStand, Walks, AllSettled, verdicts_stand}
use Rattle.run_duties.proofs.Winding.{is_in}
use Rattle.run_duties.proofs.Made.{first_or, second_or, unless_so, unruled, numbers_pass, filter_all, first_all}

-- ---- a leave

asked : (o : Owner) (b : Bool) (rule : ℕ) (d : Drawn) → (b ≡ true → DrawnStand o d) → DrawnStand o (asks b rule d)
asked o true rule d h = h refl
asked o false rule d h = tt

not_or : (b : Bool) (d : Drawn) (o : Owner) → (b ≡ false → DrawnStand o d) → DrawnStand o (cond b (Draws []) d)
not_or true d o h = tt
not_or false d o h = h refl

not_false : (b : Bool) → b ≡ false → not b ≡ true
not_false false h = refl
not_false true h = absurd (cc)

-- the owner machine behind the leave
abbrev pub behind : State → CtxNo → ℕ → Owner
behind s x eax = owners.after s.owner (entries.Leave x eax)

nothing_due : (s : State) (x : CtxNo) (eax : ℕ) → owner_must (behind s x eax) ≡ None
nothing_due s x eax = by_context (slice_get s.owner.contexts x.0)
  where
    by_context : (y : Option Context) → must_behind (behind s x eax) (behind_leave y) ≡ None
    by_context (Some (kept_context.Open (Some a) h n call)) = refl
    by_context (Some (kept_context.Open None h n call)) = refl
    by_context (Some kept_context.Free) = refl
    by_context None = refl

-- the handler that leaves, with the number of its enter
record IsOpen (s : State) (x : CtxNo) (a : AdapterNo) (h : Handler) : Type 0 where
  pub enter : ℕ
  pub call : Option OpenCall
  pub there : slice_get s.owner.contexts x.0 ≡ Some (kept_context.Open (Some a) h enter call)

is_open : (s : State) (x : CtxNo) (a : AdapterNo) (h : Handler) → adapter_of s x.0 ≡ Some a → handler_of s x.0 ≡ h → IsOpen s x a h
is_open s x a h of is = by_context (slice_get s.owner.contexts x.0) refl of is
  where
    by_context : (y : Option Context) → slice_get s.owner.contexts x.0 ≡ y → adapter_in y ≡ Some a → handler_in y ≡ h → IsOpen s x a h
    by_context None found of is = absurd (cc)
    by_context (Some kept_context.Free) found of is = absurd (cc)
    by_context (Some (kept_context.Open None k n call)) found of is = absurd (cc)
    by_context (Some (kept_context.Open (Some b) k n call)) found of is =
        let same : b ≡ a = cc in
        record {
          enter = n;
          call = call;
          there = found ∙ (ap (λ (m : AdapterNo). Some (kept_context.Open (Some m) k n call)) same ∙ ap (λ (j : Handler). Some (kept_context.Open (Some a) j n call)) is);
        }

-- ---- the leave of a reset

reset_left : (s : State) (x : CtxNo) (a : AdapterNo) (eax : ℕ) → IsOpen s x a handler.Reset → phase_is is_resetting s.owner a.0 ≡ true → not (eax == pending) ≡ true
    → rule_against (behind s x eax) (entries.ResetEnd (adapter a.0) (record { 0 = eax })) ≡ None
reset_left s x a eax runs_it resets ends =
    let o : Owner = behind s x eax in
    let e : Entry = entries.ResetEnd (adapter a.0) (record { 0 = eax }) in
    let phase : phase_is is_resetting o a.0 ≡ true =
    ap (λ (y : Option Context). at (λ row. is_resetting row.phase) (adapters_left s.owner.adapters y eax) a.0) runs_it.there
    ∙ (kept (λ row. is_resetting row.phase) (adapter_left handler.Reset eax) s.owner.adapters a.0 a.0 (λ row. refl) ∙ resets) in
    let just : left_reset o.next a.0 ≡ true = ap (λ (y : Option Context). left_reset (behind_leave y) a.0) runs_it.there ∙ rw (eq-eqb a.0 a.0 refl) refl in
    let case : has_case o e ≡ true = rw phase (second_or (in_call o a.0 reset_complete) (left_reset o.next a.0) just) in
    unruled o e (nothing_due s x eax) case (unless_so (not (eax == pending)) 10 ends)

reset_stands : (s : State) (x : CtxNo) (a : AdapterNo) (eax : ℕ) (subject : List ℕ) → IsOpen s x a handler.Reset → DrawnStand (behind s x eax) (drawn_from s a.0 eax subject handler.Reset)
reset_stands s x a eax subject runs_it =
    let o : Owner = behind s x eax in
    let e : Entry = entries.ResetEnd (adapter a.0) (record { 0 = eax }) in
    not_or (eax == pending) (asks (phase_is is_resetting s.owner a.0) 4 (Draws (e ∷ []))) o
    (λ ends. asked o (phase_is is_resetting s.owner a.0) 4 (Draws (e ∷ []))
    (λ resets. (refl, nothing_due s x eax, reset_left s x a eax runs_it resets (not_false (eax == pending) ends), tt)))

-- ---- the leave of a query or set

at_both : {A : Type 0} (p q t : A → Bool) (rows : List A) (k : ℕ) → ((row : A) → p row ≡ true → q row ≡ true → t row ≡ true) → at p rows k ≡ true → at q rows k ≡ true → at t rows k ≡ true
at_both p q t [] k w one other = absurd (cc)
at_both p q t (row ∷ rows) zero w one other = w row one other
at_both p q t (row ∷ rows) (suc k) w one other = at_both p q t rows k w one other

settled_own : (n : ℕ) (row : Request) → is_handed row.place ≡ true → settled n row ≡ true → (row.hand == n) ≡ true
settled_own n row handed is = by_place row.place handed is
  where
    by_place : (p : RequestPlace) → is_handed p ≡ true → settles p (row.hand == n) ≡ true → (row.hand == n) ≡ true
    by_place places.Handed handed is = is
    by_place _ handed is = absurd (cc)

own_verdict : (o : Owner) (a : AdapterNo) (h : Handler) (n from : ℕ) (row : Request) → o.next ≡ nexts.Left a h n from → handed_of a.0 row ≡ true → settled n row ≡ true → may_end_ask o row ≡ true
own_verdict o a h n from row next handed is =
    let parts = true_both (is_handed row.place) (row.adapter.0 == a.0) handed in
    let own = settled_own n row parts.0 is in
    let by : by_verdict (nexts.Left a h n from) row ≡ true = rw parts.0 (rw parts.1 own) in
    first_or (by_verdict o.next row) _ (ap (λ m. by_verdict m row) next ∙ by)

answer_left : (s : State) (x : CtxNo) (a : AdapterNo) (eax r : ℕ) (h : Handler) (bytes : List ℕ) → IsOpen s x a h → is_ask h ≡ true → Leaving s x.0
    → first (context_at s x.0).subject ≡ Some r → at (handed_of a.0) s.owner.requests r ≡ true → not (eax == pending) ≡ true
    → rule_against (behind s x eax) (entries.Answer (record { 0 = r }) (record { 0 = eax }) bytes) ≡ None
answer_left s x a eax r h bytes runs_it ask leaves_it subject handed ends =
    let o : Owner = behind s x eax in
    let e : Entry = entries.Answer (record { 0 = r }) (record { 0 = eax }) bytes in
    let n : ℕ = runs_it.enter in
    let next : o.next ≡ nexts.Left a h n 0 = ap behind_leave runs_it.there in
    let asking : is_asking a.0 n (kept_context.Open (Some a) h n runs_it.call) ≡ true = rw (eq-eqb a.0 a.0 refl) (rw ask (eq-eqb n n refl)) in
    let opened : at (is_asking a.0 n) s.owner.contexts x.0 ≡ true = ap (λ m. option_map_or (is_asking a.0 n) m false) runs_it.there ∙ asking in
    let is_settled = leaves_it a.0 n r (record { opened = opened; subject = subject }) in
    let case : has_case o e ≡ true = at_both (handed_of a.0) (settled n) (may_end_ask o) s.owner.requests r (λ row one other. own_verdict o a h n 0 row next one other) handed is_settled in
    unruled o e (nothing_due s x eax) case (unless_so (not (eax == pending)) 10 ends)

is_at_number : (r : ℕ) (m : Option ℕ) → is_at r m ≡ true → m ≡ Some r
is_at_number r None h = absurd (cc)
is_at_number r (Some k) h = ap Some (eqb-true k r h)

answer_stands : (s : State) (x : CtxNo) (a : AdapterNo) (eax : ℕ) (h : Handler) → IsOpen s x a h → is_ask h ≡ true → Leaving s x.0 → (m : Option ℕ) → first (context_at s x.0).subject ≡ m
    → (row : Option Request) → DrawnStand (behind s x eax) (request_verdict s a.0 eax m row)
answer_stands s x a eax h runs_it ask leaves_it None subject row = tt
answer_stands s x a eax h runs_it ask leaves_it (Some r) subject None = tt
answer_stands s x a eax h runs_it ask leaves_it (Some r) subject (Some row) =
    let o : Owner = behind s x eax in
    let e : Entry = answer s a.0 eax r row.question in
    let fit : Bool = fits s a.0 eax row.question in
    not_or (eax == pending) (asks (is_at r (handed_request s a.0)) 3 (asks fit 10 (Draws (e ∷ [])))) o
    (λ ends. asked o (is_at r (handed_request s a.0)) 3 (asks fit 10 (Draws (e ∷ [])))
    (λ is. asked o fit 10 (Draws (e ∷ []))
    (λ enough. (
      refl,
      nothing_due s x eax,
      answer_left s x a eax r h _ runs_it ask leaves_it subject
          (position_passes (handed_of a.0) s.owner.requests r (is_at_number r (handed_request s a.0) is)) (not_false (eax == pending) ends),
      tt,
    ))))

-- ---- the leave of a send

all_settled : (rows : List Packet) (a n : ℕ) (ks : List ℕ) → ((k : ℕ) → is_in k ks ≡ true → at (send_rows.settled a n) rows k ≡ true) → AllSettled rows a n ks
all_settled rows a n [] w = tt
all_settled rows a n (k ∷ ks) w = (w k (first_or (k == k) (is_in k ks) (eq-eqb k k refl)), all_settled rows a n ks (λ i is. w i (second_or (k == i) (is_in i ks) is)))

send_left : (h : Handler) (eax : ℕ) (row : Adapter) → is_send h ≡ true → not (adapter_left h eax row).deserialized ≡ not row.deserialized
send_left handler.Send eax row send = refl
send_left handler.SendPackets eax row send = refl
send_left _ eax row send = absurd (cc)

verdicts_there : (s : State) (x : CtxNo) (a : AdapterNo) (eax : ℕ) (h : Handler) (status_of : ℕ → ℕ) (serial : Bool) → IsOpen s x a h → is_send h ≡ true → Sent s x.0
    → (serial ≡ true → serialized s.owner a.0 ≡ true) → DrawnStand (behind s x eax) (verdicts s status_of serial (context_at s x.0).subject)
verdicts_there s x a eax h status_of serial runs_it send sent one_by_one =
    let n : ℕ = runs_it.enter in
    let sends_it : is_sending a.0 n (kept_context.Open (Some a) h n runs_it.call) ≡ true = rw (eq-eqb a.0 a.0 refl) (rw send (eq-eqb n n refl)) in
    let opened : at (is_sending a.0 n) s.owner.contexts x.0 ≡ true = ap (λ m. option_map_or (is_sending a.0 n) m false) runs_it.there ∙ sends_it in
    let walks : Walks s (behind s x eax) h a.0 n 0 = record {
      next = ap behind_leave runs_it.there;
      same = λ k low. refl;
      serial = ap (λ (y : Option Context). at (λ row. not row.deserialized) (adapters_left s.owner.adapters y eax) a.0) runs_it.there
          ∙ kept (λ row. not row.deserialized) (adapter_left h eax) s.owner.adapters a.0 a.0 (λ row. send_left h eax row send);
    } in
    verdicts_stand s (behind s x eax) h a.0 n 0 status_of serial (context_at s x.0).subject walks (sent.rise a.0 n opened)
    (all_settled s.owner.packets a.0 n (context_at s x.0).subject (λ k among. sent.settled a.0 n k (record { opened = opened; among = among }))) one_by_one

either_stands : (o : Owner) (b : Bool) (d : Drawn) → (b ≡ true → DrawnStand o d) → DrawnStand o (cond b d (Draws []))
either_stands o true d h = h refl
either_stands o false d h = tt

-- ---- each handler

from_stands : (s : State) (x : CtxNo) (a : AdapterNo) (eax : ℕ) (h : Handler) → IsOpen s x a h → Leaving s x.0 → Sent s x.0 → DrawnStand (behind s x eax) (drawn_from s a.0 eax (context_at s x.0).subject h)
from_stands s x a eax handler.Send runs_it leaves_it sent = verdicts_there s x a eax handler.Send (λ k. eax) (serialized s.owner a.0) runs_it refl sent (λ is. is)
from_stands s x a eax handler.SendPackets runs_it leaves_it sent =
    either_stands (behind s x eax) (serialized s.owner a.0) (verdicts s (slot_status s) true (context_at s x.0).subject)
    (λ serial. verdicts_there s x a eax handler.SendPackets (slot_status s) true runs_it refl sent (λ is. serial))
from_stands s x a eax handler.Query runs_it leaves_it sent = answer_stands s x a eax handler.Query runs_it refl leaves_it (first (context_at s x.0).subject) refl _
from_stands s x a eax handler.Set runs_it leaves_it sent = answer_stands s x a eax handler.Set runs_it refl leaves_it (first (context_at s x.0).subject) refl _
from_stands s x a eax handler.Reset runs_it leaves_it sent = reset_stands s x a eax (context_at s x.0).subject runs_it
from_stands s x a eax handler.Initialize runs_it leaves_it sent =
    asked (behind s x eax) (not (eax == pending)) 10 (asks (not (eax == success) || has_attributes s a.0) 14 (Draws []))
    (λ ends. asked (behind s x eax) (not (eax == success) || has_attributes s a.0) 14 (Draws []) (λ has. tt))
from_stands s x a eax _ runs_it leaves_it sent = tt

drawn_stands : (c : Inputs) (s : State) (x : CtxNo) (eax : ℕ) (a : Option AdapterNo) → adapter_of s x.0 ≡ a → Leaving s x.0 → Sent s x.0
    → DrawnStand (behind s x eax) (drawn c s a eax (context_at s x.0).subject (handler_of s x.0))
drawn_stands c s x eax None of leaves_it sent =
    asked (behind s x eax) (not (eax == success) || (is_registered s || is_empty c.adapters)) 14 (Draws []) (λ has. tt)
drawn_stands c s x eax (Some a) of leaves_it sent = from_stands s x a eax (handler_of s x.0) (is_open s x a (handler_of s x.0) of refl) leaves_it sent

-- ---- over a run

-- what is drawn stands in its order, and a loan that is taken goes home
abbrev pub NextStand : Owner → Next → Type 0
NextStand o (Verdicts es) = AllStand o es
NextStand o (Takes e) = rule_against o e ≡ None
NextStand o _ = ⊤

leave_stands : (c : Inputs) (s : State) (x : CtxNo) (eax : ℕ) (d : Drawn) → DrawnStand (behind s x eax) d → NextStand (owner_left s.owner (entries.Leave x eax) (is_breaking d)) (leave_next c s x d)
leave_stands c s x eax (Breaking rule) h = tt
leave_stands c s x eax (Draws es) h = h

call_stands : (c : Inputs) (s : State) (o : Owner) (x : CtxNo) (words : List ℕ) (d : Did) → NextStand o (call_next c s x words d)
call_stands c s o x words (Broken rule) = tt
call_stands c s o x words (Waits (OnLock lock)) = tt
call_stands c s o x words (Waits (OnClock wake)) = tt
call_stands c s o x words (Waits (OnSync stage)) = tt
call_stands c s o x words (Waits Nothing) = tt
call_stands c s o x words (Made es lent writes) = tt

spent_stands : (c : Inputs) (s : State) (o : Owner) (x : CtxNo) (b : Bool) → NextStand o (spent c s x b)
spent_stands c s o x true = tt
spent_stands c s o x false = tt

-- the loan that the words name is due
named_due : (s : State) (a j : ℕ) (words : List ℕ) → loan_named s a words ≡ Some j → at (due_of a) s.owner.loans j ≡ true
named_due s a j words is =
    let rows : List ℕ = numbers_from 0 (due_of a) s.owner.loans in
    let all = numbers_pass 0 (due_of a) s.owner.loans (λ i. at (due_of a) s.owner.loans i ≡ true)
    (λ i h. let same : i ≡ 0 + i = omega arith in subst (λ (n : ℕ). at (due_of a) s.owner.loans n ≡ true) same h) in
    first_all (λ i. at (due_of a) s.owner.loans i ≡ true) (filter (λ i. slice_index_or s.lent i 0 == word words 2) rows) j
    (filter_all (λ i. at (due_of a) s.owner.loans i ≡ true) (λ i. slice_index_or s.lent i 0 == word words 2) rows all) is

home_case : (o : Owner) (a : AdapterNo) (j : ℕ) → o.next ≡ nexts.GoingHome a → at (due_of a.0) o.loans j ≡ true → rule_against o (entries.Back (record { 0 = j }) false) ≡ None
home_case o a j next due =
    let e : Entry = entries.Back (record { 0 = j }) false in
    let may : has_case o e ≡ true = ap (λ (m : OwnerNext). at (may_go_home m false) o.loans j) next ∙ due in
    let served : is_served o e ≡ true = served_home (count_by (due_of a.0) o.loans == 0) (must_behind o (nexts.GoingHome a)) refl (ap (must_behind o) next) in
    rw served (rw may refl)
  where
    served_home : (b : Bool) (m : Option OwnerDue) → m ≡ cond b None (Some (BacksDue a.0)) → owner_must o ≡ m → is_served o (entries.Back (record { 0 = j }) false) ≡ true
    served_home true m is owes = served_alone o (entries.Back (record { 0 = j }) false) (owes ∙ is)
    served_home false m is owes =
        let e : Entry = entries.Back (record { 0 = j }) false in
        ap (λ n. option_map_or (λ d. serves o d e || may_break_in o.next e) n true) (owes ∙ is) ∙ first_or (at (due_of a.0) o.loans j) (may_break_in o.next e) due

takes_stands : (s : State) (o : Owner) (a : AdapterNo) (words : List ℕ) (j : Option ℕ) → loan_named s a.0 words ≡ j → o.next ≡ nexts.GoingHome a → o.loans ≡ s.owner.loans → NextStand o (takes j)
takes_stands s o a words None is next same = tt
takes_stands s o a words (Some j) is next same =
    home_case o a j next (subst (λ (ls : List Loan). at (due_of a.0) ls j ≡ true) (sym same) (named_due s a.0 j words is))

enter_stands : (c : Inputs) (s : State) (b : Option AdapterNo) (x : CtxNo) (h : Handler) (words : List ℕ) (writes : List Write) → rule_against s.owner (entries.Enter b x h words writes) ≡ None
    → NextStand (after c s (entries.Enter b x h words writes)).owner (enter_next s (number_in c b) h words)
enter_stands c s (Some a) x handler.ReturnPacket words writes none =
    takes_stands s (after c s (entries.Enter (Some a) x handler.ReturnPacket words writes)).owner a words (loan_named s a.0 words) refl refl refl
enter_stands c s None x handler.ReturnPacket words writes none =
    let may = case_of s.owner (entries.Enter None x handler.ReturnPacket words writes) none in
    let entry = (true_both _ (is_entry handler.ReturnPacket) may).1 in absurd (cc)
enter_stands c s b x _ words writes none = tt

-- behind one of them the others
plain_owner : (c : Inputs) (s : State) (e : Entry) → is_special e ≡ false → (after c s e).owner ≡ owners.after s.owner e
plain_owner c s (entries.Leave x eax) plain = absurd (cc)
plain_owner c s (entries.Reply x eax writes) plain = absurd (cc)
plain_owner c s e plain = refl

must_verdicts : (s : State) (e : Entry) (es : List Entry) → s.next ≡ Verdicts (e ∷ es) → owner_must s.owner ≡ None → must s ≡ Some (Exactly e)
unfolding must
must_verdicts s e es next none =
    ap (λ n. option_or (taken_first n) (option_or (option_map Owes (owner_must s.owner)) (next_must n))) next
    ∙ ap (λ m. option_or (option_map Owes m) (first_of (e ∷ es))) none

no_break : (c : Inputs) (s : State) (e : Entry) → is_special e ≡ false → breaks_in c s e ≡ false
no_break c s (entries.Stop a why) plain = absurd (cc)
no_break c s _ plain = refl

verdict_behind : (c : Inputs) (s : State) (e : Entry) (es : List Entry) → s.next ≡ Verdicts es → is_special e ≡ false → Meets c s e → AllStand s.owner es → AllStand (after c s e).owner (drop 1 es)
verdict_behind c s e [] next plain meets all = tt
verdict_behind c s e (f ∷ es) next plain meets all =
    let same : e ≡ f = in_turn c s (Exactly f) e (must_verdicts s f es next all.1) (no_break c s e plain) meets in
    subst (λ (o : Owner). AllStand o es) (ap (owners.after s.owner) (sym same) ∙ sym (plain_owner c s e plain)) all.3

popped_stands : (c : Inputs) (s : State) (e : Entry) (n : Next) → s.next ≡ n → is_special e ≡ false → Meets c s e → NextStand s.owner n → NextStand (after c s e).owner (popped n)
popped_stands c s e (Verdicts es) next plain meets h = verdict_behind c s e es next plain meets h
popped_stands c s e (Makes x es lent) next plain meets h = tt
popped_stands c s e (Stops why ats) next plain meets h = tt
popped_stands c s e Free next plain meets h = tt
popped_stands c s e (Takes f) next plain meets h = tt
popped_stands c s e (Spinning x lock) next plain meets h = tt

next_stands : (c : Inputs) (s : State) (e : Entry) → AllAsk s → AllSend s → Meets c s e → NextStand s.owner s.next → NextStand (after c s e).owner (next_after c s e)
next_stands c s (entries.Enter b x h words writes) all sends meets is = enter_stands c s b x h words writes meets.owner
next_stands c s (entries.Leave x eax) all sends meets is =
    leave_stands c s x eax (leaves c s x eax)
    (asked (behind s x eax) (leaves_even s x) 7 (drawn c s (adapter_of s x.0) eax (context_at s x.0).subject (handler_of s x.0))
    (λ even. drawn_stands c s x eax (adapter_of s x.0) refl (leaving c s x eax all meets) (sent_leaves c s x eax sends meets)))
next_stands c s (entries.Fault x kind address) all sends meets is = tt
next_stands c s (entries.Turn x n) all sends meets is = spent_stands c s (after c s (entries.Turn x n)).owner x (reaches c s x n)
next_stands c s (entries.Call x import words) all sends meets is = call_stands c s (after c s (entries.Call x import words)).owner x words (did s x import words)
next_stands c s (entries.Reply x eax writes) all sends meets is =
    spent_stands c s (after c s (entries.Reply x eax writes)).owner x (reaches c s x (cost_of s x (record { eax = eax; writes = writes })))
next_stands c s (entries.Stop a why) all sends meets is = tt
next_stands c s e all sends meets is = popped_stands c s e s.next refl refl meets is

record Ends (c : Inputs) (s : State) : Type 0 where
  pub asks : Asks c s
  pub sends : Sends c s
  pub stand : NextStand s.owner s.next

ends_step : (c : Inputs) (s : State) (e : Entry) → Ends c s → Meets c s e → Ends c (after c s e)
ends_step c s e h meets = record { asks = asks_step c s e h.asks meets; sends = sends_step c s e h.sends meets; stand = next_stands c s e h.asks.asks h.sends.sends meets h.stand }

ends_now : (c : Inputs) (log : List Entry) → Run c log → Ends c (now c log)
ends_now c log run = kept_from c (Ends c) (ends_step c) (start c) log (record { asks = asks_begun c; sends = sends_begun c; stand = tt }) run

-- ---- what must stand may stand

plain_next : (c : Inputs) (s : State) (e : Entry) → is_special e ≡ false → (after c s e).next ≡ popped s.next
plain_next c s (entries.Enter a x h words writes) plain = absurd (cc)
plain_next c s (entries.Leave x eax) plain = absurd (cc)
plain_next c s (entries.Fault x kind address) plain = absurd (cc)
plain_next c s (entries.Turn x n) plain = absurd (cc)
plain_next c s (entries.Call x import words) plain = absurd (cc)
plain_next c s (entries.Reply x eax writes) plain = absurd (cc)
plain_next c s (entries.Stop a why) plain = absurd (cc)
plain_next c s _ plain = refl

pub drawn_goes_on : (c : Inputs) (log : List Entry) (e : Entry) (es : List Entry) → Run c log → (now c log).next ≡ Verdicts (e ∷ es)
    → Meets c (now c log) e × ((after c (now c log) e).next ≡ Verdicts es)
drawn_goes_on c log e es run is =
    let s : State = now c log in
    let all : AllStand s.owner (e ∷ es) = subst (NextStand s.owner) is (ends_now c log run).stand in
    (due_meets c s (Exactly e) e (must_verdicts s e es is all.1) refl all.2, plain_next c s e all.0 ∙ ap popped is)

must_takes : (s : State) (e : Entry) → s.next ≡ Takes e → must s ≡ Some (Exactly e)
unfolding must
must_takes s e is = ap (λ n. option_or (taken_first n) (option_or (option_map Owes (owner_must s.owner)) (next_must n))) is

pub taken_goes_on : (c : Inputs) (log : List Entry) (e : Entry) → Run c log → (now c log).next ≡ Takes e → Meets c (now c log) e
taken_goes_on c log e run is =
    let s : State = now c log in
    due_meets c s (Exactly e) e (must_takes s e is) refl (subst (NextStand s.owner) is (ends_now c log run).stand)

-- ---- the packets of a send that leaves

in_row : (a n : ℕ) (p : Packet) → send_rows.settled a n p ≡ true → is_miniport p.place ≡ true → ((p.adapter.0 == a) && (p.hand == n)) ≡ true
in_row a n p is held = rw (true_both (p.adapter.0 == a) _ is).0 (own_hand a n p is held)

pub handed_by_it : (c : Inputs) (log : List Entry) (x : CtxNo) (eax : ℕ) (a : AdapterNo) (h : Handler) (enter : ℕ) (call : Option OpenCall) (k : ℕ) → is_send h ≡ true → Run c (log ++ entries.Leave x eax ∷ [])
    → slice_get (now c log).owner.contexts x.0 ≡ Some (kept_context.Open (Some a) h enter call) → list_any (λ i. i == k) (context_at (now c log) x.0).subject ≡ true
    → at_miniport (now c log).owner k ≡ true → at (λ p. (p.adapter.0 == a.0) && (p.hand == enter)) (now c log).owner.packets k ≡ true
handed_by_it c log x eax a h enter call k send run there among held =
    let s : State = now c log in
    let parts = run_parts c (start c) log (entries.Leave x eax) run in
    let sent = sent_leaves c s x eax (ends_now c log parts.0).sends.sends parts.1 in
    let sends_it : is_sending a.0 enter (kept_context.Open (Some a) h enter call) ≡ true = rw (eq-eqb a.0 a.0 refl) (rw send (eq-eqb enter enter refl)) in
    let opened : at (is_sending a.0 enter) s.owner.contexts x.0 ≡ true = ap (λ m. option_map_or (is_sending a.0 enter) m false) there ∙ sends_it in
    let is : at (send_rows.settled a.0 enter) s.owner.packets k ≡ true = sent.settled a.0 enter k (record { opened = opened; among = among }) in
    at_both (send_rows.settled a.0 enter) (λ p. is_miniport p.place) (λ p. (p.adapter.0 == a.0) && (p.hand == enter)) s.owner.packets k (in_row a.0 enter) is held
