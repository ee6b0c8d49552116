-- What a call does that its row answers at once, and what is read for it.
use Rattle.std.proofs.Common.{◌≡◌, ℕ, zero, suc, ◌+◌, ◌-◌, ◌*◌, ◌/◌, ◌%◌, ◌<◌, ◌≤◌, Bool, true, false, not, ◌&&◌, ◌==◌, nat_le, if◌then◌else◌, List, [], ◌∷◌, Option, Some, None, Result, Ok, Err, IfOk, refl, sym, ap, ◌∙◌, subst, arith, inl, inr}
use Rattle.std.specs.Prelude.{slice_index_or}
use Rattle.std.proofs.lemmas.Bool.{cases_lt}
use Rattle.std.proofs.lemmas.Bool.Decides.{nat_tests}
use Rattle.nd_base.specs.declared.OutOfMemory.{OutOfMemory}
use Rattle.nd_base.specs.declared.numbers.AdapterNo.{AdapterNo}
use Rattle.nd_base.specs.declared.numbers.CtxNo.{CtxNo}
use Rattle.import_table.specs.Table.{Row, row_of, rows}
use Rattle.guest_world.specs.declared.world.World.{World}
use Rattle.guest_world.specs.declared.answer.Answer.TheVariants.{Now}
use Rattle.guest_world.specs.declared.answer.Caller.{Caller}
use Rattle.guest_world.specs.declared.answer.Reply.{Reply}
use Rattle.import_answers.specs.World.{is_adapter_handle, word}
use Rattle.import_answers.specs.Outcomes.{Outcome, Breaks, Replies, Picks, PicksDescriptor, Spins, Sleeps, Synchronizes, Comes, arguments_rule, asks, can_read, done}
use Rattle.import_answers.specs.Ports.{offset_of_port, write_buffer}
use Rattle.import_answers.specs.Answers.{answering, eight, none_such, outcome}
use Rattle.owner_machine.specs.Contexts.{send_complete, indicate_receive_packet, reset_complete, query_complete, set_complete}
use Rattle.legal_run.specs.Laws.{CallsKeep}
use Rattle.legal_run.specs.State.{State, adapter_of, caller}
use Rattle.legal_run.specs.Calls.{Did, by_outcome, did, is_port_call, is_read, makes, moves_buffer, outcome_of, served, width_of}
use Rattle.call_verdicts.specs.Deeds.{IsBehind, did_as}
use Rattle.call_verdicts.specs.declared.deeds.Deed.{Deed}
use Rattle.call_verdicts.proofs.Outcomes.{asked, at_39, at_41, at_42, at_43, at_44, at_port, behind_rules, second, third}

abbrev pub AnswersAt : State → CtxNo → List ℕ → Reply → World → ℕ → Type 0
AnswersAt s x words reply v import = Comes (outcome_of s x import words) s.world (Ok (Now reply)) v

equal : (m n : ℕ) → (m == n) ≡ true → m ≡ n
equal m n h = grind (arith, h)

and_first : (a b : Bool) → a && b ≡ true → a ≡ true
and_first true b h = refl
and_first false b h = h

and_second : (a b : Bool) → a && b ≡ true → b ≡ true
and_second true b h = h
and_second false b h = absurd (cc)

-- ---- what it does

in_ports : (n : ℕ) → is_port_call n ≡ true → (53 ≤ n) × (n ≤ 60)
in_ports n h = let low = and_first (nat_le 53 n) (nat_le n 60) h in let high = and_second (nat_le 53 n) (nat_le n 60) h in (grind (arith, nat_tests, low), grind (arith, nat_tests, high))

port_replies : (s : State) (x : CtxNo) (words : List ℕ) (reply : Reply) (v : World) (import : ℕ) → is_port_call import ≡ true → AnswersAt s x words reply v import → outcome_of s x import words ≡ Replies reply v
port_replies s x words reply v import is comes =
    let range = in_ports import is in
    let low = range.0 in
    let high = range.1 in
    let at : import ≡ 53 + (import - 53) = omega (arith, low) in
    subst (λ (n : ℕ). outcome_of s x n words ≡ Replies reply v) (sym at) (at_port s x words reply v (import - 53) (omega (arith, low, high)) (subst (AnswersAt s x words reply v) at comes))

-- none of the six
abbrev IsOther : ℕ → Type 0
IsOther import =
    (import == send_complete ≡ false) × ((import == indicate_receive_packet ≡ false) × ((import == reset_complete ≡ false) × ((import == query_complete ≡ false) × ((import == set_complete ≡ false) × (is_port_call import ≡ false)))))

last_of : {A : Type 0} (b1 b2 b3 b4 b5 b6 : Bool) (a1 a2 a3 a4 a5 a6 z : A) → b1 ≡ false → b2 ≡ false → b3 ≡ false → b4 ≡ false → b5 ≡ false → b6 ≡ false
    → (if b1 then a1 else if b2 then a2 else if b3 then a3 else if b4 then a4 else if b5 then a5 else if b6 then a6 else z) ≡ z
last_of false false false false false false a1 a2 a3 a4 a5 a6 z h1 h2 h3 h4 h5 h6 = refl
last_of true b2 b3 b4 b5 b6 a1 a2 a3 a4 a5 a6 z h1 h2 h3 h4 h5 h6 = absurd (cc)
last_of false true b3 b4 b5 b6 a1 a2 a3 a4 a5 a6 z h1 h2 h3 h4 h5 h6 = absurd (cc)
last_of false false true b4 b5 b6 a1 a2 a3 a4 a5 a6 z h1 h2 h3 h4 h5 h6 = absurd (cc)
last_of false false false true b5 b6 a1 a2 a3 a4 a5 a6 z h1 h2 h3 h4 h5 h6 = absurd (cc)
last_of false false false false true b6 a1 a2 a3 a4 a5 a6 z h1 h2 h3 h4 h5 h6 = absurd (cc)
last_of false false false false false true a1 a2 a3 a4 a5 a6 z h1 h2 h3 h4 h5 h6 = absurd (cc)

other_makes : (s : State) (a : AdapterNo) (import : ℕ) (words : List ℕ) (reply : Reply) → IsOther import → served s (Some a) import words reply ≡ makes []
other_makes s a import words reply h =
    last_of (import == send_complete) (import == indicate_receive_packet) (import == reset_complete) (import == query_complete) (import == set_complete) (is_port_call import) _ _ _ _ _ _ (makes []) h.0 h.1.0 h.1.1.0 h.1.1.1.0 h.1.1.1.1.0 h.1.1.1.1.1

other_did : (s : State) (a : AdapterNo) (import : ℕ) (words : List ℕ) (o : Outcome) (w v : World) (reply : Reply) → IsOther import → Comes o w (Ok (Now reply)) v → by_outcome s (Some a) import words o ≡ makes []
other_did s a import words (Replies given after) w v reply other h = other_makes s a import words given other
other_did s a import words (Picks n given after) w v reply other h = refl
other_did s a import words (PicksDescriptor kind handle given after) w v reply other h = refl
other_did s a import words (Breaks rule) w v reply other h = absurd h
other_did s a import words (Sleeps moment) w v reply other h = absurd h
other_did s a import words (Spins holder after) w v reply other h = absurd h
other_did s a import words Synchronizes w v reply other h = absurd h

by_replies : (s : State) (x : CtxNo) (a : AdapterNo) (import : ℕ) (words : List ℕ) (reply : Reply) (v : World) → outcome_of s x import words ≡ Replies reply v
    → by_outcome s (Some a) import words (outcome_of s x import words) ≡ served s (Some a) import words reply
by_replies s x a import words reply v is = ap (by_outcome s (Some a) import words) is

pub outcome_served : (s : State) (x : CtxNo) (a : AdapterNo) (import : ℕ) (words : List ℕ) (reply : Reply) (v : World) → AnswersAt s x words reply v import
    → by_outcome s (Some a) import words (outcome_of s x import words) ≡ served s (Some a) import words reply
outcome_served s x a import words reply v comes = one (import == send_complete) refl
  where
    here : (n : ℕ) → (AnswersAt s x words reply v n → outcome_of s x n words ≡ Replies reply v) → import ≡ n → by_outcome s (Some a) import words (outcome_of s x import words) ≡ served s (Some a) import words reply
    here n is at = by_replies s x a import words reply v (subst (λ (k : ℕ). outcome_of s x k words ≡ Replies reply v) (sym at) (is (subst (AnswersAt s x words reply v) at comes)))

    six : import == send_complete ≡ false → import == indicate_receive_packet ≡ false → import == reset_complete ≡ false → import == query_complete ≡ false → import == set_complete ≡ false → (b : Bool) → is_port_call import ≡ b
        → by_outcome s (Some a) import words (outcome_of s x import words) ≡ served s (Some a) import words reply
    six h1 h2 h3 h4 h5 true is = by_replies s x a import words reply v (port_replies s x words reply v import is comes)
    six h1 h2 h3 h4 h5 false is = let other : IsOther import = (h1, (h2, (h3, (h4, (h5, is))))) in other_did s a import words (outcome_of s x import words) s.world v reply other comes ∙ sym (other_makes s a import words reply other)

    five : import == send_complete ≡ false → import == indicate_receive_packet ≡ false → import == reset_complete ≡ false → import == query_complete ≡ false → (b : Bool) → import == set_complete ≡ b
        → by_outcome s (Some a) import words (outcome_of s x import words) ≡ served s (Some a) import words reply
    five h1 h2 h3 h4 true is = here 44 (at_44 s x words reply v) (equal import set_complete is)
    five h1 h2 h3 h4 false is = six h1 h2 h3 h4 is (is_port_call import) refl

    four : import == send_complete ≡ false → import == indicate_receive_packet ≡ false → import == reset_complete ≡ false → (b : Bool) → import == query_complete ≡ b
        → by_outcome s (Some a) import words (outcome_of s x import words) ≡ served s (Some a) import words reply
    four h1 h2 h3 true is = here 43 (at_43 s x words reply v) (equal import query_complete is)
    four h1 h2 h3 false is = five h1 h2 h3 is (import == set_complete) refl

    three : import == send_complete ≡ false → import == indicate_receive_packet ≡ false → (b : Bool) → import == reset_complete ≡ b → by_outcome s (Some a) import words (outcome_of s x import words) ≡ served s (Some a) import words reply
    three h1 h2 true is = here 42 (at_42 s x words reply v) (equal import reset_complete is)
    three h1 h2 false is = four h1 h2 is (import == query_complete) refl

    two : import == send_complete ≡ false → (b : Bool) → import == indicate_receive_packet ≡ b → by_outcome s (Some a) import words (outcome_of s x import words) ≡ served s (Some a) import words reply
    two h1 true is = here 41 (at_41 s x words reply v) (equal import indicate_receive_packet is)
    two h1 false is = three h1 is (import == reset_complete) refl

    one : (b : Bool) → import == send_complete ≡ b → by_outcome s (Some a) import words (outcome_of s x import words) ≡ served s (Some a) import words reply
    one true is = here 39 (at_39 s x words reply v) (equal import send_complete is)
    one false is = two is (import == indicate_receive_packet) refl

-- ---- what is read for it

indicated : (s : State) (x : CtxNo) (words : List ℕ) (reply : Reply) (v : World) → AnswersAt s x words reply v 41 → (v ≡ s.world) × (can_read s.world (word words 2) (4 * word words 3) ≡ true)
unfolding answering rows row_of
indicated s x words reply v comes =
    let array = can_read s.world (word (eight words) 2) (4 * word (eight words) 3) in
    let rest = asked (is_adapter_handle (caller s x).adapter (word (eight words) 1) && array) arguments_rule (done s.world) s.world v reply (behind_rules s.world v (caller s x) (row_of 41) words reply comes) in (
      rest.1.1,
      ap (λ (n : ℕ). can_read s.world n (4 * word words 3)) (sym (second words)) ∙ ap (λ (n : ℕ). can_read s.world (word (eight words) 2) (4 * n)) (sym (third words)) ∙ and_second (is_adapter_handle (caller s x).adapter (word (eight words) 1)) array rest.0,
    )

queried : (s : State) (x : CtxNo) (words : List ℕ) (reply : Reply) (v : World) → AnswersAt s x words reply v 43 → v ≡ s.world
unfolding answering rows row_of
queried s x words reply v comes = (asked (is_adapter_handle (caller s x).adapter (word (eight words) 1)) arguments_rule (done s.world) s.world v reply (behind_rules s.world v (caller s x) (row_of 43) words reply comes)).1.1

set : (s : State) (x : CtxNo) (words : List ℕ) (reply : Reply) (v : World) → AnswersAt s x words reply v 44 → v ≡ s.world
unfolding answering rows row_of
set s x words reply v comes = (asked (is_adapter_handle (caller s x).adapter (word (eight words) 1)) arguments_rule (done s.world) s.world v reply (behind_rules s.world v (caller s x) (row_of 44) words reply comes)).1.1

buffer_59 : (s : State) (x : CtxNo) (words : List ℕ) (reply : Reply) (v : World) → AnswersAt s x words reply v 59 → can_read s.world (word words 2) (1 * word words 3) ≡ true
unfolding answering rows row_of
buffer_59 s x words reply v comes =
    let rest = asked (can_read s.world (word (eight words) 2) (1 * word (eight words) 3)) arguments_rule (write_buffer s.world (caller s x) (eight words) 1 (offset_of_port s.world (caller s x).adapter (word (eight words) 1))) s.world v reply (behind_rules s.world v (caller s x) (row_of 59) words reply comes) in
    ap (λ (n : ℕ). can_read s.world n (1 * word words 3)) (sym (second words)) ∙ ap (λ (n : ℕ). can_read s.world (word (eight words) 2) (1 * n)) (sym (third words)) ∙ rest.0

buffer_60 : (s : State) (x : CtxNo) (words : List ℕ) (reply : Reply) (v : World) → AnswersAt s x words reply v 60 → can_read s.world (word words 2) (2 * word words 3) ≡ true
unfolding answering rows row_of
buffer_60 s x words reply v comes =
    let rest = asked (can_read s.world (word (eight words) 2) (2 * word (eight words) 3)) arguments_rule (write_buffer s.world (caller s x) (eight words) 2 (offset_of_port s.world (caller s x).adapter (word (eight words) 1))) s.world v reply (behind_rules s.world v (caller s x) (row_of 60) words reply comes) in
    ap (λ (n : ℕ). can_read s.world n (2 * word words 3)) (sym (second words)) ∙ ap (λ (n : ℕ). can_read s.world (word (eight words) 2) (2 * n)) (sym (third words)) ∙ rest.0

written : (s : State) (x : CtxNo) (words : List ℕ) (reply : Reply) (v : World) (k : ℕ) → k < 4 → AnswersAt s x words reply v (57 + k) → is_read (57 + k) ≡ false → can_read s.world (word words 2) (width_of (57 + k) * word words 3) ≡ true
written s x words reply v zero few comes read = absurd (cc)
written s x words reply v (suc zero) few comes read = absurd (cc)
written s x words reply v (suc (suc zero)) few comes read = buffer_59 s x words reply v comes
written s x words reply v (suc (suc (suc zero))) few comes read = buffer_60 s x words reply v comes
written s x words reply v (suc (suc (suc (suc k)))) few comes read = absurd (omega (arith, few))

written_at : (s : State) (x : CtxNo) (words : List ℕ) (reply : Reply) (v : World) (import : ℕ) → is_port_call import ≡ true → AnswersAt s x words reply v import → is_read import ≡ false → moves_buffer import ≡ true
    → can_read s.world (word words 2) (width_of import * word words 3) ≡ true
written_at s x words reply v import port comes read moves =
    let range = in_ports import port in
    let high = range.1 in
    let low : 57 ≤ import = grind (arith, nat_tests, moves) in
    let at : import ≡ 57 + (import - 57) = omega (arith, low) in
    subst (λ (n : ℕ). can_read s.world (word words 2) (width_of n * word words 3) ≡ true) (sym at)
    (written s x words reply v (import - 57) (omega (arith, low, high)) (subst (AnswersAt s x words reply v) at comes) (subst (λ (n : ℕ). is_read n ≡ false) at read))

pub behind : CallsKeep → (s : State) (x : CtxNo) (import : ℕ) (words : List ℕ) (reply : Reply) (v : World) → AnswersAt s x words reply v import → IsBehind s import words v
behind keep s x import words reply v comes = record {
  keeps = keep s.world v (caller s x) (row_of import) words (Now reply) comes;
  indicates = λ at. (indicated s x words reply v (subst (AnswersAt s x words reply v) at comes)).0;
  queries = λ at. queried s x words reply v (subst (AnswersAt s x words reply v) at comes);
  sets = λ at. set s x words reply v (subst (AnswersAt s x words reply v) at comes);
  array = λ at. (indicated s x words reply v (subst (AnswersAt s x words reply v) at comes)).1;
  buffer = λ port read moves. written_at s x words reply v import port comes read moves;
}

-- ---- as it is judged

pub judged_so : (s : State) (x : CtxNo) (a : AdapterNo) (import : ℕ) (words : List ℕ) (reply : Reply) (v : World) (result : Result Deed OutOfMemory) → adapter_of s x.0 ≡ Some a → AnswersAt s x words reply v import
    → IfOk result (λ d. did_as d ≡ served s (Some a) import words reply) → IfOk result (λ d. did_as d ≡ did s x import words)
judged_so s x a import words reply v (Ok d) own comes h = h ∙ sym (outcome_served s x a import words reply v comes) ∙ ap (λ (n : Option AdapterNo). by_outcome s n import words (outcome_of s x import words)) (sym own)
judged_so s x a import words reply v (Err e) own comes h = tt
