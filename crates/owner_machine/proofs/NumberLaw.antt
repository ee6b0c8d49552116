-- Numbers are drawn once: how often a number was sent or asked is whether it is below the length.
use Rattle.std.proofs.Common.{◌≡◌, ℕ, zero, suc, ◌+◌, ◌≤◌, ◌<◌, Bool, true, false, ◌==◌, List, [], ◌∷◌, ◌++◌, length, None, refl, ap, ◌∙◌, arith, length-append}
use Rattle.std.specs.Prelude.{nat_lt}
use Rattle.std.proofs.lemmas.Bool.Decides.{nat_tests}
use Rattle.call_log.specs.declared.entry.Entry.{Entry}
use Rattle.call_log.specs.declared.entry.Entry.TheVariants.{Send, Tag, Hand, Requeue, Complete, Late, Ask, HandAsk, Answer}
use Rattle.owner_machine.specs.State.{Owner, change}
use Rattle.owner_machine.specs.Packets.{sent}
use Rattle.owner_machine.specs.Requests.{asked}
use Rattle.owner_machine.specs.Machine.{rule_against, after}
use Rattle.owner_machine.specs.Legal.{Legal, Ends, Goes, Registers, Breaches}
use Rattle.owner_machine.specs.Laws.{number, sends, asks, times}
use Rattle.owner_machine.proofs.Bools.{case_of, and_first, and_second, equal}

pub length-change : {A : Type 0} (f : A → A) (rows : List A) (k : ℕ) → length (change f rows k) ≡ length rows
length-change f [] k = refl
length-change f (row ∷ rows) zero = refl
length-change f (row ∷ rows) (suc k) = ap (λ (n : ℕ). suc n) (length-change f rows k)

one_more : (n j k : ℕ) → j ≡ n → number (nat_lt k (n + 1)) ≡ number (nat_lt k n) + number (j == k)
one_more n j k same = grind (arith, nat_tests)

unmoved : (k m n : ℕ) → m ≡ n → number (nat_lt k m) ≡ number (nat_lt k n) + number false
unmoved k m n h = let e = ap (λ (x : ℕ). number (nat_lt k x)) h in omega (arith, e)

longer : {A : Type 0} (rows : List A) (new : A) (j k : ℕ) → j ≡ length rows → number (nat_lt k (length (rows ++ new ∷ []))) ≡ number (nat_lt k (length rows)) + number (j == k)
longer rows new j k same = ap (λ (n : ℕ). number (nat_lt k n)) (length-append rows (new ∷ [])) ∙ one_more (length rows) j k same

sent_step : (o : Owner) (e : Entry) (k : ℕ) → rule_against o e ≡ None → number (nat_lt k (length (after o e).packets)) ≡ number (nat_lt k (length o.packets)) + number (sends k e)
sent_step o (Send driver packet bytes) k h = longer o.packets (sent o driver) packet.0 k (equal packet.0 _ (and_first _ _ (and_second _ _ (case_of o (Send driver packet bytes) h))))
sent_step o (Tag packet id) k h = unmoved k _ _ (length-change _ o.packets packet.0)
sent_step o (Hand packet) k h = unmoved k _ _ (length-change _ o.packets packet.0)
sent_step o (Requeue packet) k h = unmoved k _ _ (length-change _ o.packets packet.0)
sent_step o (Complete packet status) k h = unmoved k _ _ (length-change _ o.packets packet.0)
sent_step o (Late packet) k h = unmoved k _ _ (length-change _ o.packets packet.0)
sent_step o _ k h = omega arith

pub sent_kept : (o n : Owner) (log : List Entry) (k : ℕ) → Legal o log n → number (nat_lt k (length n.packets)) ≡ number (nat_lt k (length o.packets)) + times (sends k) log
unfolding times
sent_kept o n log k (Ends m) = omega arith
sent_kept o n log k (Goes m l e rest h more) = let one = sent_step o e k h in let all = sent_kept (after o e) n rest k more in omega (arith, one, all)
sent_kept o n log k (Registers m l rest c p more) = sent_kept _ n log k more
sent_kept o n log k (Breaches m l c eax rest h more) = let all = sent_kept _ n rest k more in omega (arith, all)

asked_step : (o : Owner) (e : Entry) (k : ℕ) → rule_against o e ≡ None → number (nat_lt k (length (after o e).requests)) ≡ number (nat_lt k (length o.requests)) + number (asks k e)
asked_step o (Ask driver request question) k h = longer o.requests (asked o driver question) request.0 k (equal request.0 _ (and_second _ _ (case_of o (Ask driver request question) h)))
asked_step o (HandAsk request) k h = unmoved k _ _ (length-change _ o.requests request.0)
asked_step o (Answer request status bytes) k h = unmoved k _ _ (length-change _ o.requests request.0)
asked_step o _ k h = omega arith

pub asked_kept : (o n : Owner) (log : List Entry) (k : ℕ) → Legal o log n → number (nat_lt k (length n.requests)) ≡ number (nat_lt k (length o.requests)) + times (asks k) log
unfolding times
asked_kept o n log k (Ends m) = omega arith
asked_kept o n log k (Goes m l e rest h more) = let one = asked_step o e k h in let all = asked_kept (after o e) n rest k more in omega (arith, one, all)
asked_kept o n log k (Registers m l rest c p more) = asked_kept _ n log k more
asked_kept o n log k (Breaches m l c eax rest h more) = let all = asked_kept _ n rest k more in omega (arith, all)

pub none_below : (k : ℕ) → number (nat_lt k 0) ≡ 0
none_below k = grind (arith, nat_tests)

pub is_below : (k n : ℕ) → k < n → number (nat_lt k n) ≡ 1
is_below k n less = grind (arith, nat_tests)

pub one_at_most : (b : Bool) → number b ≤ 1
one_at_most true = omega arith
one_at_most false = omega arith
