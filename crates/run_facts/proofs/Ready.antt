-- What a context has that goes on, and one that is entered.
use Rattle.std.proofs.Common.{rules, ◌≡◌, ℕ, zero, suc, ◌<◌, ◌≤◌, true, not, ◌&&◌, List, [], ◌∷◌, Option, Some, None, refl, sym, subst, length, arith}
use Rattle.std.specs.Prelude.{is_none}
use Rattle.std.specs.Str.{bytes_eq}
use Rattle.std.proofs.lemmas.Slice.Eq.{bytes_eq-Decides}
use Rattle.nd_base.specs.declared.numbers.AdapterNo.{AdapterNo}
use Rattle.nd_base.specs.declared.numbers.CtxNo.{CtxNo}
use Rattle.log_fields.specs.declared.write.Write.{Write}
use Rattle.log_fields.specs.declared.field_values.Handler.{Handler}
use Rattle.log_fields.specs.declared.field_values.Handler.TheVariants as handler
use Rattle.call_log.specs.declared.entry.Entry.TheVariants as entries
use Rattle.owner_machine.specs.State.{Owner, at, stands}
use Rattle.owner_machine.specs.declared.rows.Request.{Request}
use Rattle.owner_machine.specs.declared.waiting.Event.{Event}
use Rattle.owner_machine.specs.Contexts.{is_free as is_free_row}
use Rattle.owner_machine.specs.Handlers.{may_enter}
use Rattle.owner_machine.specs.declared.rows.Context.{Context as OwnerContext}
use Rattle.owner_machine.specs.declared.rows.Context.TheVariants.{Free, Open}
use Rattle.legal_run.specs.State.{Inputs, State, Calling, call_at, is_free_context, is_open, is_open_context}
use Rattle.legal_run.specs.Owed.{to_hand}
use Rattle.legal_run.specs.Enters.{event_of, event_words, request_words, words_of}
use Rattle.legal_run.specs.Run.{Meets, is_going, is_over, now}
use Rattle.run_facts.specs.Facts.{IsOfRun, IsReady, MayHold}
use Rattle.run_facts.proofs.Runs.{case_of, run_more, true_both}
use Rattle.run_facts.proofs.Counts.{AdaptersGiven, counts}
use Rattle.run_facts.proofs.OpenCalls.{RepliesAnswer, works}
use Rattle.run_facts.proofs.Levels.{opened, closed_where_free}
use Rattle.run_facts.proofs.Inside.{below, standing}
use Rattle.run_facts.proofs.Starts.{VerdictsStand}
use Rattle.run_facts.proofs.Early.{EntersOwed, starts_there}

none_of : (m : Option Calling) → is_none m ≡ true → m ≡ None
none_of None h = refl
none_of (Some call) h = absurd (cc)

pub numbers : AdaptersGiven → (c : Inputs) (s : State) (x : ℕ) → IsOfRun c s → is_open s x ≡ true → x < 16
numbers given c s x is there =
    let less = below is_open_context s.owner.contexts x there in
    let count = (counts given c s is).handlers in
    omega (arith, less, count)

pub ready : AdaptersGiven → RepliesAnswer → (c : Inputs) (s : State) (x : CtxNo) → IsOfRun c s → is_going c s x ≡ true → IsReady s x
ready given replies c s x is going =
    let parts = true_both (is_open s x.0) (is_none (call_at s x.0) && not (is_over c s)) going in
    let none = none_of (call_at s x.0) (true_both (is_none (call_at s x.0)) (not (is_over c s)) parts.1).0 in
    let less = below is_open_context s.owner.contexts x.0 parts.0 in
    let count = (counts given c s is).handlers in
    record { number = omega (arith, less, count); works = works replies c s x.0 is parts.0 none; opened = opened given c s x is parts.0 }

-- ---- enters

entered_free : (o : Owner) (a : Option AdapterNo) (x : ℕ) (h : Handler) → may_enter o a x h ≡ true → at is_free_row o.contexts x ≡ true
entered_free o None x h may = (true_both (at is_free_row o.contexts x) _ may).0
entered_free o (Some a) x h may = (true_both (at is_free_row o.contexts x) _ may).0

entered_stands : (o : Owner) (a : AdapterNo) (x : ℕ) (h : Handler) → may_enter o (Some a) x h ≡ true → stands o a.0 ≡ true
entered_stands o a x h may = (true_both (stands o a.0) _ (true_both _ _ (true_both _ _ may).1).1).0

free_alike : (os : List OwnerContext) (x : ℕ) → at is_free_row os x ≡ true → at is_free_context os x ≡ true
free_alike [] x h = h
free_alike (Free ∷ os) zero h = refl
free_alike (Open a k enter call ∷ os) zero h = absurd (cc)
free_alike (o ∷ os) (suc x) h = free_alike os x h

-- ---- words

few_request : (s : State) (a : ℕ) (r : Option Request) → length (request_words s a r) ≤ 16
few_request s a None = omega arith
few_request s a (Some r) = omega arith

few_event : (s : State) (a x : ℕ) (e : Option Event) → length (event_words s a x e) ≤ 16
few_event s a x None = omega arith
few_event s a x (Some e) = omega arith

few_words : (s : State) (a x : ℕ) (h : Handler) (words : List ℕ) → length (words_of s a x h words) ≤ 16
few_words s a x handler.Query words = few_request s a (to_hand s a)
few_words s a x handler.Set words = few_request s a (to_hand s a)
few_words s a x handler.PnpEvent words = few_event s a x (event_of s a)
few_words s a x _ words = omega arith

same_words : (xs ys : List ℕ) → bytes_eq xs ys ≡ true → xs ≡ ys
same_words xs ys h = search (rules, bytes_eq-Decides)

few_there : (words carried : List ℕ) → words ≡ carried → length carried ≤ 16 → length words ≤ 16
few_there words carried is few = subst (λ (l : List ℕ). length l ≤ 16) (sym is) few

pub few : EntersOwed → VerdictsStand → (c : Inputs) (s : State) (a : Option AdapterNo) (x : CtxNo) (h : Handler) (words : List ℕ) (writes : List Write) → IsOfRun c s
    → Meets c s (entries.Enter a x h words writes) → length words ≤ 16
few owed stand c s (Some a) x h words writes is meets =
    let enter = owed c is.log a x h words writes (run_more c s (entries.Enter (Some a) x h words writes) is meets) in
    few_there words (words_of (now c is.log) a.0 x.0 h words) enter.carried (few_words (now c is.log) a.0 x.0 h words)
few owed stand c s None x h words writes is meets =
    let there = (starts_there stand c s x h words writes is meets).carried in
    few_there words (words_of s 0 x.0 handler.DriverEntry words) (same_words words (words_of s 0 x.0 handler.DriverEntry words) there) (few_words s 0 x.0 handler.DriverEntry words)

pub may_hold : AdaptersGiven → (c : Inputs) (s : State) (a : Option AdapterNo) (x : CtxNo) (h : Handler) (words : List ℕ) (writes : List Write) → IsOfRun c s
    → Meets c s (entries.Enter a x h words writes) → MayHold c s a x
may_hold given c s a x h words writes is meets =
    let may : may_enter s.owner a x.0 h ≡ true = case_of s.owner (entries.Enter a x h words writes) meets.owner in
    let free = free_alike s.owner.contexts x.0 (entered_free s.owner a x.0 h may) in
    let less = below is_free_context s.owner.contexts x.0 free in
    let count = (counts given c s is).handlers in
    record { number = omega (arith, less, count); closed = closed_where_free given c s x is free; inside = by_adapter a may }
  where
    by_adapter : (b : Option AdapterNo) → may_enter s.owner b x.0 h ≡ true → (n : AdapterNo) → b ≡ Some n → n.0 < length c.adapters
    by_adapter None may n some = absurd (cc)
    by_adapter (Some b) may n some =
        let same : b ≡ n = cc in
        let less = standing given c s b.0 is (entered_stands s.owner b x.0 h may) in
        subst (λ (m : AdapterNo). m.0 < length c.adapters) same less
