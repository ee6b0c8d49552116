-- What an enter carries, and what a reply answers, in every run.
use Rattle.std.proofs.Common.{rules, ◌≡◌, ℕ, ◌%◌, ◌&&◌, ◌==◌, Bool, true, false, not, List, [], ◌∷◌, ◌++◌, refl, sym, ap, ◌∙◌, subst, Option, Some, None, inl, inr}
use Rattle.std.specs.Prelude.{is_some, filter, slice_get}
use Rattle.std.specs.Option.{MatchOption, option_map, option_map_or, option_and_then}
use Rattle.std.specs.Str.{bytes_eq}
use Rattle.std.proofs.lemmas.Bool.{eqb-true, cases_Bool}
use Rattle.std.proofs.lemmas.Slice.Eq.{bytes_eq-Decides}
use Rattle.nd_base.specs.declared.numbers.AdapterNo.{AdapterNo}
use Rattle.nd_base.specs.declared.numbers.CtxNo.{CtxNo}
use Rattle.packet_pool.specs.LiveMoves.{LiveMove, MakeBlock, Allocate, may}
use Rattle.log_fields.specs.declared.write.Write.{Write}
use Rattle.log_fields.specs.declared.field_values.Handler.{Handler}
use Rattle.call_log.specs.declared.entry.Entry.{Entry}
use Rattle.call_log.specs.declared.entry.Entry.TheVariants as entries
use Rattle.guest_world.specs.declared.answer.Reply.{Reply}
use Rattle.guest_world.specs.declared.world.World.{World}
use Rattle.import_answers.specs.Outcomes.{Outcome, Breaks, Replies, Picks, PicksDescriptor, Spins, Sleeps, Synchronizes, resumed}
use Rattle.owner_machine.specs.Contexts as owners
use Rattle.owner_machine.specs.Must.{Due as OwnerDue, Completes, EntersReset, serves}
use Rattle.legal_run.specs.State.{Inputs, State, Wait, Nothing, OnLock, OnClock, OnSync, Needed, Entered, Left, Calling, call_at, is_free}
use Rattle.legal_run.specs.Owed.{first, frame_due, is_owed}
use Rattle.legal_run.specs.Calls.{outcome_of}
use Rattle.legal_run.specs.Enters.{has_subject, may_lie, handed_to, named_in, words_of, same_writes, carries, is_reset}
use Rattle.legal_run.specs.Replies.{Answered, Told, is_told, told_as, addresses_named, is_picked, picked, by_outcome, answered_by, answered, replies, has_waited}
use Rattle.legal_run.specs.Must.{Due, Owes, Exactly, ReplyOf, must, Serves}
use Rattle.legal_run.specs.Run.{Run, now, freely}
use Rattle.legal_run.specs.EntryLaws.{IsCalledFor, IsEnter, IsReply, more_written}
use Rattle.legal_run.proofs.Between.{true_both, forced_now}
use Rattle.legal_run.proofs.Named.{OfCall, OfSpin, OfStop, NamedIn, must_named, owed_by_owner, met}

-- ---- writes that are told apart

same_bytes : (xs ys : List ℕ) → bytes_eq xs ys ≡ true → xs ≡ ys
same_bytes xs ys h = search (rules, bytes_eq-Decides)

same_write : (v w : Write) → v.at.0 ≡ w.at.0 → v.bytes ≡ w.bytes → v ≡ w
same_write v w at bytes =
    let by_place : (ℕ → Write) = λ k. record { at = record { 0 = k }; bytes = v.bytes } in
    let by_bytes : (List ℕ → Write) = λ bs. record { at = w.at; bytes = bs } in
    ap by_place at ∙ ap by_bytes bytes

same_list : (vs ws : List Write) → same_writes vs ws ≡ true → vs ≡ ws
same_list [] [] h = refl
same_list [] (w ∷ ws) h = absurd (cc)
same_list (v ∷ vs) [] h = absurd (cc)
same_list (v ∷ vs) (w ∷ ws) h =
    let at = true_both (v.at.0 == w.at.0) (bytes_eq v.bytes w.bytes && same_writes vs ws) h in
    let bytes = true_both (bytes_eq v.bytes w.bytes) (same_writes vs ws) at.1 in
    ap (λ x. x ∷ vs) (same_write v w (eqb-true _ _ at.0) (same_bytes _ _ bytes.0)) ∙ ap (λ xs. w ∷ xs) (same_list vs ws bytes.1)

-- ---- enters

carried : (c : Inputs) (s : State) (a x : ℕ) (h : Handler) (words : List ℕ) (writes : List Write) → IsCalledFor c s a h → carries c s a x h words writes ≡ true
    → IsEnter c s a x h words writes
carried c s a x h words writes owed is =
    let free = true_both (is_free s x) _ is in
    let frames = true_both (not (frame_due c s)) _ free.1 in
    let subject = true_both (has_subject s a h words) _ frames.1 in
    let lies = true_both (may_lie s (handed_to s a h words) (named_in h words writes)) _ subject.1 in
    let same = true_both (bytes_eq words (words_of s a x h words)) _ lies.1 in
    record {
      owed = owed;
      free = free.0;
      frames = not_true (frame_due c s) frames.0;
      carried = same_bytes _ _ same.0;
      written = same_list _ _ same.1;
      slots = lies.0;
    }
  where
    not_true : (b : Bool) → not b ≡ true → b ≡ false
    not_true true h = absurd (cc)
    not_true false h = refl

abbrev enter : ℕ → ℕ → Handler → List ℕ → List Write → Entry
enter a x h words writes = entries.Enter (Some (record { 0 = a })) (record { 0 = x }) h words writes

for_reset : (s : State) (a x : ℕ) (h : Handler) (words : List ℕ) (writes : List Write) (d : OwnerDue) → serves s.owner d (enter a x h words writes) ≡ true
    → (d ≡ EntersReset a) × (owners.is_reset h ≡ true)
for_reset s a x h words writes (EntersReset b) is = let both = true_both (a == b) (owners.is_reset h) is in (ap EntersReset (sym (eqb-true a b both.0)), both.1)
for_reset s a x h words writes (Completes fresh k status) is = absurd (cc)
for_reset s a x h words writes _ is = absurd (cc)

due_enter : (c : Inputs) (s : State) (a x : ℕ) (h : Handler) (words : List ℕ) (writes : List Write) (due : Due) → must s ≡ Some due → NamedIn s.next (Some due)
    → Serves c s due (enter a x h words writes) → IsEnter c s a x h words writes
due_enter c s a x h words writes (Owes d) is named served =
    let both = true_both (serves s.owner d (enter a x h words writes)) (carries c s a x h words writes) served in
    let reset = for_reset s a x h words writes d both.0 in
    carried c s a x h words writes (inr (owed_by_owner s d is ∙ ap Some reset.0, reset.1)) both.1
due_enter c s a x h words writes (Exactly e) is (OfCall made) served = absurd (cc)
due_enter c s a x h words writes (Exactly e) is (OfSpin y lock spin) served = absurd (cc)
due_enter c s a x h words writes (Exactly e) is (OfStop why b ats next stop) served = absurd (cc)
due_enter c s a x h words writes (ReplyOf y) is named served = absurd (cc)

turn_enter : (c : Inputs) (s : State) (a x : ℕ) (h : Handler) (words : List ℕ) (writes : List Write) (d : Option Due) → must s ≡ d → NamedIn s.next d
    → MatchOption d (freely c s (enter a x h words writes) ≡ true) (λ due. Serves c s due (enter a x h words writes)) → IsEnter c s a x h words writes
turn_enter c s a x h words writes None is named free =
    let not_reset = true_both (not (is_reset h)) (is_owed c s a h && carries c s a x h words writes) free in
    let owed = true_both (is_owed c s a h) (carries c s a x h words writes) not_reset.1 in
    carried c s a x h words writes (inl owed.0) owed.1
turn_enter c s a x h words writes (Some due) is named served = due_enter c s a x h words writes due is named served

pub enters : (c : Inputs) (log : List Entry) (a : AdapterNo) (x : CtxNo) (h : Handler) (words : List ℕ) (writes : List Write)
    → Run c (log ++ entries.Enter (Some a) x h words writes ∷ []) → IsEnter c (now c log) a.0 x.0 h words writes
enters c log a x h words writes run = elim (met c log (entries.Enter (Some a) x h words writes) run).turn [
  | inl served ↦ turn_enter c (now c log) a.0 x.0 h words writes (must (now c log)) refl (must_named (now c log) (forced_now c log)) served
  | inr breaks ↦ absurd (cc)
]

-- ---- replies

-- a reply that is told is what is told
record IsTold (told : Told) (more : List Write) (given : Answered) : Type 0 where
  pub eax : given.0.eax ≡ told.eax
  pub writes : told.writes ≡ given.0.writes ++ more

told_so : (told : Told) (more : List Write) (reply : Reply) (w : World) → is_told told more reply ≡ true → IsTold told more (reply, w)
told_so told more reply w h =
    let both = true_both (reply.eax == told.eax) (same_writes (reply.writes ++ more) told.writes) h in
    record { eax = eqb-true _ _ both.0; writes = sym (same_list _ _ both.1) }

told_given : (told : Told) (more : List Write) (reply : Reply) (w : World) (given : Answered) → told_as told more reply w ≡ Some given → IsTold told more given
told_given told more reply w given h = elim (cases_Bool (is_told told more reply)) [
  | inl is ↦ subst (IsTold told more) (the_same (is_told told more reply) is h) (told_so told more reply w is)
  | inr other ↦ absurd (none (is_told told more reply) other h)
]
  where
    the_same : (b : Bool) → b ≡ true → (Rattle.std.specs.Prelude.cond b (Some (reply, w)) None) ≡ Some given → (reply, w) ≡ given
    the_same true is h = cc
    the_same false is h = absurd (cc)

    none : (b : Bool) → b ≡ false → (Rattle.std.specs.Prelude.cond b (Some (reply, w)) None) ≡ Some given → ⊥
    none true is h = absurd (cc)
    none false is h = absurd (cc)

first_passes : (p : ℕ → Bool) (xs : List ℕ) (a : ℕ) → first (filter p xs) ≡ Some a → p a ≡ true
first_passes p [] a h = absurd (cc)
first_passes p (x ∷ xs) a h = elim (cases_Bool (p x)) [
  | inl here ↦ subst (λ (n : ℕ). p n ≡ true) (this (p x) here h) here
  | inr other ↦ first_passes p xs a (further (p x) other h)
]
  where
    this : (b : Bool) → b ≡ true → first (Rattle.std.specs.Prelude.cond b (x ∷ filter p xs) (filter p xs)) ≡ Some a → x ≡ a
    this true is h = cc
    this false is h = absurd (cc)

    further : (b : Bool) → b ≡ false → first (Rattle.std.specs.Prelude.cond b (x ∷ filter p xs) (filter p xs)) ≡ Some a → first (filter p xs) ≡ Some a
    further true is h = absurd (cc)
    further false is h = h

picked_given : (w : World) (told : Told) (more : List Write) (move : ℕ → LiveMove) (reply : ℕ → Reply) (v : ℕ → World) (a : Option ℕ) (given : Answered)
    → picked w told more move reply ≡ a → option_map (λ n. (reply n, v n)) a ≡ Some given → IsTold told more given
picked_given w told more move reply v None given is h = absurd (cc)
picked_given w told more move reply v (Some n) given is h =
    let passes = first_passes (is_picked w told more move reply) (addresses_named told.writes) n is in
    let same : (reply n, v n) ≡ given = cc in
    subst (IsTold told more) same (told_so told more (reply n) (v n) (true_both (may w.pools (move n)) (is_told told more (reply n)) passes).1)

outcome_given : (w : World) (told : Told) (more : List Write) (o : Outcome) (given : Answered) → by_outcome w told more o ≡ Some given → IsTold told more given
outcome_given w told more (Replies reply v) given h = told_given told more reply v given h
outcome_given w told more (Picks n reply v) given h = picked_given w told more (MakeBlock n) reply v _ given refl h
outcome_given w told more (PicksDescriptor kind handle reply v) given h = picked_given w told more (Allocate kind handle) reply v _ given refl h
outcome_given w told more (Breaks rule) given h = absurd (cc)
outcome_given w told more (Spins holder v) given h = absurd (cc)
outcome_given w told more (Sleeps m) given h = absurd (cc)
outcome_given w told more Synchronizes given h = absurd (cc)

wait_given : (s : State) (x : CtxNo) (told : Told) (call : Calling) (wait : Wait) (given : Answered) → answered_by s x told call wait ≡ Some given
    → IsTold told (more_written call wait) given
wait_given s x told call (OnSync (Left eax)) given h = told_given told [] (resumed call.import (eax % 256)) s.world given h
wait_given s x told call (OnSync Needed) given h = absurd (cc)
wait_given s x told call (OnSync Entered) given h = absurd (cc)
wait_given s x told call (OnClock wake) given h = told_given told [] (resumed call.import 0) s.world given h
wait_given s x told call (OnLock lock) given h = outcome_given s.world told call.writes (outcome_of s x call.import call.words) given h
wait_given s x told call Nothing given h = outcome_given s.world told call.writes (outcome_of s x call.import call.words) given h

call_given : (s : State) (x : CtxNo) (eax : ℕ) (writes : List Write) (o : Option Calling) (given : Answered) → call_at s x.0 ≡ o
    → option_and_then (λ call. answered_by s x (record { eax = eax; writes = writes }) call call.wait) o ≡ Some given → IsReply s x eax writes
call_given s x eax writes None given is h = absurd (cc)
call_given s x eax writes (Some call) given is h =
    let told = wait_given s x (record { eax = eax; writes = writes }) call call.wait given h in
    record {
      call = call;
      called = is;
      given = given;
      found = ap (option_and_then (λ k. answered_by s x (record { eax = eax; writes = writes }) k k.wait)) is ∙ h;
      answer = told.eax;
      written = told.writes;
    }

some_given : (s : State) (x : CtxNo) (eax : ℕ) (writes : List Write) (o : Option Answered) → answered s x (record { eax = eax; writes = writes }) ≡ o → is_some o ≡ true → IsReply s x eax writes
some_given s x eax writes None is h = absurd (cc)
some_given s x eax writes (Some given) is h = call_given s x eax writes (call_at s x.0) given refl is

its_own : (s : State) (y x : CtxNo) (eax : ℕ) (writes : List Write) → replies s y (entries.Reply x eax writes) ≡ true → y ≡ x
its_own s y x eax writes h = elim (cases_Bool (x.0 == y.0)) [
  | inl is ↦ let same : y.0 ≡ x.0 = sym (eqb-true x.0 y.0 is) in let number : (ℕ → CtxNo) = λ k. record { 0 = k } in ap number same
  | inr other ↦ absurd (none (x.0 == y.0) other h)
]
  where
    none : (b : Bool) → b ≡ false
        → option_map_or (λ told. is_some (answered s y told)) (Rattle.std.specs.Prelude.cond b (Some (record { eax = eax; writes = writes })) None) false ≡ true → ⊥
    none true is h = absurd (cc)
    none false is h = absurd (cc)

is_reply : (s : State) (x : CtxNo) (eax : ℕ) (writes : List Write) → replies s x (entries.Reply x eax writes) ≡ true → IsReply s x eax writes
is_reply s x eax writes h = some_given s x eax writes _ refl (given (x.0 == x.0) h)
  where
    given : (b : Bool) → option_map_or (λ told. is_some (answered s x told)) (Rattle.std.specs.Prelude.cond b (Some (record { eax = eax; writes = writes })) None) false ≡ true
        → is_some (answered s x (record { eax = eax; writes = writes })) ≡ true
    given true h = h
    given false h = absurd (cc)

due_reply : (c : Inputs) (s : State) (x : CtxNo) (eax : ℕ) (writes : List Write) (due : Due) → NamedIn s.next (Some due) → Serves c s due (entries.Reply x eax writes) → IsReply s x eax writes
due_reply c s x eax writes (ReplyOf y) named served =
    let same = its_own s y x eax writes served in
    is_reply s x eax writes (subst (λ (z : CtxNo). replies s z (entries.Reply x eax writes) ≡ true) same served)
due_reply c s x eax writes (Exactly e) (OfCall made) served = absurd (cc)
due_reply c s x eax writes (Exactly e) (OfSpin y lock spin) served = absurd (cc)
due_reply c s x eax writes (Exactly e) (OfStop why b ats next stop) served = absurd (cc)
due_reply c s x eax writes (Owes d) named served = absurd (no_reply d (true_both (serves s.owner d (entries.Reply x eax writes)) true served).0)
  where
    no_reply : (d : OwnerDue) → serves s.owner d (entries.Reply x eax writes) ≡ true → ⊥
    no_reply (Completes fresh k status) h = absurd (cc)
    no_reply _ h = absurd (cc)

turn_reply : (c : Inputs) (s : State) (x : CtxNo) (eax : ℕ) (writes : List Write) (d : Option Due) → NamedIn s.next d
    → MatchOption d (freely c s (entries.Reply x eax writes) ≡ true) (λ due. Serves c s due (entries.Reply x eax writes)) → IsReply s x eax writes
turn_reply c s x eax writes None named free = is_reply s x eax writes (true_both (has_waited s x) (replies s x (entries.Reply x eax writes)) free).1
turn_reply c s x eax writes (Some due) named served = due_reply c s x eax writes due named served

pub answers : (c : Inputs) (log : List Entry) (x : CtxNo) (eax : ℕ) (writes : List Write) → Run c (log ++ entries.Reply x eax writes ∷ []) → IsReply (now c log) x eax writes
answers c log x eax writes run = elim (met c log (entries.Reply x eax writes) run).turn [
  | inl served ↦ turn_reply c (now c log) x eax writes (must (now c log)) (must_named (now c log) (forced_now c log)) served
  | inr breaks ↦ absurd (cc)
]
