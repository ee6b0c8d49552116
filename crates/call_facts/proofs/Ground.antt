-- What every answered call keeps of the world is the same in an answer to an open call, and behind a spin.
use Rattle.std.proofs.Common.{◌≡◌, ℕ, ◌%◌, Bool, true, false, cond, List, [], ◌∷◌, Option, Some, None, Ok, refl, sym, subst}
use Rattle.std.specs.Prelude.{⊤, ◌&&◌, filter}
use Rattle.std.specs.Option.{option_map, option_and_then}
use Rattle.nd_base.specs.declared.numbers.CtxNo.{CtxNo}
use Rattle.packet_pool.specs.LiveMoves.{LiveMove, MakeBlock, Allocate, may}
use Rattle.log_fields.specs.declared.write.Write.{Write}
use Rattle.import_table.specs.Table.{Row, row_of}
use Rattle.guest_world.specs.declared.answer.Answer.{Answer}
use Rattle.guest_world.specs.declared.answer.Answer.TheVariants.{Now, Spin}
use Rattle.guest_world.specs.declared.answer.Caller.{Caller}
use Rattle.guest_world.specs.declared.answer.Reply.{Reply}
use Rattle.guest_world.specs.declared.world.World.{World}
use Rattle.import_answers.specs.Answers.{outcome as row_outcome}
use Rattle.import_answers.specs.Outcomes.{Outcome, Replies, Picks, PicksDescriptor, Spins, Breaks, Sleeps, Synchronizes, Comes, resumed}
use Rattle.legal_run.specs.State.{State, Wait, Nothing, OnLock, OnClock, OnSync, Needed, Entered, Left, Calling, call_at, caller}
use Rattle.legal_run.specs.Owed.{first}
use Rattle.legal_run.specs.Calls.{outcome_of}
use Rattle.legal_run.specs.Replies.{Answered, Told, answered, answered_by, by_outcome, told_as, is_told, is_picked, picked}
use Rattle.legal_run.specs.After.{world_spinning}

-- ---- answers

-- what an answered call keeps of the world
abbrev pub CallsSame : {A : Type 0} → (World → A) → Type 0
CallsSame f = (w v : World) (x : Caller) (row : Row) (words : List ℕ) (answer : Answer) → Comes (row_outcome w x row words) w (Ok answer) v → f v ≡ f w

abbrev pub AnswerHas : {A : Type 0} → (World → A) → State → Option Answered → Type 0
AnswerHas f s None = ⊤
AnswerHas f s (Some given) = f given.1 ≡ f s.world

told_has : {A : Type 0} (f : World → A) (s : State) (told : Told) (more : List Write) (reply : Reply) (w : World) → f w ≡ f s.world → AnswerHas f s (told_as told more reply w)
told_has f s told more reply w h = by_test (is_told told more reply)
  where
    by_test : (b : Bool) → AnswerHas f s (cond b (Some (reply, w)) None)
    by_test true = h
    by_test false = tt

true_both : (a b : Bool) → (a && b) ≡ true → a ≡ true
true_both true b h = refl
true_both false b h = absurd (cc)

pub first_passes : (p : ℕ → Bool) (xs : List ℕ) (a : ℕ) → first (filter p xs) ≡ Some a → p a ≡ true
first_passes p [] a h = absurd (cc)
first_passes p (x ∷ xs) a h = by_test (p x) refl h (first_passes p xs a)
  where
    by_test : (t : Bool) → p x ≡ t → first (cond t (x ∷ filter p xs) (filter p xs)) ≡ Some a → (first (filter p xs) ≡ Some a → p a ≡ true) → p a ≡ true
    by_test true is h more = let here : x ≡ a = cc in subst (λ (k : ℕ). p k ≡ true) here is
    by_test false is h more = more h

may_pick : (w : World) (told : Told) (more : List Write) (move : ℕ → LiveMove) (reply : ℕ → Reply) (a : ℕ) → picked w told more move reply ≡ Some a → may w.pools (move a) ≡ true
may_pick w told more move reply a h = true_both (may w.pools (move a)) (is_told told more (reply a)) (first_passes (is_picked w told more move reply) _ a h)

picked_has : {A : Type 0} (f : World → A) (s : State) (reply : ℕ → Reply) (v : ℕ → World) (o : Option ℕ) → ((a : ℕ) → o ≡ Some a → f (v a) ≡ f s.world) → AnswerHas f s (option_map (λ a. (reply a, v a)) o)
picked_has f s reply v None h = tt
picked_has f s reply v (Some a) h = h a refl

outcome_has : {A : Type 0} (f : World → A) → CallsSame f → (s : State) (x : CtxNo) (told : Told) (more : List Write) (import : ℕ) (words : List ℕ) (o : Outcome) → outcome_of s x import words ≡ o
    → AnswerHas f s (by_outcome s.world told more o)
outcome_has f keep s x told more import words (Replies reply w) is =
    told_has f s told more reply w
    (keep s.world w (caller s x) (row_of import) words (Now reply) (subst (λ (o : Outcome). Comes o s.world (Ok (Now reply)) w) (sym is) (refl, refl)))
outcome_has f keep s x told more import words (Picks n reply v) is =
    picked_has f s reply v (picked s.world told more (MakeBlock n) reply)
    (λ a found. (keep s.world (v a) (caller s x) (row_of import) words (Now (reply a))
    (subst (λ (o : Outcome). Comes o s.world (Ok (Now (reply a))) (v a)) (sym is) (a, may_pick s.world told more (MakeBlock n) reply a found, refl, refl))))
outcome_has f keep s x told more import words (PicksDescriptor kind handle reply v) is =
    picked_has f s reply v (picked s.world told more (Allocate kind handle) reply)
    (λ a found. (keep s.world (v a) (caller s x) (row_of import) words (Now (reply a))
    (subst (λ (o : Outcome). Comes o s.world (Ok (Now (reply a))) (v a)) (sym is) (a, may_pick s.world told more (Allocate kind handle) reply a found, refl, refl))))
outcome_has f keep s x told more import words (Breaks rule) is = tt
outcome_has f keep s x told more import words (Spins holder w) is = tt
outcome_has f keep s x told more import words (Sleeps moment) is = tt
outcome_has f keep s x told more import words Synchronizes is = tt

waited_has : {A : Type 0} (f : World → A) → CallsSame f → (s : State) (x : CtxNo) (told : Told) (call : Calling) (w : Wait) → AnswerHas f s (answered_by s x told call w)
waited_has f keep s x told call (OnSync (Left eax)) = told_has f s told [] (resumed call.import (eax % 256)) s.world refl
waited_has f keep s x told call (OnSync Needed) = tt
waited_has f keep s x told call (OnSync Entered) = tt
waited_has f keep s x told call (OnClock wake) = told_has f s told [] (resumed call.import 0) s.world refl
waited_has f keep s x told call Nothing = outcome_has f keep s x told call.writes call.import call.words _ refl
waited_has f keep s x told call (OnLock lock) = outcome_has f keep s x told call.writes call.import call.words _ refl

pub answer_has : {A : Type 0} (f : World → A) → CallsSame f → (s : State) (x : CtxNo) (told : Told) → AnswerHas f s (answered s x told)
answer_has f keep s x told = by_call (call_at s x.0)
  where
    by_call : (m : Option Calling) → AnswerHas f s (option_and_then (λ call. answered_by s x told call call.wait) m)
    by_call None = tt
    by_call (Some call) = waited_has f keep s x told call call.wait

-- ---- spins

pub spinning_has : {A : Type 0} (f : World → A) → CallsSame f → (s : State) (x : CtxNo) (import : ℕ) (words : List ℕ) (o : Outcome) → outcome_of s x import words ≡ o → f (world_spinning s.world o) ≡ f s.world
spinning_has f keep s x import words (Spins holder w) is =
    (keep s.world w (caller s x) (row_of import) words (Spin holder) (subst (λ (o : Outcome). Comes o s.world (Ok (Spin holder)) w) (sym is) (refl, refl)))
spinning_has f keep s x import words (Breaks rule) is = refl
spinning_has f keep s x import words (Replies reply w) is = refl
spinning_has f keep s x import words (Picks n reply w) is = refl
spinning_has f keep s x import words (PicksDescriptor kind handle reply w) is = refl
spinning_has f keep s x import words (Sleeps moment) is = refl
spinning_has f keep s x import words Synchronizes is = refl
