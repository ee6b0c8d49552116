-- What holds of the world, and behind whatever an import answers, holds behind the reply of an open call, and behind a spin.
use Rattle.std.proofs.Common.{ℕ, Bool, true, false, cond, ◌%◌, List, [], Option, Some, None}
use Rattle.std.specs.Prelude.{⊤}
use Rattle.std.specs.Option.{option_map, option_and_then}
use Rattle.nd_base.specs.declared.numbers.CtxNo.{CtxNo}
use Rattle.log_fields.specs.declared.write.Write.{Write}
use Rattle.import_table.specs.Table.{row_of}
use Rattle.guest_world.specs.declared.answer.Reply.{Reply}
use Rattle.guest_world.specs.declared.world.World.{World}
use Rattle.import_answers.specs.Outcomes.{Outcome, Replies, Picks, PicksDescriptor, Spins, Breaks, Sleeps, Synchronizes, resumed}
use Rattle.legal_run.specs.State.{State, Wait, Nothing, OnLock, OnClock, OnSync, Needed, Entered, Left, Calling, adapter_of, call_at, caller}
use Rattle.legal_run.specs.Calls.{outcome_of}
use Rattle.legal_run.specs.Replies.{Answered, Told, answered, answered_by, by_outcome, told_as, is_told}
use Rattle.legal_run.specs.After.{world_spinning}
use Rattle.run_facts.proofs.StaysOpen.{Keeps, KeepsIn, outcome_keeps}

abbrev pub Holds : Type 1
Holds = World → Type 0

abbrev pub AnswerHas : Holds → Option Answered → Type 0
AnswerHas P None = ⊤
AnswerHas P (Some given) = P given.1

-- what an import's call leaves has it
abbrev pub CallsHave : Holds → State → CtxNo → Type 0
CallsHave P s x = (v : World) → Keeps (adapter_of s x.0) s.world v → P v

told_has : (P : Holds) (told : Told) (more : List Write) (reply : Reply) (w : World) → P w → AnswerHas P (told_as told more reply w)
told_has P told more reply w h = by_test (is_told told more reply)
  where
    by_test : (b : Bool) → AnswerHas P (cond b (Some (reply, w)) None)
    by_test true = h
    by_test false = tt

picked_has : (P : Holds) (reply : ℕ → Reply) (w : ℕ → World) (o : Option ℕ) → ((a : ℕ) → P (w a)) → AnswerHas P (option_map (λ a. (reply a, w a)) o)
picked_has P reply w None h = tt
picked_has P reply w (Some a) h = h a

outcome_has : (P : Holds) (s : State) (x : CtxNo) (told : Told) (more : List Write) (o : Outcome) → CallsHave P s x → KeepsIn (adapter_of s x.0) s.world o → AnswerHas P (by_outcome s.world told more o)
outcome_has P s x told more (Replies reply w) have h = told_has P told more reply w (have w h)
outcome_has P s x told more (Picks n reply w) have h = picked_has P reply w _ (λ a. have (w a) (h a))
outcome_has P s x told more (PicksDescriptor kind handle reply w) have h = picked_has P reply w _ (λ a. have (w a) (h a))
outcome_has P s x told more (Breaks rule) have h = tt
outcome_has P s x told more (Spins holder w) have h = tt
outcome_has P s x told more (Sleeps moment) have h = tt
outcome_has P s x told more Synchronizes have h = tt

row_keeps : (s : State) (x : CtxNo) (import : ℕ) (words : List ℕ) → KeepsIn (adapter_of s x.0) s.world (outcome_of s x import words)
row_keeps s x import words = outcome_keeps s.world (caller s x) (row_of import) words

wait_has : (P : Holds) (s : State) (x : CtxNo) (told : Told) (call : Calling) (w : Wait) → CallsHave P s x → P s.world → AnswerHas P (answered_by s x told call w)
wait_has P s x told call (OnSync (Left eax)) have h = told_has P told [] (resumed call.import (eax % 256)) s.world h
wait_has P s x told call (OnSync Needed) have h = tt
wait_has P s x told call (OnSync Entered) have h = tt
wait_has P s x told call (OnClock wake) have h = told_has P told [] (resumed call.import 0) s.world h
wait_has P s x told call Nothing have h = outcome_has P s x told call.writes _ have (row_keeps s x call.import call.words)
wait_has P s x told call (OnLock lock) have h = outcome_has P s x told call.writes _ have (row_keeps s x call.import call.words)

pub answer_has : (P : Holds) (s : State) (x : CtxNo) (told : Told) → CallsHave P s x → P s.world → AnswerHas P (answered s x told)
answer_has P s x told have h = by_call (call_at s x.0)
  where
    by_call : (m : Option Calling) → AnswerHas P (option_and_then (λ call. answered_by s x told call call.wait) m)
    by_call None = tt
    by_call (Some call) = wait_has P s x told call call.wait have h

spins_have : (P : Holds) (s : State) (x : CtxNo) (o : Outcome) → CallsHave P s x → KeepsIn (adapter_of s x.0) s.world o → P s.world → P (world_spinning s.world o)
spins_have P s x (Spins holder w) have is h = have w is
spins_have P s x (Breaks rule) have is h = h
spins_have P s x (Replies reply w) have is h = h
spins_have P s x (Picks n reply w) have is h = h
spins_have P s x (PicksDescriptor kind handle reply w) have is h = h
spins_have P s x (Sleeps moment) have is h = h
spins_have P s x Synchronizes have is h = h

pub spinning_has : (P : Holds) (s : State) (x : CtxNo) (call : Calling) → CallsHave P s x → P s.world → P (world_spinning s.world (outcome_of s x call.import call.words))
spinning_has P s x call have h = spins_have P s x _ have (row_keeps s x call.import call.words) h
