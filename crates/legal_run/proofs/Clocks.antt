-- The clock is the last `time` and all charges since, and does not fall.
use Rattle.std.proofs.Common.{◌≡◌, ℕ, ◌+◌, ◌%◌, Bool, true, false, cond, ◌==◌, List, [], ◌∷◌, refl, ap, ◌∙◌, Option, Some, None, arith}
use Rattle.std.specs.Option.{MatchOption, option_map, option_map_or}
use Rattle.nd_base.specs.declared.numbers.AdapterNo.{AdapterNo}
use Rattle.nd_base.specs.declared.numbers.BindingNo.{BindingNo}
use Rattle.nd_base.specs.declared.numbers.CtxNo.{CtxNo}
use Rattle.nd_mem.specs.Space.{address}
use Rattle.irql_lock.specs.LockMoves.{End}
use Rattle.import_table.specs.Table.{row_of}
use Rattle.dpc_timer.specs.ClockState.{ClockState, Cancel, moved}
use Rattle.log_fields.specs.declared.write.Write.{Write}
use Rattle.log_fields.specs.declared.field_values.Handler.{Handler}
use Rattle.log_fields.specs.declared.field_values.Handler.TheVariants as handler
use Rattle.call_log.specs.declared.entry.Entry.{Entry}
use Rattle.call_log.specs.declared.entry.Entry.TheVariants as entries
use Rattle.guest_world.specs.declared.world.World.{World}
use Rattle.guest_world.specs.declared.answer.Reply.{Reply}
use Rattle.import_answers.specs.Statuses.{success}
use Rattle.import_answers.specs.Outcomes.{Outcome, Breaks, Replies, Picks, PicksDescriptor, Spins, Sleeps, Synchronizes, resumed}
use Rattle.legal_run.specs.State.{Inputs, State, Wait, Nothing, OnLock, OnClock, OnSync, Stage, Left, Calling, clock, call_at, adapter_of, has_handler, alive, handler_of, caller}
use Rattle.legal_run.specs.Calls.{leaves, outcome_of}
use Rattle.legal_run.specs.Replies.{Answered, Told, told_as, by_outcome, answered_by, answered}
use Rattle.legal_run.specs.After.{after, effect, framed, all_spoke, charge_to, with_wait, with_world, taken, fired, cancelled, quiet_if_off, quieted, left_row, left, replied, world_spinning, spun, all_ended, leveled, is_breaking, recognized, cost_of}
use Rattle.legal_run.specs.Run.{clock_behind}
use Rattle.legal_run.proofs.Keeps.{KeepsIn, outcome_keeps}

-- a world's moment
abbrev moment : World → ℕ
moment w = w.clock.clock

-- ---- what the rows do to it

framed_world : (s : State) (bs : List BindingNo) → (framed s bs).world ≡ s.world
unfolding framed
framed_world s [] = refl
framed_world s (b ∷ bs) = framed_world _ bs

spoke_world : (s : State) (bs : List ℕ) → (all_spoke s bs).world ≡ s.world
unfolding all_spoke
spoke_world s [] = refl
spoke_world s (b ∷ bs) = spoke_world _ bs

ended_moment : (w : World) (xs : List ℕ) → moment (all_ended w xs) ≡ moment w
unfolding all_ended
ended_moment w [] = refl
ended_moment w (x ∷ xs) = ended_moment (leveled w (End (record { 0 = x }))) xs

cancelled_clock : (k : ClockState) (ts : List ℕ) → (cancelled k ts).clock ≡ k.clock
unfolding cancelled
cancelled_clock k [] = refl
cancelled_clock k (t ∷ ts) = cancelled_clock (moved k (Cancel (address t))) ts

quiet_moment : (s : State) (w : World) (a : Option AdapterNo) → moment (quiet_if_off s w a) ≡ moment w
quiet_moment s w None = refl
quiet_moment s w (Some a) = pick (alive s a.0) w (quieted s w a.0) refl (cancelled_clock w.clock _)
  where
    pick : (b : Bool) (u v : World) {n : ℕ} → moment u ≡ n → moment v ≡ n → moment (cond b u v) ≡ n
    pick true u v one other = one
    pick false u v one other = other

wait_world : (s : State) (x : Option ℕ) (w : Wait) → (with_wait s x w).world ≡ s.world
wait_world s None w = refl
wait_world s (Some x) w = refl

fired_moment : (w : World) (t : Option ℕ) → moment (fired w t) ≡ moment w
fired_moment w None = refl
fired_moment w (Some t) = refl

taken_moment : (s : State) (a : ℕ) (h : Handler) (words : List ℕ) (writes : List Write) → clock (taken s a h words writes) ≡ clock s
taken_moment s a handler.Timer words writes = fired_moment s.world _
taken_moment s a handler.Sync words writes = ap moment (wait_world s _ _)
taken_moment s a _ words writes = refl

either_moment : (b : Bool) (x y : State) (n : ℕ) → clock x ≡ n → clock y ≡ n → clock (cond b x y) ≡ n
either_moment true x y n one other = one
either_moment false x y n one other = other

left_moment : (c : Inputs) (s : State) (a : ℕ) (x : CtxNo) (eax : ℕ) (h : Handler) → clock (left_row c s a x eax h) ≡ clock s
left_moment c s a x eax handler.Initialize = either_moment (eax == success) _ _ _ refl (cancelled_clock s.world.clock _)
left_moment c s a x eax handler.Halt = cancelled_clock s.world.clock _
left_moment c s a x eax handler.Shutdown = cancelled_clock s.world.clock _
left_moment c s a x eax handler.Isr = either_moment (recognized s x) _ _ _ refl refl
left_moment c s a x eax handler.HandleInterrupt = either_moment (has_handler s handler.EnableInterrupt) _ _ _ refl refl
left_moment c s a x eax handler.Sync = ap moment (wait_world s _ _)
left_moment c s a x eax _ = refl

charged_moment : (s : State) (who : Option AdapterNo) (n : ℕ) → clock (charge_to s who n) ≡ clock s + n
charged_moment s None n = refl
charged_moment s (Some b) n = refl

-- ---- the world behind a reply

abbrev AnswerKeeps : World → Option Answered → Type 0
AnswerKeeps w None = Unit {0}
AnswerKeeps w (Some given) = moment given.1 ≡ moment w

told_keeps : (w : World) (told : Told) (more : List Write) (reply : Reply) (v : World) → moment v ≡ moment w → AnswerKeeps w (told_as told more reply v)
told_keeps w told more reply v h = pick (Rattle.legal_run.specs.Replies.is_told told more reply)
  where
    pick : (b : Bool) → AnswerKeeps w (cond b (Some (reply, v)) None)
    pick true = h
    pick false = tt

picked_keeps : (w : World) (a : Option ℕ) (reply : ℕ → Reply) (v : ℕ → World) → ((n : ℕ) → moment (v n) ≡ moment w) → AnswerKeeps w (option_map (λ n. (reply n, v n)) a)
picked_keeps w None reply v h = tt
picked_keeps w (Some n) reply v h = h n

outcome_moment : (w : World) (told : Told) (more : List Write) (o : Outcome) → KeepsIn w o → AnswerKeeps w (by_outcome w told more o)
outcome_moment w told more (Replies reply v) h = told_keeps w told more reply v h.moment
outcome_moment w told more (Picks n reply v) h = picked_keeps w _ reply v (λ a. (h a).moment)
outcome_moment w told more (PicksDescriptor kind handle reply v) h = picked_keeps w _ reply v (λ a. (h a).moment)
outcome_moment w told more (Breaks rule) h = tt
outcome_moment w told more (Spins holder v) h = tt
outcome_moment w told more (Sleeps m) h = tt
outcome_moment w told more Synchronizes h = tt

row_moment : (s : State) (x : CtxNo) (told : Told) (call : Calling) → AnswerKeeps s.world (by_outcome s.world told call.writes (outcome_of s x call.import call.words))
row_moment s x told call = outcome_moment s.world told call.writes _ (outcome_keeps s.world (caller s x) (row_of call.import) call.words)

by_moment : (s : State) (x : CtxNo) (told : Told) (call : Calling) (wait : Wait) → AnswerKeeps s.world (answered_by s x told call wait)
by_moment s x told call (OnSync (Left eax)) = told_keeps s.world told [] (resumed call.import (eax % 256)) s.world refl
by_moment s x told call (OnSync Rattle.legal_run.specs.State.Needed) = tt
by_moment s x told call (OnSync Rattle.legal_run.specs.State.Entered) = tt
by_moment s x told call (OnClock wake) = told_keeps s.world told [] (resumed call.import 0) s.world refl
by_moment s x told call (OnLock lock) = row_moment s x told call
by_moment s x told call Nothing = row_moment s x told call

call_moment : (s : State) (x : CtxNo) (told : Told) (call : Option Calling) → AnswerKeeps s.world (Rattle.std.specs.Option.option_and_then (λ k. answered_by s x told k k.wait) call)
call_moment s x told None = tt
call_moment s x told (Some call) = by_moment s x told call call.wait

replied_moment : (s : State) (x : CtxNo) (told : Told) (answer : Option Answered) → AnswerKeeps s.world answer → clock (replied s x told answer) ≡ clock s + option_map_or (λ given. given.0.cost) answer 0
replied_moment s x told None h = omega arith
replied_moment s x told (Some given) h = charged_moment _ (adapter_of s x.0) given.0.cost ∙ ap (λ n. n + given.0.cost) (quiet_moment s _ (adapter_of s x.0) ∙ h)

spun_moment : (s : State) (x : CtxNo) (call : Option Calling) → clock (spun s x call) ≡ clock s
spun_moment s x None = refl
spun_moment s x (Some call) = of_outcome (outcome_of s x call.import call.words) (outcome_keeps s.world (caller s x) (row_of call.import) call.words)
  where
    of_outcome : (o : Outcome) → KeepsIn s.world o → moment (world_spinning s.world o) ≡ moment s.world
    of_outcome (Spins holder v) h = h.moment
    of_outcome (Breaks rule) h = refl
    of_outcome (Replies reply v) h = refl
    of_outcome (Picks n reply v) h = refl
    of_outcome (PicksDescriptor kind handle reply v) h = refl
    of_outcome (Sleeps m) h = refl
    of_outcome Synchronizes h = refl

-- ---- the table

plus_none : (m n : ℕ) → m ≡ n → m ≡ n + 0
plus_none m n h = h ∙ omega arith

pub effect_moment : (c : Inputs) (s : State) (e : Entry) → clock (effect c s e) ≡ clock_behind s e
effect_moment c s (entries.Time m) = refl
effect_moment c s (entries.Indicate a j bytes holders copied) = plus_none _ _ (lent_moment (Rattle.legal_run.specs.Calls.stays_home s a.0 _ copied))
  where
    lent_moment : (b : Bool) → moment (cond b (framed s holders).world (Rattle.legal_run.specs.After.pooled (framed s holders).world (Rattle.packet_pool.specs.LiveMoves.Lend (Rattle.legal_run.specs.After.lends s.next)))) ≡ clock s
    lent_moment true = ap moment (framed_world s holders)
    lent_moment false = ap moment (framed_world s holders)
effect_moment c s (entries.Enter a x h words writes) = plus_none _ _ (taken_moment s _ h words writes)
effect_moment c s (entries.Leave x eax) = plus_none _ _ (either_moment (is_breaking (leaves c s x eax)) _ _ _ refl (left_moment c s _ x eax (handler_of s x.0)))
effect_moment c s (entries.Turn x n) = charged_moment _ (adapter_of s x.0) n
effect_moment c s (entries.Reply x eax writes) = let told : Told = record { eax = eax; writes = writes } in replied_moment s x told (answered s x told) (call_moment s x told (call_at s x.0))
effect_moment c s (entries.Spin x lock) = plus_none _ _ (spun_moment s x _)
effect_moment c s (entries.Stop a cause) = plus_none _ _ (ended_moment _ _ ∙ cancelled_clock s.world.clock _)
effect_moment c s _ = omega arith
