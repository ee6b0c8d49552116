-- What an entry does to the pools and to what was lent.
use Rattle.std.proofs.Common.{◌≡◌, ℕ, ◌%◌, Bool, true, false, cond, ◌==◌, List, [], ◌∷◌, Option, Some, None, refl, sym, ap, ◌∙◌, subst, slice_get}
use Rattle.std.specs.Prelude.{⊤, filter}
use Rattle.std.specs.Option.{option_map, option_and_then}
use Rattle.std.proofs.lemmas.Bool.{and_parts}
use Rattle.nd_base.specs.declared.numbers.AdapterNo.{AdapterNo}
use Rattle.nd_base.specs.declared.numbers.BindingNo.{BindingNo}
use Rattle.nd_base.specs.declared.numbers.CtxNo.{CtxNo}
use Rattle.irql_lock.specs.LockMoves.{End}
use Rattle.packet_pool.specs.LiveSet.{LiveSet}
use Rattle.packet_pool.specs.LiveMoves.{LiveMove, Allocate, MakeBlock, may}
use Rattle.log_fields.specs.declared.write.Write.{Write}
use Rattle.log_fields.specs.declared.field_values.Handler.{Handler}
use Rattle.log_fields.specs.declared.field_values.Handler.TheVariants as handler
use Rattle.guest_world.specs.declared.answer.Reply.{Reply}
use Rattle.guest_world.specs.declared.world.World.{World}
use Rattle.import_answers.specs.Outcomes.{Outcome, Replies, Picks, PicksDescriptor, Spins, Breaks, Sleeps, Synchronizes, resumed}
use Rattle.import_answers.specs.Statuses.{success}
use Rattle.import_table.specs.Table.{row_of}
use Rattle.legal_run.specs.State.{Inputs, State, Wait, Nothing, OnLock, OnClock, OnSync, Needed, Entered, Left, Calling, adapter_of, alive, call_at, caller, cells, context_at, has_handler}
use Rattle.legal_run.specs.Guest.{with_writes}
use Rattle.legal_run.specs.Calls.{outcome_of}
use Rattle.legal_run.specs.Replies.{Answered, Told, addresses_named, answered, answered_by, by_outcome, told_as, is_told, is_picked, picked, returned}
use Rattle.legal_run.specs.After.{framed, all_spoke, all_ended, charge_to, with_wait, taken, fired, left_row, leveled, quiet_if_off, quieted, replied, spun, world_spinning, recognized, gone_on, turned, machine_of, import_of, with_context, with_world}
use Rattle.loan_facts.proofs.Pools.{KeepsLoans, unmoved}
use Rattle.loan_facts.proofs.Rows.{KeepsIn, outcome_keeps}

-- pools and what was lent are as they were
pub record Same (t s : State) : Type 0 where
  pub lent : t.lent ≡ s.lent
  pub pools : t.world.pools ≡ s.world.pools

pub framed_world : (s : State) (bs : List BindingNo) → (framed s bs).world ≡ s.world
unfolding framed
framed_world s [] = refl
framed_world s (b ∷ bs) = framed_world _ bs

pub spoke_lent : (s : State) (bs : List ℕ) → (all_spoke s bs).lent ≡ s.lent
unfolding all_spoke
spoke_lent s [] = refl
spoke_lent s (b ∷ bs) = spoke_lent _ bs

pub ended_pools : (w : World) (xs : List ℕ) → (all_ended w xs).pools ≡ w.pools
unfolding all_ended
ended_pools w [] = refl
ended_pools w (x ∷ xs) = ended_pools (leveled w (End (record { 0 = x }))) xs

wait_same : (s : State) (x : Option ℕ) (w : Wait) → Same (with_wait s x w) s
wait_same s None w = record { lent = refl; pools = refl }
wait_same s (Some x) w = record { lent = refl; pools = refl }

fired_pools : (w : World) (t : Option ℕ) → (fired w t).pools ≡ w.pools
fired_pools w None = refl
fired_pools w (Some t) = refl

pub taken_same : (s : State) (a : ℕ) (h : Handler) (words : List ℕ) (writes : List Write) → Same (taken s a h words writes) s
taken_same s a handler.Sync words writes = wait_same s _ _
taken_same s a handler.Timer words writes = record { lent = refl; pools = fired_pools s.world _ }
taken_same s a _ words writes = record { lent = refl; pools = refl }

either_same : (b : Bool) (t u s : State) → Same t s → Same u s → Same (cond b t u) s
either_same true t u s one other = one
either_same false t u s one other = other

pub left_same : (c : Inputs) (s : State) (a : ℕ) (x : CtxNo) (eax : ℕ) (h : Handler) → Same (left_row c s a x eax h) s
left_same c s a x eax handler.Initialize = either_same (eax == success) _ _ s (record { lent = refl; pools = refl }) (record { lent = refl; pools = refl })
left_same c s a x eax handler.Isr = either_same (recognized s x) _ _ s (record { lent = refl; pools = refl }) (record { lent = refl; pools = refl })
left_same c s a x eax handler.HandleInterrupt =
    either_same (has_handler s handler.EnableInterrupt) _ _ s (record { lent = refl; pools = refl }) (record { lent = refl; pools = refl })
left_same c s a x eax handler.Sync = wait_same s _ _
left_same c s a x eax _ = record { lent = refl; pools = refl }

charged_same : (s : State) (who : Option AdapterNo) (n : ℕ) → Same (charge_to s who n) s
charged_same s None n = record { lent = refl; pools = refl }
charged_same s (Some a) n = record { lent = refl; pools = refl }

quiet_pools : (s : State) (w : World) (a : Option AdapterNo) → (quiet_if_off s w a).pools ≡ w.pools
quiet_pools s w None = refl
quiet_pools s w (Some a) = by_test (alive s a.0)
  where
    by_test : (b : Bool) → (cond b w (quieted s w a.0)).pools ≡ w.pools
    by_test true = refl
    by_test false = refl

abbrev turned_state : State → CtxNo → ℕ → State
turned_state s x n =
    with_context (with_world s (record s.world { memory = (turned n (machine_of s x)).memory })) x.0 (record (context_at s x.0) { registers = (turned n (machine_of s x)).registers })

pub turned_same : (s : State) (x : CtxNo) (n : ℕ) → Same (gone_on s x n) s
turned_same s x n = let same = charged_same (turned_state s x n) (adapter_of s x.0) n in record { lent = same.lent; pools = same.pools }

-- ---- replies

abbrev AnswerKeeps : State → Option Answered → Type 0
AnswerKeeps s None = ⊤
AnswerKeeps s (Some given) = KeepsLoans s.world.pools given.1.pools

told_keeps : (s : State) (told : Told) (more : List Write) (reply : Reply) (w : World) → KeepsLoans s.world.pools w.pools → AnswerKeeps s (told_as told more reply w)
told_keeps s told more reply w h = by_test (is_told told more reply)
  where
    by_test : (b : Bool) → AnswerKeeps s (cond b (Some (reply, w)) None)
    by_test true = h
    by_test false = tt

-- an address that is picked may be picked
same_some : (x y : ℕ) → Some x ≡ Some y → x ≡ y
same_some x y h = cc

passes : (p : ℕ → Bool) (xs : List ℕ) (a : ℕ) → slice_get (filter p xs) 0 ≡ Some a → p a ≡ true
passes p [] a found = absurd (cc)
passes p (x ∷ xs) a found = by_test (p x) refl found (λ behind. passes p xs a behind)
  where
    by_test : (b : Bool) → p x ≡ b → slice_get (cond b (x ∷ filter p xs) (filter p xs)) 0 ≡ Some a → (slice_get (filter p xs) 0 ≡ Some a → p a ≡ true) → p a ≡ true
    by_test true is here more = ap p (sym (same_some x a here)) ∙ is
    by_test false is here more = more here

may_pick : (w : World) (told : Told) (more : List Write) (move : ℕ → LiveMove) (reply : ℕ → Reply) (a : ℕ) → picked w told more move reply ≡ Some a → may w.pools (move a) ≡ true
may_pick w told more move reply a found = (and_parts (may w.pools (move a)) (is_told told more (reply a)) (passes (is_picked w told more move reply) (addresses_named told.writes) a found)).0

picked_keeps : (s : State) (reply : ℕ → Reply) (w : ℕ → World) (o : Option ℕ) → ((a : ℕ) → o ≡ Some a → KeepsLoans s.world.pools (w a).pools) → AnswerKeeps s (option_map (λ a. (reply a, w a)) o)
picked_keeps s reply w None h = tt
picked_keeps s reply w (Some a) h = h a refl

outcome_answers : (s : State) (told : Told) (more : List Write) (o : Outcome) → KeepsIn s.world o → AnswerKeeps s (by_outcome s.world told more o)
outcome_answers s told more (Replies reply w) h = told_keeps s told more reply w h
outcome_answers s told more (Picks n reply w) h = picked_keeps s reply w (picked s.world told more (MakeBlock n) reply) (λ a found. h a)
outcome_answers s told more (PicksDescriptor kind handle reply w) h =
    picked_keeps s reply w (picked s.world told more (Allocate kind handle) reply) (λ a found. h a (may_pick s.world told more (Allocate kind handle) reply a found))
outcome_answers s told more (Breaks rule) h = tt
outcome_answers s told more (Spins holder w) h = tt
outcome_answers s told more (Sleeps moment) h = tt
outcome_answers s told more Synchronizes h = tt

row_keeps : (s : State) (x : CtxNo) (import : ℕ) (words : List ℕ) → KeepsIn s.world (outcome_of s x import words)
row_keeps s x import words = outcome_keeps s.world (caller s x) (row_of import) words

wait_answers : (s : State) (x : CtxNo) (told : Told) (call : Calling) (w : Wait) → AnswerKeeps s (answered_by s x told call w)
wait_answers s x told call (OnSync (Left eax)) = told_keeps s told [] (resumed call.import (eax % 256)) s.world (unmoved s.world.pools)
wait_answers s x told call (OnSync Needed) = tt
wait_answers s x told call (OnSync Entered) = tt
wait_answers s x told call (OnClock wake) = told_keeps s told [] (resumed call.import 0) s.world (unmoved s.world.pools)
wait_answers s x told call Nothing = outcome_answers s told call.writes (outcome_of s x call.import call.words) (row_keeps s x call.import call.words)
wait_answers s x told call (OnLock lock) = outcome_answers s told call.writes (outcome_of s x call.import call.words) (row_keeps s x call.import call.words)

answer_keeps : (s : State) (x : CtxNo) (told : Told) → AnswerKeeps s (answered s x told)
answer_keeps s x told = by_call (call_at s x.0)
  where
    by_call : (m : Option Calling) → AnswerKeeps s (option_and_then (λ call. answered_by s x told call call.wait) m)
    by_call None = tt
    by_call (Some call) = wait_answers s x told call call.wait

-- what a reply leaves
pub record Keeps (t s : State) : Type 0 where
  pub lent : t.lent ≡ s.lent
  pub pools : KeepsLoans s.world.pools t.world.pools

keeps_as : (p q r : LiveSet) → r ≡ q → KeepsLoans p q → KeepsLoans p r
keeps_as p q r is h = subst (KeepsLoans p) (sym is) h

abbrev written_world : Told → Answered → World
written_world told given = record given.1 { memory = with_writes given.1.memory told.writes }

-- a reply but for what it is charged
abbrev replied_state : State → CtxNo → Told → Answered → State
replied_state s x told given =
    with_context (with_world s (quiet_if_off s (written_world told given) (adapter_of s x.0))) x.0
    (record (context_at s x.0) { registers = returned (cells s) (context_at s x.0).registers (row_of (import_of s x)) told.eax; call = None })

replied_as : (s : State) (x : CtxNo) (told : Told) (answer : Option Answered) → AnswerKeeps s answer → Keeps (replied s x told answer) s
replied_as s x told None h = record { lent = refl; pools = unmoved s.world.pools }
replied_as s x told (Some given) h =
    let same = charged_same (replied_state s x told given) (adapter_of s x.0) given.0.cost in
    record { lent = same.lent; pools = keeps_as s.world.pools given.1.pools (replied s x told (Some given)).world.pools (same.pools ∙ quiet_pools s (written_world told given) (adapter_of s x.0)) h }

pub replied_keeps : (s : State) (x : CtxNo) (told : Told) → Keeps (replied s x told (answered s x told)) s
replied_keeps s x told = replied_as s x told (answered s x told) (answer_keeps s x told)

-- ---- spins

spinning_pools : (s : State) (o : Outcome) → KeepsIn s.world o → (world_spinning s.world o).pools ≡ s.world.pools
spinning_pools s (Spins holder w) h = h
spinning_pools s (Breaks rule) h = refl
spinning_pools s (Replies reply w) h = refl
spinning_pools s (Picks n reply w) h = refl
spinning_pools s (PicksDescriptor kind handle reply w) h = refl
spinning_pools s (Sleeps moment) h = refl
spinning_pools s Synchronizes h = refl

pub spun_same : (s : State) (x : CtxNo) (call : Option Calling) → Same (spun s x call) s
spun_same s x None = record { lent = refl; pools = refl }
spun_same s x (Some call) = record { lent = refl; pools = spinning_pools s (outcome_of s x call.import call.words) (row_keeps s x call.import call.words) }
