-- Every adapter that was given has its part of the world, and no frame that a card sent waits to be taken.
use Rattle.std.proofs.Common.{◌≡◌, ℕ, zero, suc, ◌+◌, ◌%◌, ◌^◌, ◌<◌, ◌≤◌, Bool, true, false, cond, not, ◌&&◌, ◌==◌, List, [], ◌∷◌, map, Option, Some, None, Ok, refl, sym, ap, ◌∙◌, subst, length, slice_get, slice_set, slice_index_or, arith}
use Rattle.std.specs.Prelude.{⊤, IsSome, filter, is_none}
use Rattle.std.specs.Option.{option_map, option_map_or, option_and_then}
use Rattle.std.proofs.lemmas.List.{length-set}
use Rattle.nd_base.specs.declared.numbers.AdapterNo.{AdapterNo}
use Rattle.nd_base.specs.declared.numbers.BindingNo.{BindingNo}
use Rattle.nd_base.specs.declared.numbers.CtxNo.{CtxNo}
use Rattle.irql_lock.specs.LockMoves.{End}
use Rattle.packet_pool.specs.LiveMoves.{LiveMove, MakeBlock, Allocate, may}
use Rattle.dp8390.specs.declared.board.Board.{Board}
use Rattle.dp8390.specs.Bits.{has, mon}
use Rattle.dp8390.specs.AddressFilter.{accepts}
use Rattle.dp8390.specs.Ring.{after_arrival, after_taking, padded, is_started, has_ring, has_room, destination_of}
use Rattle.log_fields.specs.declared.write.Write.{Write}
use Rattle.log_fields.specs.declared.field_values.Handler.{Handler}
use Rattle.log_fields.specs.declared.field_values.Handler.TheVariants as handler
use Rattle.call_log.specs.declared.entry.Entry.{Entry}
use Rattle.call_log.specs.declared.entry.Entry.TheVariants as entries
use Rattle.import_table.specs.Table.{row_of}
use Rattle.guest_world.specs.declared.adapters.Adapter.{Adapter}
use Rattle.guest_world.specs.declared.answer.Answer.TheVariants.{Now, Spin}
use Rattle.guest_world.specs.declared.answer.Reply.{Reply}
use Rattle.guest_world.specs.declared.world.World.{World}
use Rattle.guest_world.specs.Worlds.{HasNoFrame, IsIdle, CanAnswer, longest_time}
use Rattle.import_answers.specs.Outcomes.{Outcome, Replies, Picks, PicksDescriptor, Spins, Breaks, Sleeps, Synchronizes, Comes, resumed}
use Rattle.import_answers.specs.Statuses.{success}
use Rattle.import_answers.specs.World.{IsNumber}
use Rattle.calls_ports.specs.Cards.{HasAdapter}
use Rattle.legal_run.specs.Laws.{CallsKeep, KeepsPart}
use Rattle.legal_run.specs.State.{Inputs, State, Given, Wait, Nothing, OnLock, OnClock, OnSync, Needed, Entered, Left, Calling, call_at, adapter_of, alive, caller, clock, given_adapter, has_handler, is_open, part_of, placed_in, start}
use Rattle.legal_run.specs.Guest.{with_writes}
use Rattle.legal_run.specs.Owed.{first}
use Rattle.legal_run.specs.Calls.{leaves, outcome_of, stays_home}
use Rattle.legal_run.specs.Replies.{Answered, Told, answered, answered_by, by_outcome, told_as, is_told, is_picked, picked}
use Rattle.legal_run.specs.After.{after, arrived, framed, all_ended, charge_to, with_arrival, with_wait, taken, fired, left_row, leveled, quiet_if_off, quieted, replied, spun, world_spinning, is_breaking, recognized}
use Rattle.legal_run.specs.Run.{is_going, is_over}
use Rattle.run_facts.specs.Facts.{IsOfRun}
use Rattle.run_facts.proofs.Runs.{of_run, true_both}
use Rattle.run_facts.proofs.Counts.{AdaptersGiven}
use Rattle.run_facts.proofs.Inside.{HandlersStand, inside}
use Rattle.run_facts.proofs.Levels.{opened}

abbrev pub Places : Type 0
Places = List (Option Adapter)

-- the part of an adapter, and none behind the last place
abbrev place : Places → ℕ → Option Adapter
place l a = slice_index_or l a None

abbrev KeptIn : Places → Places → Type 0
KeptIn l m = (a : ℕ) → KeepsPart (place l a) (place m a)

abbrev Kept : World → World → Type 0
Kept w v = KeptIn w.adapters v.adapters

part_kept : (p : Option Adapter) → KeepsPart p p
part_kept None = tt
part_kept (Some p) = (refl, refl, λ h. h)

through : (p q r : Option Adapter) → KeepsPart p q → KeepsPart q r → KeepsPart p r
through None None None one other = tt
through (Some p) (Some q) (Some r) one other = (other.0 ∙ one.0, other.1 ∙ one.1, λ h. other.2 (one.2 h))
through None None (Some r) one other = absurd other
through (Some p) (Some q) None one other = absurd other
through None (Some q) r one other = absurd one
through (Some p) None r one other = absurd one

same : (l m : Places) → m ≡ l → KeptIn l m
same l m is a = subst (λ (k : Places). KeepsPart (place l a) (place k a)) (sym is) (part_kept (place l a))

as_in : (l k m : Places) → m ≡ k → KeptIn l k → KeptIn l m
as_in l k m is h a = subst (λ (n : Places). KeepsPart (place l a) (place n a)) (sym is) (h a)

-- ---- a frame that arrives

either_sent : (b : Bool) (x y : Board) (sent : Option (List ℕ)) → x.sent ≡ sent → y.sent ≡ sent → (cond b x y).sent ≡ sent
either_sent true x y sent one other = one
either_sent false x y sent one other = other

taking_sent : (b : Board) (frame : List ℕ) → (after_taking b frame).sent ≡ b.sent
taking_sent b frame =
    either_sent (has b.registers.receive_configuration mon) _ _ b.sent refl (either_sent (has_room b.registers frame) _ _ b.sent refl refl)

arrival_sent : (b : Board) (frame : List ℕ) → (after_arrival b frame).sent ≡ b.sent
arrival_sent b frame =
    either_sent ((is_started b.registers && has_ring b.registers) && accepts b.registers (destination_of frame)) _ _ b.sent (taking_sent b (padded frame)) refl

arrival_kept : (frame : List ℕ) (p : Option Adapter) → KeepsPart p (with_arrival frame p)
arrival_kept frame None = tt
arrival_kept frame (Some p) = (refl, refl, λ h. arrival_sent p.card frame ∙ h)

all_arrived : (frame : List ℕ) (l : Places) (a : ℕ) → KeepsPart (place l a) (place (map (with_arrival frame) l) a)
all_arrived frame [] a = tt
all_arrived frame (p ∷ l) zero = arrival_kept frame p
all_arrived frame (p ∷ l) (suc a) = all_arrived frame l a

arrived_kept : (c : Inputs) (s : State) → Kept s.world (arrived c s).world
arrived_kept c s a = by_frame (slice_get c.frames s.come)
  where
    by_frame : (f : Option Rattle.frame_wire.specs.declared.arrival.Arrival.Arrival)
        → KeepsPart (place s.world.adapters a) (place (option_map_or (λ f. map (with_arrival f.bytes) s.world.adapters) f s.world.adapters) a)
    by_frame None = part_kept (place s.world.adapters a)
    by_frame (Some f) = all_arrived f.bytes s.world.adapters a

-- ---- the world behind other entries

pub framed_world : (s : State) (bs : List BindingNo) → (framed s bs).world ≡ s.world
unfolding framed
framed_world s [] = refl
framed_world s (b ∷ bs) = framed_world _ bs

pub ended_adapters : (w : World) (xs : List ℕ) → (all_ended w xs).adapters ≡ w.adapters
unfolding all_ended
ended_adapters w [] = refl
ended_adapters w (x ∷ xs) = ended_adapters (leveled w (End (record { 0 = x }))) xs

pub wait_world : (s : State) (x : Option ℕ) (w : Wait) → (with_wait s x w).world ≡ s.world
wait_world s None w = refl
wait_world s (Some x) w = refl

fired_adapters : (w : World) (t : Option ℕ) → (fired w t).adapters ≡ w.adapters
fired_adapters w None = refl
fired_adapters w (Some t) = refl

pub taken_adapters : (s : State) (a : ℕ) (h : Handler) (words : List ℕ) (writes : List Write) → (taken s a h words writes).world.adapters ≡ s.world.adapters
taken_adapters s a handler.Sync words writes = ap (λ w. w.adapters) (wait_world s _ _)
taken_adapters s a handler.Timer words writes = fired_adapters s.world _
taken_adapters s a _ words writes = refl

pub either_adapters : (b : Bool) (t u : State) (l : Places) → t.world.adapters ≡ l → u.world.adapters ≡ l → (cond b t u).world.adapters ≡ l
either_adapters true t u l one other = one
either_adapters false t u l one other = other

pub left_adapters : (c : Inputs) (s : State) (a : ℕ) (x : CtxNo) (eax : ℕ) (h : Handler) → (left_row c s a x eax h).world.adapters ≡ s.world.adapters
left_adapters c s a x eax handler.Initialize = either_adapters (eax == success) _ _ s.world.adapters refl refl
left_adapters c s a x eax handler.Isr = either_adapters (recognized s x) _ _ s.world.adapters refl refl
left_adapters c s a x eax handler.HandleInterrupt = either_adapters (has_handler s handler.EnableInterrupt) _ _ s.world.adapters refl refl
left_adapters c s a x eax handler.Sync = ap (λ w. w.adapters) (wait_world s _ _)
left_adapters c s a x eax _ = refl

pub charged_adapters : (s : State) (who : Option AdapterNo) (n : ℕ) → (charge_to s who n).world.adapters ≡ s.world.adapters
charged_adapters s None n = refl
charged_adapters s (Some a) n = refl

pub quiet_adapters : (s : State) (w : World) (a : Option AdapterNo) → (quiet_if_off s w a).adapters ≡ w.adapters
quiet_adapters s w None = refl
quiet_adapters s w (Some a) = by_test (alive s a.0)
  where
    by_test : (b : Bool) → (cond b w (quieted s w a.0)).adapters ≡ w.adapters
    by_test true = refl
    by_test false = refl

-- ---- calls

abbrev AnswerKeeps : State → Option Answered → Type 0
AnswerKeeps s None = ⊤
AnswerKeeps s (Some given) = Kept s.world given.1

told_keeps : (s : State) (told : Told) (more : List Write) (reply : Reply) (w : World) → Kept s.world w → AnswerKeeps s (told_as told more reply w)
told_keeps s told more reply w h = by_test (is_told told more reply)
  where
    by_test : (b : Bool) → AnswerKeeps s (cond b (Some (reply, w)) None)
    by_test true = h
    by_test false = tt

first_passes : (p : ℕ → Bool) (xs : List ℕ) (a : ℕ) → first (filter p xs) ≡ Some a → p a ≡ true
first_passes p [] a h = absurd (cc)
first_passes p (x ∷ xs) a h = by_test (p x) refl h (first_passes p xs a)
  where
    by_test : (t : Bool) → p x ≡ t → first (cond t (x ∷ filter p xs) (filter p xs)) ≡ Some a → (first (filter p xs) ≡ Some a → p a ≡ true) → p a ≡ true
    by_test true is h more = let here : x ≡ a = cc in subst (λ (k : ℕ). p k ≡ true) here is
    by_test false is h more = more h

may_pick : (w : World) (told : Told) (more : List Write) (move : ℕ → LiveMove) (reply : ℕ → Reply) (a : ℕ) → picked w told more move reply ≡ Some a → may w.pools (move a) ≡ true
may_pick w told more move reply a h = (true_both (may w.pools (move a)) (is_told told more (reply a)) (first_passes (is_picked w told more move reply) _ a h)).0

picked_keeps : (s : State) (reply : ℕ → Reply) (v : ℕ → World) (o : Option ℕ) → ((a : ℕ) → o ≡ Some a → Kept s.world (v a)) → AnswerKeeps s (option_map (λ a. (reply a, v a)) o)
picked_keeps s reply v None h = tt
picked_keeps s reply v (Some a) h = h a refl

outcome_answers : CallsKeep → (s : State) (x : CtxNo) (told : Told) (more : List Write) (import : ℕ) (words : List ℕ) (o : Outcome) → outcome_of s x import words ≡ o
    → AnswerKeeps s (by_outcome s.world told more o)
outcome_answers keep s x told more import words (Replies reply w) is =
    told_keeps s told more reply w
    (keep s.world w (caller s x) (row_of import) words (Now reply) (subst (λ (o : Outcome). Comes o s.world (Ok (Now reply)) w) (sym is) (refl, refl))).parts
outcome_answers keep s x told more import words (Picks n reply v) is =
    picked_keeps s reply v (picked s.world told more (MakeBlock n) reply)
    (λ a found. (keep s.world (v a) (caller s x) (row_of import) words (Now (reply a))
    (subst (λ (o : Outcome). Comes o s.world (Ok (Now (reply a))) (v a)) (sym is) (a, may_pick s.world told more (MakeBlock n) reply a found, refl, refl))).parts)
outcome_answers keep s x told more import words (PicksDescriptor kind handle reply v) is =
    picked_keeps s reply v (picked s.world told more (Allocate kind handle) reply)
    (λ a found. (keep s.world (v a) (caller s x) (row_of import) words (Now (reply a))
    (subst (λ (o : Outcome). Comes o s.world (Ok (Now (reply a))) (v a)) (sym is) (a, may_pick s.world told more (Allocate kind handle) reply a found, refl, refl))).parts)
outcome_answers keep s x told more import words (Breaks rule) is = tt
outcome_answers keep s x told more import words (Spins holder w) is = tt
outcome_answers keep s x told more import words (Sleeps moment) is = tt
outcome_answers keep s x told more import words Synchronizes is = tt

wait_answers : CallsKeep → (s : State) (x : CtxNo) (told : Told) (call : Calling) (w : Wait) → AnswerKeeps s (answered_by s x told call w)
wait_answers keep s x told call (OnSync (Left eax)) = told_keeps s told [] (resumed call.import (eax % 256)) s.world (same s.world.adapters s.world.adapters refl)
wait_answers keep s x told call (OnSync Needed) = tt
wait_answers keep s x told call (OnSync Entered) = tt
wait_answers keep s x told call (OnClock wake) = told_keeps s told [] (resumed call.import 0) s.world (same s.world.adapters s.world.adapters refl)
wait_answers keep s x told call Nothing = outcome_answers keep s x told call.writes call.import call.words _ refl
wait_answers keep s x told call (OnLock lock) = outcome_answers keep s x told call.writes call.import call.words _ refl

answer_keeps : CallsKeep → (s : State) (x : CtxNo) (told : Told) → AnswerKeeps s (answered s x told)
answer_keeps keep s x told = by_call (call_at s x.0)
  where
    by_call : (m : Option Calling) → AnswerKeeps s (option_and_then (λ call. answered_by s x told call call.wait) m)
    by_call None = tt
    by_call (Some call) = wait_answers keep s x told call call.wait

pub replied_adapters : (s : State) (x : CtxNo) (told : Told) (given : Answered) → (replied s x told (Some given)).world.adapters ≡ given.1.adapters
replied_adapters s x told given =
    let w : World = record given.1 { memory = with_writes given.1.memory told.writes } in
    charged_adapters _ (adapter_of s x.0) given.0.cost ∙ quiet_adapters s w (adapter_of s x.0)

replied_kept : (s : State) (x : CtxNo) (told : Told) (answer : Option Answered) → AnswerKeeps s answer → Kept s.world (replied s x told answer).world
replied_kept s x told None h = same s.world.adapters s.world.adapters refl
replied_kept s x told (Some given) h = as_in s.world.adapters given.1.adapters (replied s x told (Some given)).world.adapters (replied_adapters s x told given) h

spinning_kept : CallsKeep → (s : State) (x : CtxNo) (import : ℕ) (words : List ℕ) (o : Outcome) → outcome_of s x import words ≡ o → Kept s.world (world_spinning s.world o)
spinning_kept keep s x import words (Spins holder w) is =
    (keep s.world w (caller s x) (row_of import) words (Spin holder) (subst (λ (o : Outcome). Comes o s.world (Ok (Spin holder)) w) (sym is) (refl, refl))).parts
spinning_kept keep s x import words (Breaks rule) is = same s.world.adapters s.world.adapters refl
spinning_kept keep s x import words (Replies reply w) is = same s.world.adapters s.world.adapters refl
spinning_kept keep s x import words (Picks n reply w) is = same s.world.adapters s.world.adapters refl
spinning_kept keep s x import words (PicksDescriptor kind handle reply w) is = same s.world.adapters s.world.adapters refl
spinning_kept keep s x import words (Sleeps moment) is = same s.world.adapters s.world.adapters refl
spinning_kept keep s x import words Synchronizes is = same s.world.adapters s.world.adapters refl

spun_kept : CallsKeep → (s : State) (x : CtxNo) (call : Option Calling) → Kept s.world (spun s x call).world
spun_kept keep s x None = same s.world.adapters s.world.adapters refl
spun_kept keep s x (Some call) = spinning_kept keep s x call.import call.words _ refl

-- ---- one entry

one_entry : CallsKeep → (c : Inputs) (s : State) (e : Entry) → Kept s.world (after c s e).world
one_entry keep c s (entries.Indicate a j bytes holders copied) = by_test (stays_home s a.0 (map (λ b. b.0) holders) copied) (framed s holders).world _ refl (ap (λ w. w.adapters) (framed_world s holders))
  where
    by_test : (b : Bool) (w v : World) → v.adapters ≡ w.adapters → w.adapters ≡ s.world.adapters → Kept s.world (cond b w v)
    by_test true w v is one = same s.world.adapters w.adapters one
    by_test false w v is one = same s.world.adapters v.adapters (is ∙ one)
one_entry keep c s (entries.Enter a x h words writes) = same s.world.adapters _ (taken_adapters s _ h words writes)
one_entry keep c s (entries.Leave x eax) = same s.world.adapters _ (either_adapters (is_breaking (leaves c s x eax)) _ _ s.world.adapters refl (left_adapters c s _ x eax _))
one_entry keep c s (entries.Turn x n) = same s.world.adapters _ (charged_adapters _ (adapter_of s x.0) n)
one_entry keep c s (entries.Reply x eax writes) = let told : Told = record { eax = eax; writes = writes } in replied_kept s x told (answered s x told) (answer_keeps keep s x told)
one_entry keep c s (entries.Spin x lock) = spun_kept keep s x (call_at s x.0)
one_entry keep c s (entries.WireIn frame) = arrived_kept c s
one_entry keep c s (entries.Stop a why) = same s.world.adapters _ (ended_adapters _ _)
one_entry keep c s _ = same s.world.adapters s.world.adapters refl

-- ---- before the first

set_idle : (l : Places) (n k : ℕ) (g : Given) → HasNoFrame (place l k) → HasNoFrame (place (slice_set l n (given_adapter g)) k)
set_idle [] n k g h = h
set_idle (p ∷ l) zero zero g h = refl
set_idle (p ∷ l) zero (suc k) g h = h
set_idle (p ∷ l) (suc n) zero g h = h
set_idle (p ∷ l) (suc n) (suc k) g h = set_idle l n k g h

placed_idle : (gs : List Given) (l : Places) (n : ℕ) → ((k : ℕ) → HasNoFrame (place l k)) → (a : ℕ) → HasNoFrame (place (placed_in l n gs) a)
placed_idle [] l n h a = h a
placed_idle (g ∷ gs) l n h a = placed_idle gs (slice_set l n (given_adapter g)) (suc n) (λ k. set_idle l n k g (h k)) a

set_stays : (l : Places) (n k : ℕ) (g : Given) → IsSome (place l k) → IsSome (place (slice_set l n (given_adapter g)) k)
set_stays [] n k g h = h
set_stays (p ∷ l) zero zero g h = refl
set_stays (p ∷ l) zero (suc k) g h = h
set_stays (p ∷ l) (suc n) zero g h = h
set_stays (p ∷ l) (suc n) (suc k) g h = set_stays l n k g h

set_here : (l : Places) (n : ℕ) (g : Given) → n < length l → IsSome (place (slice_set l n (given_adapter g)) n)
set_here [] n g less = absurd (omega (arith, less))
set_here (p ∷ l) zero g less = refl
set_here (p ∷ l) (suc n) g less = set_here l n g (omega (arith, less))

placed_stays : (gs : List Given) (l : Places) (n a : ℕ) → IsSome (place l a) → IsSome (place (placed_in l n gs) a)
placed_stays [] l n a h = h
placed_stays (g ∷ gs) l n a h = placed_stays gs (slice_set l n (given_adapter g)) (suc n) a (set_stays l n a g h)

placed_some : (gs : List Given) (l : Places) (n k : ℕ) → k < length gs → n + k < length l → IsSome (place (placed_in l n gs) (n + k))
placed_some [] l n k less inside = absurd (omega (arith, less))
placed_some (g ∷ gs) l n zero less inside =
    let first : n + 0 ≡ n = omega arith in
    placed_stays gs (slice_set l n (given_adapter g)) (suc n) (n + 0)
    (subst (λ (k : ℕ). IsSome (place (slice_set l n (given_adapter g)) k)) (sym first) (set_here l n g (omega (arith, inside))))
placed_some (g ∷ gs) l n (suc k) less inside =
    let next : suc n + k ≡ n + suc k = omega arith in
    let count = length-set l n (given_adapter g) in
    subst (λ (j : ℕ). IsSome (place (placed_in (slice_set l n (given_adapter g)) (suc n) gs) j)) next
    (placed_some gs (slice_set l n (given_adapter g)) (suc n) k (omega (arith, less)) (omega (arith, inside, count)))

nowhere : (k : ℕ) → HasNoFrame (place (None ∷ None ∷ None ∷ None ∷ []) k)
nowhere zero = tt
nowhere (suc zero) = tt
nowhere (suc (suc zero)) = tt
nowhere (suc (suc (suc zero))) = tt
nowhere (suc (suc (suc (suc k)))) = tt

-- ---- over a run

kept : CallsKeep → (c : Inputs) (s : State) → IsOfRun c s → Kept (start c).world s.world
kept keep c s is =
    of_run c (λ t. Kept (start c).world t.world) (λ t e of h meets a. through _ _ _ (h a) (one_entry keep c t e a)) (same (start c).world.adapters (start c).world.adapters refl) s is

idle_kept : (p q : Option Adapter) → KeepsPart p q → HasNoFrame p → HasNoFrame q
idle_kept None None keeps h = tt
idle_kept (Some p) (Some q) keeps h = keeps.2 h
idle_kept None (Some q) keeps h = absurd keeps
idle_kept (Some p) None keeps h = absurd keeps

some_kept : (p q : Option Adapter) → KeepsPart p q → IsSome p → IsSome q
some_kept None None keeps h = h
some_kept (Some p) (Some q) keeps h = refl
some_kept None (Some q) keeps h = absurd keeps
some_kept (Some p) None keeps h = absurd keeps

pub idle : CallsKeep → (c : Inputs) (s : State) → IsOfRun c s → IsIdle s.world
idle keep c s is a = idle_kept _ _ (kept keep c s is a) (placed_idle c.adapters (None ∷ None ∷ None ∷ None ∷ []) 0 nowhere a)

pub parts : CallsKeep → (c : Inputs) (s : State) (a : ℕ) → length c.adapters ≤ 4 → IsOfRun c s → a < length c.adapters → IsSome (part_of s a)
parts keep c s a four is less =
    let zero_plus : 0 + a ≡ a = omega arith in
    let placed = placed_some c.adapters (None ∷ None ∷ None ∷ None ∷ []) 0 a less (omega (arith, less, four)) in
    some_kept _ _ (kept keep c s is a) (subst (λ (k : ℕ). IsSome (place (start c).world.adapters k)) zero_plus placed)

-- ---- a caller

pub can : CallsKeep → AdaptersGiven → (c : Inputs) (s : State) (x : CtxNo) → IsOfRun c s → is_open s x.0 ≡ true → clock s + longest_time < 2 ^ 64 → CanAnswer s.world (caller s x)
can keep given c s x is there time = record { opened = opened given c s x is there; idle = idle keep c s is; moments = time }

pub goes_can : CallsKeep → AdaptersGiven → (c : Inputs) (s : State) (x : CtxNo) → IsOfRun c s → is_going c s x ≡ true → clock s + longest_time < 2 ^ 64 → CanAnswer s.world (caller s x)
goes_can keep given c s x is going time = can keep given c s x is (true_both (is_open s x.0) (is_none (call_at s x.0) && not (is_over c s)) going).0 time

pub number : AdaptersGiven → HandlersStand → (c : Inputs) (s : State) (x : CtxNo) → length c.adapters ≤ 4 → IsOfRun c s → IsNumber (adapter_of s x.0)
number given stand c s x four is = by_adapter (adapter_of s x.0) refl
  where
    by_adapter : (m : Option AdapterNo) → adapter_of s x.0 ≡ m → IsNumber m
    by_adapter None its = tt
    by_adapter (Some a) its = let less = inside given stand c s x.0 a is its in omega (arith, less, four)

pub there : CallsKeep → AdaptersGiven → HandlersStand → (c : Inputs) (s : State) (x : CtxNo) → length c.adapters ≤ 4 → IsOfRun c s → HasAdapter s.world (adapter_of s x.0)
there keep given stand c s x four is = by_adapter (adapter_of s x.0) refl
  where
    by_adapter : (m : Option AdapterNo) → adapter_of s x.0 ≡ m → HasAdapter s.world m
    by_adapter None its = tt
    by_adapter (Some a) its = parts keep c s a.0 four is (inside given stand c s x.0 a is its)
