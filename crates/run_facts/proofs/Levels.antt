-- A context runs at a level exactly where its handler is open.
use Rattle.std.proofs.Common.{◌≡◌, ℕ, zero, suc, ◌+◌, ◌%◌, ◌<◌, Bool, true, false, cond, not, ◌&&◌, ◌||◌, ◌==◌, List, [], ◌∷◌, Option, Some, None, refl, sym, ap, ◌∙◌, subst, length, slice_get, slice_set, slice_index_or, arith}
use Rattle.std.specs.Prelude.{⊤, IsSome, filter, is_none, is_some, replicate}
use Rattle.std.specs.Option.{option_map, option_and_then}
use Rattle.std.specs.List.{list_any, list_all}
use Rattle.std.proofs.lemmas.Bool.{eqb-true}
use Rattle.std.proofs.lemmas.List.{length-set, length-replicate}
use Rattle.nd_base.specs.declared.numbers.AdapterNo.{AdapterNo}
use Rattle.nd_base.specs.declared.numbers.BindingNo.{BindingNo}
use Rattle.nd_base.specs.declared.numbers.CtxNo.{CtxNo}
use Rattle.irql_lock.specs.declared.states.Context.{Context as Level}
use Rattle.irql_lock.specs.LockState.{LockState, IsOpen, context_of, holds_any}
use Rattle.irql_lock.specs.LockMoves.{Begin, End, Leave, ended, closed, allow, leave_rule, has_come_back}
use Rattle.log_fields.specs.declared.write.Write.{Write}
use Rattle.log_fields.specs.declared.field_values.Handler.{Handler}
use Rattle.log_fields.specs.declared.field_values.Handler.TheVariants as handler
use Rattle.call_log.specs.declared.entry.Entry.{Entry}
use Rattle.call_log.specs.declared.entry.Entry.TheVariants as entries
use Rattle.guest_world.specs.declared.answer.Reply.{Reply}
use Rattle.guest_world.specs.declared.world.World.{World}
use Rattle.import_answers.specs.Outcomes.{Outcome, Replies, Picks, PicksDescriptor, Spins, Breaks, Sleeps, Synchronizes, resumed}
use Rattle.import_answers.specs.Statuses.{success}
use Rattle.import_table.specs.Table.{row_of}
use Rattle.owner_machine.specs.declared.rows.Adapter.{Adapter}
use Rattle.owner_machine.specs.declared.rows.Context.{Context as OwnerContext}
use Rattle.owner_machine.specs.declared.rows.Context.TheVariants.{Free, Open}
use Rattle.owner_machine.specs.State.{at, change, is_stopped}
use Rattle.owner_machine.specs.Contexts.{any_handler, runs, calling, answered_call, freed, entry_freed, transfer_begun, wants_transfer, with_transfer}
use Rattle.owner_machine.specs.Handlers.{contexts_entered}
use Rattle.owner_machine.specs.Adapters.{contexts_stopped, all_stopped, stopped as stopped_row}
use Rattle.legal_run.specs.State.{Inputs, State, Wait, Nothing, OnLock, OnClock, OnSync, Needed, Entered, Left, Calling, Given, numbers, call_at, adapter_in, adapter_of, adapters_of, all_contexts, alive, caller, has_handler, is_adapter, is_context_of, is_free, is_free_context, is_open, is_open_context, start}
use Rattle.legal_run.specs.Calls.{Drawn, asks, leaves, leaves_even, outcome_of}
use Rattle.legal_run.specs.Replies.{Answered, Told, answered, answered_by, by_outcome, told_as, is_told}
use Rattle.legal_run.specs.After.{after, framed, all_spoke, all_ended, charge_to, with_wait, taken, fired, left_row, leveled, levels_behind, quiet_if_off, quieted, replied, spun, world_spinning, is_breaking, recognized, owner_left, ends_context, is_stopped_but}
use Rattle.legal_run.specs.Run.{Meets}
use Rattle.run_facts.specs.Facts.{IsOfRun}
use Rattle.run_facts.proofs.Runs.{of_run}
use Rattle.run_facts.proofs.Counts.{AdaptersGiven, counts, sized, opened_count}
use Rattle.run_facts.proofs.StaysOpen.{OpenAlike, KeepsIn, alike, outcome_keeps}

-- ---- numbers

zero_suc : (y : ℕ) → (0 == suc y) ≡ false
zero_suc y = grind arith

suc_zero : (y : ℕ) → (suc y == 0) ≡ false
suc_zero y = grind arith

suc_suc : (k y : ℕ) → (suc k == suc y) ≡ (k == y)
suc_suc k y = by_test (k == y) refl
  where
    by_test : (t : Bool) → (k == y) ≡ t → (suc k == suc y) ≡ t
    by_test true is = grind arith
    by_test false is = grind arith

pub zero_plus : (k : ℕ) → 0 + k ≡ k
zero_plus k = omega arith

yes : (b : Bool) → b ≡ (b && true)
yes true = refl
yes false = refl

no : (b : Bool) → false ≡ (b && false)
no true = refl
no false = refl

-- ---- lists of levels and of handlers

abbrev has_level : List (Option Level) → ℕ → Bool
has_level ls y = is_some (slice_index_or ls y None)

abbrev Agree : List OwnerContext → List (Option Level) → Type 0
Agree os ls = (y : ℕ) → has_level ls y ≡ at is_open_context os y

set_agree : (os : List OwnerContext) (ls : List (Option Level)) (k : ℕ) (o : OwnerContext) (l : Option Level) → length ls ≡ length os → is_some l ≡ is_open_context o → Agree os ls
    → Agree (slice_set os k o) (slice_set ls k l)
set_agree [] [] k o l long is h y = refl
set_agree [] (m ∷ ls) k o l long is h y = absurd (cc)
set_agree (p ∷ os) [] k o l long is h y = absurd (cc)
set_agree (p ∷ os) (m ∷ ls) zero o l long is h zero = is
set_agree (p ∷ os) (m ∷ ls) zero o l long is h (suc y) = h (suc y)
set_agree (p ∷ os) (m ∷ ls) (suc k) o l long is h zero = h zero
set_agree (p ∷ os) (m ∷ ls) (suc k) o l long is h (suc y) = set_agree os ls k o l (omega (arith, long)) is (λ z. h (suc z)) y

pub kept : {A : Type 0} (test : A → Bool) (f : A → A) (rows : List A) (j k : ℕ) → ((row : A) → test (f row) ≡ test row) → at test (change f rows j) k ≡ at test rows k
kept test f [] j k w = refl
kept test f (row ∷ rows) zero zero w = w row
kept test f (row ∷ rows) zero (suc k) w = refl
kept test f (row ∷ rows) (suc j) zero w = refl
kept test f (row ∷ rows) (suc j) (suc k) w = kept test f rows j k w

calling_open : (import : ℕ) (words : List ℕ) (o : OwnerContext) → is_open_context (calling import words o) ≡ is_open_context o
calling_open import words (Open a h enter call) = refl
calling_open import words Free = refl

answered_open : (o : OwnerContext) → is_open_context (answered_call o) ≡ is_open_context o
answered_open (Open a h enter call) = refl
answered_open Free = refl

transfer_open : (n : ℕ) (o : OwnerContext) → is_open_context (with_transfer n o) ≡ is_open_context o
transfer_open n (Open a h enter (Some call)) = refl
transfer_open n (Open a h enter None) = refl
transfer_open n Free = refl

begun_open : (a n : ℕ) (os : List OwnerContext) (y : ℕ) → at is_open_context (transfer_begun a n os) y ≡ at is_open_context os y
begun_open a n [] y = refl
begun_open a n (o ∷ os) y = by_test (wants_transfer a o) y (λ z. begun_open a n os z)
  where
    by_test : (t : Bool) (y : ℕ) → ((z : ℕ) → at is_open_context (transfer_begun a n os) z ≡ at is_open_context os z)
        → at is_open_context (cond t (with_transfer n o ∷ os) (o ∷ transfer_begun a n os)) y ≡ at is_open_context (o ∷ os) y
    by_test true zero more = transfer_open n o
    by_test true (suc y) more = refl
    by_test false zero more = refl
    by_test false (suc y) more = more y

entered_open : (b : Option AdapterNo) (h : Handler) (n : ℕ) (os : List OwnerContext) (y : ℕ) → at is_open_context (contexts_entered b h n os) y ≡ at is_open_context os y
entered_open (Some b) handler.TransferData n os y = begun_open b.0 n os y
entered_open None handler.TransferData n os y = refl
entered_open (Some b) _ n os y = refl
entered_open None _ n os y = refl

-- ---- the contexts that a stop ends

abbrev ends_row : (a : ℕ) (last : Bool) → List OwnerContext → ℕ → Bool
ends_row a last os y =
    (at is_open_context os y && is_adapter a (adapter_in (slice_get os y))) || (at is_open_context os y && (is_none (adapter_in (slice_get os y)) && last))

entry_behind : (r : OwnerContext) (rs : List OwnerContext) (y : ℕ) → at is_open_context (entry_freed (r ∷ rs)) (suc y) ≡ at is_open_context (entry_freed rs) y
entry_behind (Open None h enter call) rs y = refl
entry_behind (Open (Some a) h enter call) rs y = refl
entry_behind Free rs y = refl

all_open : (a : ℕ) (os : List OwnerContext) (y : ℕ) → at is_open_context (entry_freed (freed a os)) y ≡ (at is_open_context os y && not (ends_row a true os y))
all_open a [] y = refl
all_open a (Open None h enter call ∷ os) zero = refl
all_open a (Free ∷ os) zero = refl
all_open a (Open (Some b) h enter call ∷ os) zero = by_test (b.0 == a)
  where
    by_test : (t : Bool) → at is_open_context (entry_freed (cond t Free (Open (Some b) h enter call) ∷ freed a os)) zero ≡ not (t || false)
    by_test true = refl
    by_test false = refl
all_open a (o ∷ os) (suc y) = entry_behind (cond (runs any_handler a o) Free o) (freed a os) y ∙ all_open a os y

some_open : (a : ℕ) (os : List OwnerContext) (y : ℕ) → at is_open_context (freed a os) y ≡ (at is_open_context os y && not (ends_row a false os y))
some_open a [] y = refl
some_open a (Open None h enter call ∷ os) zero = refl
some_open a (Free ∷ os) zero = refl
some_open a (Open (Some b) h enter call ∷ os) zero = by_test (b.0 == a)
  where
    by_test : (t : Bool) → is_open_context (cond t Free (Open (Some b) h enter call)) ≡ not (t || false)
    by_test true = refl
    by_test false = refl
some_open a (o ∷ os) (suc y) = some_open a os y

stopped_open : (a : ℕ) (last : Bool) (os : List OwnerContext) (y : ℕ) → at is_open_context (contexts_stopped os a last) y ≡ (at is_open_context os y && not (ends_row a last os y))
stopped_open a true os y = all_open a os y
stopped_open a false os y = some_open a os y

-- ---- the last adapter's stop

abbrev pub has_stopped : Adapter → Bool
has_stopped row = is_stopped row.phase

changed_at : (rows : List Adapter) (a k : ℕ) → k < length rows → ((k == a) || at has_stopped rows k) ≡ at has_stopped (change stopped_row rows a) k
changed_at [] a k less = absurd (omega (arith, less))
changed_at (row ∷ rows) zero zero less = refl
changed_at (row ∷ rows) zero (suc k) less = rw (suc_zero k) refl
changed_at (row ∷ rows) (suc a) zero less = rw (zero_suc a) refl
changed_at (row ∷ rows) (suc a) (suc k) less = rw (suc_suc k a) (changed_at rows a k (omega (arith, less)))

pub all_numbers : (p : ℕ → Bool) (rows : List Adapter) (xs : List Given) (n : ℕ) → length rows ≡ length xs → ((k : ℕ) → k < length rows → p (n + k) ≡ at has_stopped rows k)
    → list_all p (numbers n xs) ≡ list_all has_stopped rows
all_numbers p [] [] n long h = refl
all_numbers p [] (x ∷ xs) n long h = absurd (cc)
all_numbers p (row ∷ rows) [] n long h = absurd (cc)
all_numbers p (row ∷ rows) (x ∷ xs) n long h =
    let first : p n ≡ has_stopped row = ap p (plus_zero n) ∙ h 0 (omega arith) in
    let rest = all_numbers p rows xs (suc n) (omega (arith, long)) (λ k less. ap p (plus_suc n k) ∙ h (suc k) (omega (arith, less))) in
    ap (λ b. b && list_all p (numbers (suc n) xs)) first ∙ ap (λ b. has_stopped row && b) rest
  where
    plus_zero : (n : ℕ) → n ≡ n + 0
    plus_zero n = omega arith

    plus_suc : (n k : ℕ) → suc n + k ≡ n + suc k
    plus_suc n k = omega arith

pub length_changed : {A : Type 0} (f : A → A) (rows : List A) (k : ℕ) → length (change f rows k) ≡ length rows
length_changed f [] k = refl
length_changed f (row ∷ rows) zero = refl
length_changed f (row ∷ rows) (suc k) = ap suc (length_changed f rows k)

last_stop : (c : Inputs) (s : State) (a : ℕ) → length s.owner.adapters ≡ length c.adapters → list_all (is_stopped_but s a) (adapters_of c) ≡ all_stopped (change stopped_row s.owner.adapters a)
last_stop c s a long =
    let count = length_changed stopped_row s.owner.adapters a in
    all_numbers (is_stopped_but s a) (change stopped_row s.owner.adapters a) c.adapters 0 (count ∙ long) (λ k less. ap (is_stopped_but s a) (zero_plus k) ∙ changed_at s.owner.adapters a k (omega (arith, less, count)))

-- ---- levels that end

erased : (ls : List (Option Level)) (k y : ℕ) → has_level (slice_set ls k None) y ≡ (has_level ls y && not (k == y))
erased [] k y = refl
erased (l ∷ ls) zero zero = no (is_some l)
erased (l ∷ ls) zero (suc y) = rw (zero_suc y) (yes (has_level ls y))
erased (l ∷ ls) (suc k) zero = rw (suc_zero k) (yes (is_some l))
erased (l ∷ ls) (suc k) (suc y) = rw (suc_suc k y) (erased ls k y)

absent : (ls : List (Option Level)) (k y : ℕ) → slice_index_or ls k None ≡ None → has_level ls y ≡ (has_level ls y && not (k == y))
absent ls k y none = by_test (k == y) refl (has_level ls y) refl
  where
    by_test : (t : Bool) → (k == y) ≡ t → (b : Bool) → has_level ls y ≡ b → b ≡ (b && not t)
    by_test false is true here = refl
    by_test false is false here = refl
    by_test true is false here = refl
    by_test true is true here =
        let same : k ≡ y = eqb-true k y is in
        let gone : has_level ls y ≡ false = ap (λ (n : ℕ). has_level ls n) (sym same) ∙ ap (λ (l : Option Level). is_some l) none in
        absurd (cc)

end_one : (s : LockState) (x : CtxNo) (y : ℕ) → has_level (ended s x (context_of s x)).contexts y ≡ (has_level s.contexts y && not (x.0 == y))
end_one s x y = by_level (context_of s x) refl
  where
    by_level : (m : Option Level) → context_of s x ≡ m → has_level (ended s x m).contexts y ≡ (has_level s.contexts y && not (x.0 == y))
    by_level None is = absent s.contexts x.0 y is
    by_level (Some l) is = erased s.contexts x.0 y

abbrev pub among : ℕ → List ℕ → Bool
among y xs = list_any (λ x. x == y) xs

end_all : (w : World) (xs : List ℕ) (y : ℕ) → has_level (all_ended w xs).levels.contexts y ≡ (has_level w.levels.contexts y && not (among y xs))
unfolding all_ended
end_all w [] y = yes (has_level w.levels.contexts y)
end_all w (x ∷ xs) y =
    end_all (leveled w (End (record { 0 = x }))) xs y ∙ ap (λ b. b && not (among y xs)) (end_one w.levels (record { 0 = x }) y) ∙ both (has_level w.levels.contexts y) (x == y) (among y xs)
  where
    both : (b e r : Bool) → ((b && not e) && not r) ≡ (b && not (e || r))
    both true true r = refl
    both true false r = refl
    both false e r = refl

end_count : (w : World) (xs : List ℕ) → length (all_ended w xs).levels.contexts ≡ length w.levels.contexts
unfolding all_ended
end_count w [] = refl
end_count w (x ∷ xs) = end_count (leveled w (End (record { 0 = x }))) xs ∙ one (context_of w.levels (record { 0 = x }))
  where
    one : (m : Option Level) → length (ended w.levels (record { 0 = x }) m).contexts ≡ length w.levels.contexts
    one None = refl
    one (Some l) = length-set w.levels.contexts x None

pub filtered : (p : ℕ → Bool) (xs : List ℕ) (y : ℕ) → among y (filter p xs) ≡ (p y && among y xs)
filtered p [] y = no (p y)
filtered p (x ∷ xs) y = by_test (p x) refl (x == y) refl (filtered p xs y)
  where
    by_test : (t : Bool) → p x ≡ t → (u : Bool) → (x == y) ≡ u → among y (filter p xs) ≡ (p y && among y xs) → among y (cond t (x ∷ filter p xs) (filter p xs)) ≡ (p y && (u || among y xs))
    by_test true is true here more =
        let same : p y ≡ true = ap p (sym (eqb-true x y here)) ∙ is in
        rw here (rw same refl)
    by_test true is false here more = rw here more
    by_test false is true here more =
        let same : p y ≡ false = ap p (sym (eqb-true x y here)) ∙ is in
        more ∙ rw same refl
    by_test false is false here more = more

all_sixteen : (y : ℕ) → y < 16 → among y all_contexts ≡ true
all_sixteen zero less = refl
all_sixteen (suc zero) less = refl
all_sixteen (suc (suc zero)) less = refl
all_sixteen (suc (suc (suc zero))) less = refl
all_sixteen (suc (suc (suc (suc zero)))) less = refl
all_sixteen (suc (suc (suc (suc (suc zero))))) less = refl
all_sixteen (suc (suc (suc (suc (suc (suc zero)))))) less = refl
all_sixteen (suc (suc (suc (suc (suc (suc (suc zero))))))) less = refl
all_sixteen (suc (suc (suc (suc (suc (suc (suc (suc zero)))))))) less = refl
all_sixteen (suc (suc (suc (suc (suc (suc (suc (suc (suc zero))))))))) less = refl
all_sixteen (suc (suc (suc (suc (suc (suc (suc (suc (suc (suc zero)))))))))) less = refl
all_sixteen (suc (suc (suc (suc (suc (suc (suc (suc (suc (suc (suc zero))))))))))) less = refl
all_sixteen (suc (suc (suc (suc (suc (suc (suc (suc (suc (suc (suc (suc zero)))))))))))) less = refl
all_sixteen (suc (suc (suc (suc (suc (suc (suc (suc (suc (suc (suc (suc (suc zero))))))))))))) less = refl
all_sixteen (suc (suc (suc (suc (suc (suc (suc (suc (suc (suc (suc (suc (suc (suc zero)))))))))))))) less = refl
all_sixteen (suc (suc (suc (suc (suc (suc (suc (suc (suc (suc (suc (suc (suc (suc (suc zero))))))))))))))) less = refl
all_sixteen (suc (suc (suc (suc (suc (suc (suc (suc (suc (suc (suc (suc (suc (suc (suc (suc n)))))))))))))))) less = absurd (omega (arith, less))

below : {A : Type 0} (test : A → Bool) (rows : List A) (k : ℕ) → at test rows k ≡ true → k < length rows
below test [] k h = absurd (cc)
below test (row ∷ rows) zero h = omega arith
below test (row ∷ rows) (suc k) h = let rest = below test rows k h in omega (arith, rest)

stop_agree : (os : List OwnerContext) (w : World) (p : ℕ → Bool) (a : ℕ) (last : Bool) → length os ≡ 16 → ((y : ℕ) → p y ≡ ends_row a last os y) → Agree os w.levels.contexts
    → Agree (contexts_stopped os a last) (all_ended w (filter p all_contexts)).levels.contexts
stop_agree os w p a last long ends h y =
    end_all w (filter p all_contexts) y ∙ ap (λ b. has_level w.levels.contexts y && not b) (filtered p all_contexts y) ∙ ap (λ b. b && not (p y && among y all_contexts)) (h y)
    ∙ by_open (at is_open_context os y) refl ∙ ap (λ b. at is_open_context os y && not b) (ends y) ∙ sym (stopped_open a last os y)
  where
    by_true : (b t : Bool) → t ≡ true → not (b && t) ≡ not b
    by_true true t is = ap not is
    by_true false t is = refl

    by_open : (b : Bool) → at is_open_context os y ≡ b → (b && not (p y && among y all_contexts)) ≡ (b && not (p y))
    by_open false is = refl
    by_open true is = by_true (p y) (among y all_contexts) (all_sixteen y (let less = below is_open_context os y is in omega (arith, less, long)))

-- ---- the world behind an entry

framed_world : (s : State) (bs : List BindingNo) → (framed s bs).world ≡ s.world
unfolding framed
framed_world s [] = refl
framed_world s (b ∷ bs) = framed_world _ bs

wait_world : (s : State) (x : Option ℕ) (w : Wait) → (with_wait s x w).world ≡ s.world
wait_world s None w = refl
wait_world s (Some x) w = refl

fired_levels : (w : World) (t : Option ℕ) → (fired w t).levels ≡ w.levels
fired_levels w None = refl
fired_levels w (Some t) = refl

taken_levels : (s : State) (a : ℕ) (h : Handler) (words : List ℕ) (writes : List Write) → (taken s a h words writes).world.levels ≡ s.world.levels
taken_levels s a handler.Sync words writes = ap (λ w. w.levels) (wait_world s _ _)
taken_levels s a handler.Timer words writes = fired_levels s.world _
taken_levels s a _ words writes = refl

either_levels : (b : Bool) (t u : State) (l : LockState) → t.world.levels ≡ l → u.world.levels ≡ l → (cond b t u).world.levels ≡ l
either_levels true t u l one other = one
either_levels false t u l one other = other

left_levels : (c : Inputs) (s : State) (a : ℕ) (x : CtxNo) (eax : ℕ) (h : Handler) → (left_row c s a x eax h).world.levels ≡ s.world.levels
left_levels c s a x eax handler.Initialize = either_levels (eax == success) _ _ s.world.levels refl refl
left_levels c s a x eax handler.Isr = either_levels (recognized s x) _ _ s.world.levels refl refl
left_levels c s a x eax handler.HandleInterrupt = either_levels (has_handler s handler.EnableInterrupt) _ _ s.world.levels refl refl
left_levels c s a x eax handler.Sync = ap (λ w. w.levels) (wait_world s _ _)
left_levels c s a x eax _ = refl

charged_levels : (s : State) (who : Option AdapterNo) (n : ℕ) → (charge_to s who n).world.levels ≡ s.world.levels
charged_levels s None n = refl
charged_levels s (Some a) n = refl

quiet_levels : (s : State) (w : World) (a : Option AdapterNo) → (quiet_if_off s w a).levels ≡ w.levels
quiet_levels s w None = refl
quiet_levels s w (Some a) = by_test (alive s a.0)
  where
    by_test : (b : Bool) → (cond b w (quieted s w a.0)).levels ≡ w.levels
    by_test true = refl
    by_test false = refl

-- ---- replies, spins

abbrev AnswerKeeps : State → Option Answered → Type 0
AnswerKeeps s None = ⊤
AnswerKeeps s (Some given) = OpenAlike s.world.levels given.1.levels

told_keeps : (s : State) (told : Told) (more : List Write) (reply : Reply) (w : World) → OpenAlike s.world.levels w.levels → AnswerKeeps s (told_as told more reply w)
told_keeps s told more reply w h = by_test (is_told told more reply)
  where
    by_test : (b : Bool) → AnswerKeeps s (cond b (Some (reply, w)) None)
    by_test true = h
    by_test false = tt

picked_keeps : (s : State) (reply : ℕ → Reply) (w : ℕ → World) (o : Option ℕ) → ((a : ℕ) → OpenAlike s.world.levels (w a).levels) → AnswerKeeps s (option_map (λ a. (reply a, w a)) o)
picked_keeps s reply w None h = tt
picked_keeps s reply w (Some a) h = h a

outcome_answers : (a : Option AdapterNo) (s : State) (told : Told) (more : List Write) (o : Outcome) → KeepsIn a s.world o → AnswerKeeps s (by_outcome s.world told more o)
outcome_answers a s told more (Replies reply w) h = told_keeps s told more reply w h.levels
outcome_answers a s told more (Picks n reply w) h = picked_keeps s reply w _ (λ k. (h k).levels)
outcome_answers a s told more (PicksDescriptor kind handle reply w) h = picked_keeps s reply w _ (λ k. (h k).levels)
outcome_answers a s told more (Breaks rule) h = tt
outcome_answers a s told more (Spins holder w) h = tt
outcome_answers a s told more (Sleeps moment) h = tt
outcome_answers a s told more Synchronizes h = tt

row_keeps : (s : State) (x : CtxNo) (import : ℕ) (words : List ℕ) → KeepsIn (adapter_of s x.0) s.world (outcome_of s x import words)
row_keeps s x import words = outcome_keeps s.world (caller s x) (row_of import) words

wait_answers : (s : State) (x : CtxNo) (told : Told) (call : Calling) (w : Wait) → AnswerKeeps s (answered_by s x told call w)
wait_answers s x told call (OnSync (Left eax)) = told_keeps s told [] (resumed call.import (eax % 256)) s.world (alike s.world.levels)
wait_answers s x told call (OnSync Needed) = tt
wait_answers s x told call (OnSync Entered) = tt
wait_answers s x told call (OnClock wake) = told_keeps s told [] (resumed call.import 0) s.world (alike s.world.levels)
wait_answers s x told call Nothing = outcome_answers (adapter_of s x.0) s told call.writes (outcome_of s x call.import call.words) (row_keeps s x call.import call.words)
wait_answers s x told call (OnLock lock) = outcome_answers (adapter_of s x.0) s told call.writes (outcome_of s x call.import call.words) (row_keeps s x call.import call.words)

answer_keeps : (s : State) (x : CtxNo) (told : Told) → AnswerKeeps s (answered s x told)
answer_keeps s x told = by_call (call_at s x.0)
  where
    by_call : (m : Option Calling) → AnswerKeeps s (option_and_then (λ call. answered_by s x told call call.wait) m)
    by_call None = tt
    by_call (Some call) = wait_answers s x told call call.wait

alike_as : (s t u : LockState) → u ≡ t → OpenAlike s t → OpenAlike s u
alike_as s t u is h = subst (OpenAlike s) (sym is) h

replied_levels : (s : State) (x : CtxNo) (told : Told) (answer : Option Answered) → AnswerKeeps s answer → OpenAlike s.world.levels (replied s x told answer).world.levels
replied_levels s x told None h = alike s.world.levels
replied_levels s x told (Some given) h =
    alike_as s.world.levels given.1.levels _ (charged_levels _ (adapter_of s x.0) given.0.cost ∙ quiet_levels s _ (adapter_of s x.0)) h

spinning_levels : (a : Option AdapterNo) (s : State) (o : Outcome) → KeepsIn a s.world o → OpenAlike s.world.levels (world_spinning s.world o).levels
spinning_levels a s (Spins holder w) h = h.levels
spinning_levels a s (Breaks rule) h = alike s.world.levels
spinning_levels a s (Replies reply w) h = alike s.world.levels
spinning_levels a s (Picks n reply w) h = alike s.world.levels
spinning_levels a s (PicksDescriptor kind handle reply w) h = alike s.world.levels
spinning_levels a s (Sleeps moment) h = alike s.world.levels
spinning_levels a s Synchronizes h = alike s.world.levels

spun_levels : (s : State) (x : CtxNo) (call : Option Calling) → OpenAlike s.world.levels (spun s x call).world.levels
spun_levels s x None = alike s.world.levels
spun_levels s x (Some call) = spinning_levels (adapter_of s x.0) s (outcome_of s x call.import call.words) (row_keeps s x call.import call.words)

-- ---- over a run

record HasLevels (os : List OwnerContext) (ls : List (Option Level)) : Type 0 where
  pub count : length ls ≡ 16
  pub places : Agree os ls

abbrev Has : State → Type 0
Has s = HasLevels s.owner.contexts s.world.levels.contexts

as_before : (os : List OwnerContext) (s t : LockState) → OpenAlike s t → HasLevels os s.contexts → HasLevels os t.contexts
as_before os s t is h = record { count = is.count ∙ h.count; places = λ y. is.places y ∙ h.places y }

of_list : (os : List OwnerContext) (s t : LockState) → t ≡ s → HasLevels os s.contexts → HasLevels os t.contexts
of_list os s t is h = subst (λ (u : LockState). HasLevels os u.contexts) (sym is) h

handlers_as_before : (os ps : List OwnerContext) (ls : List (Option Level)) → ((y : ℕ) → at is_open_context ps y ≡ at is_open_context os y) → HasLevels os ls → HasLevels ps ls
handlers_as_before os ps ls is h = record { count = h.count; places = λ y. h.places y ∙ sym (is y) }

entered_has : (os : List OwnerContext) (b : Option AdapterNo) (h : Handler) (n : ℕ) (x : CtxNo) (level : ℕ) (s : LockState) → length os ≡ 16 → HasLevels os s.contexts
    → HasLevels (slice_set (contexts_entered b h n os) x.0 (Open b h n None)) (levels_behind s (Rattle.irql_lock.specs.LockMoves.moved s (Begin x level))).contexts
entered_has os b h n x level s long has =
    let more = handlers_as_before os (contexts_entered b h n os) s.contexts (entered_open b h n os) has in
    record {
      count = length-set s.contexts x.0 _ ∙ has.count;
      places = set_agree (contexts_entered b h n os) s.contexts x.0 _ _ (has.count ∙ sym long ∙ sym (opened_count b h n os)) refl more.places;
    }

left_has : (os : List OwnerContext) (x : CtxNo) (s : LockState) → length os ≡ 16 → (has_come_back (context_of s x) && not (holds_any s.locks x)) ≡ true → HasLevels os s.contexts
    → HasLevels (slice_set os x.0 Free) (levels_behind s (Rattle.irql_lock.specs.LockMoves.moved s (Leave x))).contexts
left_has os x s long even has =
    subst (λ (b : Bool). HasLevels (slice_set os x.0 Free) (levels_behind s (allow b leave_rule (closed s x))).contexts) (sym even)
    (record { count = length-set s.contexts x.0 _ ∙ has.count; places = set_agree os s.contexts x.0 _ _ (has.count ∙ sym long) refl has.places })

even_of : (b : Bool) (d : Drawn) → is_breaking (asks b 7 d) ≡ false → b ≡ true
even_of true d h = refl
even_of false d h = absurd (cc)

leave_has : (c : Inputs) (s : State) (x : CtxNo) (eax : ℕ) (breaks : Bool) (t : State) → length s.owner.contexts ≡ 16 → is_breaking (leaves c s x eax) ≡ breaks → t.world.levels ≡ s.world.levels → Has s
    → HasLevels (owner_left s.owner (entries.Leave x eax) breaks).contexts (cond breaks s (record t { world = leveled t.world (Leave x) })).world.levels.contexts
leave_has c s x eax true t long is same has = has
leave_has c s x eax false t long is same has =
    subst (λ (u : LockState). HasLevels (slice_set s.owner.contexts x.0 Free) (levels_behind u (Rattle.irql_lock.specs.LockMoves.moved u (Leave x))).contexts) (sym same)
    (left_has s.owner.contexts x s.world.levels long (even_of (leaves_even s x) _ is) has)

spoke_owner : (s : State) (bs : List ℕ) → (all_spoke s bs).world ≡ s.world
unfolding all_spoke
spoke_owner s [] = refl
spoke_owner s (b ∷ bs) = spoke_owner _ bs

stop_has : (c : Inputs) (s : State) (a : ℕ) → length s.owner.contexts ≡ 16 → length s.owner.adapters ≡ length c.adapters → Has s
    → HasLevels (contexts_stopped s.owner.contexts a (all_stopped (change stopped_row s.owner.adapters a))) (all_ended (quieted s s.world a) (filter (ends_context c s a) all_contexts)).levels.contexts
stop_has c s a long rows has = record {
  count = end_count (quieted s s.world a) (filter (ends_context c s a) all_contexts) ∙ has.count;
  places = stop_agree s.owner.contexts (quieted s s.world a) (ends_context c s a) a (all_stopped (change stopped_row s.owner.adapters a)) long
      (λ y. ap (λ b. is_context_of s a y || (is_open s y && (is_none (adapter_of s y) && b))) (last_stop c s a rows)) has.places;
}

-- as many adapters as were given
abbrev AdaptersCounted : Inputs → Type 0
AdaptersCounted c = (s : State) → IsOfRun c s → length s.owner.adapters ≡ length c.adapters

step : (c : Inputs) → AdaptersCounted c → (s : State) (e : Entry) → IsOfRun c s → Has s → Meets c s e → Has (after c s e)
step c given s (entries.Indicate a j bytes holders copied) is has meets = indicate_has
  where
    by_test : (b : Bool) (w v : World) → v.levels ≡ w.levels → w ≡ s.world → HasLevels s.owner.contexts (cond b w v).levels.contexts
    by_test true w v same is = of_list s.owner.contexts s.world.levels w.levels (ap (λ u. u.levels) is) has
    by_test false w v same is = of_list s.owner.contexts s.world.levels v.levels (same ∙ ap (λ u. u.levels) is) has

    indicate_has : Has (after c s (entries.Indicate a j bytes holders copied))
    indicate_has = by_test _ (framed s holders).world _ refl (framed_world s holders)
step c given s (entries.Enter a x h words writes) is has meets =
    let long = (sized c s is).handlers in
    entered_has s.owner.contexts a h s.owner.enters x _ (taken s _ h words writes).world.levels long (of_list s.owner.contexts s.world.levels _ (taken_levels s _ h words writes) has)
step c given s (entries.Leave x eax) is has meets =
    leave_has c s x eax (is_breaking (leaves c s x eax)) (left_row c s _ x eax _) (sized c s is).handlers refl (left_levels c s _ x eax _) has
step c given s (entries.Turn x n) is has meets = of_list s.owner.contexts s.world.levels _ (charged_levels _ (adapter_of s x.0) n) has
step c given s (entries.Call x import words) is has meets =
    handlers_as_before s.owner.contexts _ s.world.levels.contexts (λ y. kept is_open_context (calling import words) s.owner.contexts x.0 y (calling_open import words)) has
step c given s (entries.Reply x eax writes) is has meets =
    let told : Told = record { eax = eax; writes = writes } in
    as_before (change answered_call s.owner.contexts x.0) s.world.levels (replied s x told (answered s x told)).world.levels (replied_levels s x told (answered s x told) (answer_keeps s x told))
    (handlers_as_before s.owner.contexts _ s.world.levels.contexts (λ y. kept is_open_context answered_call s.owner.contexts x.0 y answered_open) has)
step c given s (entries.Spin x lock) is has meets = as_before s.owner.contexts s.world.levels _ (spun_levels s x (call_at s x.0)) has
step c given s (entries.Back loan failed) is has meets = record { count = has.count; places = has.places }
step c given s (entries.Stop a why) is has meets = stop_has c s a.0 (sized c s is).handlers (given s is) has
step c given s _ is has meets = has

fresh : (n y : ℕ) → has_level (replicate n None) y ≡ at is_open_context (replicate n Free) y
fresh zero y = refl
fresh (suc n) zero = refl
fresh (suc n) (suc y) = fresh n y

begun : (c : Inputs) → Has (start c)
begun c = record { count = length-replicate {A = Option Level} 16 None; places = fresh 16 }

has_levels : (c : Inputs) → AdaptersCounted c → (s : State) → IsOfRun c s → Has s
has_levels c given s is = of_run c Has (step c given) (begun c) s is

-- ---- at one context

pub count : AdaptersGiven → (c : Inputs) (s : State) → IsOfRun c s → length s.world.levels.contexts ≡ 16
count given c s is = (has_levels c (λ t of. (counts given c t of).rows) s is).count

pub opened : AdaptersGiven → (c : Inputs) (s : State) (x : CtxNo) → IsOfRun c s → is_open s x.0 ≡ true → IsOpen s.world.levels x
opened given c s x is there = some (context_of s.world.levels x) ((has_levels c (λ t of. (counts given c t of).rows) s is).places x.0 ∙ there)
  where
    some : (m : Option Level) → is_some m ≡ true → IsSome m
    some None h = absurd (cc)
    some (Some l) h = h

free_shut : (os : List OwnerContext) (x : ℕ) → at is_free_context os x ≡ true → at is_open_context os x ≡ false
free_shut [] x h = refl
free_shut (Free ∷ os) zero h = refl
free_shut (Open a k enter call ∷ os) zero h = absurd (cc)
free_shut (o ∷ os) (suc x) h = free_shut os x h

pub closed_where_free : AdaptersGiven → (c : Inputs) (s : State) (x : CtxNo) → IsOfRun c s → is_free s x.0 ≡ true → context_of s.world.levels x ≡ None
closed_where_free given c s x is there = none (context_of s.world.levels x) ((has_levels c (λ t of. (counts given c t of).rows) s is).places x.0 ∙ free_shut s.owner.contexts x.0 there)
  where
    none : (m : Option Level) → is_some m ≡ false → m ≡ None
    none None h = refl
    none (Some l) h = absurd (cc)
