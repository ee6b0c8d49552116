-- The clock without an adapter's timers, by what was given of the timers and by what is armed.
use Rattle.std.proofs.Common.{◌≡◌, ℕ, Bool, true, false, ◌&&◌, ◌||◌, ◌==◌, cond, eq-eqb, ne_eqb, List, [], ◌∷◌, Option, Some, None, is_some, refl, sym, ap, ◌∙◌, map, filter}
use Rattle.std.specs.List.{list_any}
use Rattle.std.specs.Option.{option_map_or}
use Rattle.std.specs.Ordering.{nat_cmp, eq_by_cmp}
use Rattle.std.specs.FinMap as table
use Rattle.std.specs.FinMap.{get-entries, get-remove, entries_sorted, same_map, nat_cmp-IsAntisymmetric}
use Rattle.std.specs.FinMap.Entries.{is_some-find, find-where_key}
use Rattle.std.specs.Cmp.{nat_cmp_total}
use Rattle.nd_mem.specs.Space.{address}
use Rattle.dpc_timer.specs.declared.timer.Timer.{Timer}
use Rattle.dpc_timer.specs.ClockState.{ClockState, Timers as Armed, Cancel, Unqueue, moved}
use Rattle.guest_world.specs.declared.miniport.TimerFunction.{TimerFunction}
use Rattle.guest_world.specs.declared.world.World.{World}
use Rattle.guest_world.specs.Timers.{Timers}
use Rattle.legal_run.specs.State.{State, adapter}
use Rattle.legal_run.specs.After.{cancelled, quieted}
use Rattle.adapter_timers.specs.Cancels.{cancels, without}
use Rattle.adapter_timers.specs.Due.{is_his}
use Rattle.adapter_timers.proofs.Entries.{stands, stands_is}

abbrev is_of : ℕ → TimerFunction → Bool
is_of a f = f.adapter.0 == a

both_taken : {A : Type 0} (s u : Bool) (g : Option A) → cond s None (cond u None g) ≡ cond (u || s) None g
both_taken true true g = refl
both_taken true false g = refl
both_taken false true g = refl
both_taken false false g = refl

-- ---- by what was given

cancel_if : (b : Bool) (k : ClockState) (t q : ℕ) → table.get (cond b (moved k (Cancel (address t))) k).timers q ≡ cond (eq_by_cmp nat_cmp q t && b) None (table.get k.timers q)
cancel_if true k t q = get-remove nat_cmp_total k.timers t q ∙ ap (λ b. cond b None (table.get k.timers q)) (all_there (eq_by_cmp nat_cmp q t))
  where
    all_there : (b : Bool) → b ≡ (b && true)
    all_there true = refl
    all_there false = refl
cancel_if false k t q = ap (λ b. cond b None (table.get k.timers q)) (nothing (eq_by_cmp nat_cmp q t))
  where
    nothing : (b : Bool) → false ≡ (b && false)
    nothing true = refl
    nothing false = refl

cancels_get : (a : ℕ) (ts : List (ℕ × TimerFunction)) (k : ClockState) (q : ℕ) → table.get (cancels a ts k).timers q ≡ cond (stands (is_of a) q ts) None (table.get k.timers q)
unfolding cancels
cancels_get a [] k q = refl
cancels_get a (t ∷ ts) k q =
    cancels_get a ts (cond (is_of a t.1) (moved k (Cancel (address t.0))) k) q
    ∙ ap (λ (o : Option Timer). cond (stands (is_of a) q ts) None o) (cancel_if (is_of a t.1) k t.0 q)
    ∙ both_taken (stands (is_of a) q ts) (eq_by_cmp nat_cmp q t.0 && is_of a t.1) (table.get k.timers q)

one_clock : (b : Bool) (k : ClockState) (t : ℕ) → (cond b (moved k (Cancel (address t))) k).clock ≡ k.clock
one_clock true k t = refl
one_clock false k t = refl

one_queued : (b : Bool) (k : ClockState) (t : ℕ) → (cond b (moved k (Cancel (address t))) k).queued ≡ k.queued
one_queued true k t = refl
one_queued false k t = refl

cancels_clock : (a : ℕ) (ts : List (ℕ × TimerFunction)) (k : ClockState) → (cancels a ts k).clock ≡ k.clock
unfolding cancels
cancels_clock a [] k = refl
cancels_clock a (t ∷ ts) k = cancels_clock a ts (cond (is_of a t.1) (moved k (Cancel (address t.0))) k) ∙ one_clock (is_of a t.1) k t.0

cancels_queued : (a : ℕ) (ts : List (ℕ × TimerFunction)) (k : ClockState) → (cancels a ts k).queued ≡ k.queued
unfolding cancels
cancels_queued a [] k = refl
cancels_queued a (t ∷ ts) k = cancels_queued a ts (cond (is_of a t.1) (moved k (Cancel (address t.0))) k) ∙ one_queued (is_of a t.1) k t.0

-- ---- by what is armed

cancelled_get : (ts : List ℕ) (k : ClockState) (q : ℕ) → table.get (cancelled k ts).timers q ≡ cond (list_any (eq_by_cmp nat_cmp q) ts) None (table.get k.timers q)
unfolding cancelled
cancelled_get [] k q = refl
cancelled_get (t ∷ ts) k q =
    cancelled_get ts (moved k (Cancel (address t))) q
    ∙ ap (λ (o : Option Timer). cond (list_any (eq_by_cmp nat_cmp q) ts) None o) (get-remove nat_cmp_total k.timers t q)
    ∙ both_taken (list_any (eq_by_cmp nat_cmp q) ts) (eq_by_cmp nat_cmp q t) (table.get k.timers q)

cancelled_clock : (ts : List ℕ) (k : ClockState) → (cancelled k ts).clock ≡ k.clock
unfolding cancelled
cancelled_clock [] k = refl
cancelled_clock (t ∷ ts) k = cancelled_clock ts (moved k (Cancel (address t)))

cancelled_queued : (ts : List ℕ) (k : ClockState) → (cancelled k ts).queued ≡ k.queued
unfolding cancelled
cancelled_queued [] k = refl
cancelled_queued (t ∷ ts) k = cancelled_queued ts (moved k (Cancel (address t)))

-- ---- both ways

taken_if : {A : Type 0} (p : Bool) (g : Option A) → cond (is_some (cond p g None)) None g ≡ cond p None g
taken_if true None = refl
taken_if true (Some x) = refl
taken_if false g = refl

by_given : (timers : Timers) (a : ℕ) (k : ClockState) (q : ℕ) → table.get (without timers a k).timers q ≡ cond (is_his timers a q) None (table.get k.timers q)
by_given timers a k q =
    cancels_get a (table.entries timers) k q
    ∙ ap (λ b. cond b None (table.get k.timers q))
    (stands_is (is_of a) q (table.entries timers) (entries_sorted timers) ∙ ap (λ (o : Option TimerFunction). option_map_or (is_of a) o false) (sym (get-entries timers q)))

his_there : (timers : Timers) (armed : Armed) (a q : ℕ) → list_any (eq_by_cmp nat_cmp q) (map (λ t. t.0) (filter (λ t. is_his timers a t.0) (table.entries armed))) ≡ is_some (cond (is_his timers a q) (table.get armed q) None)
his_there timers armed a q =
    sym (is_some-find nat_cmp q (filter (λ t. is_his timers a t.0) (table.entries armed)))
    ∙ ap is_some (find-where_key nat_cmp (is_his timers a) q (λ x t. ap (is_his timers a) (sym (nat_cmp-IsAntisymmetric q x t))) (table.entries armed))
    ∙ ap (λ (o : Option Timer). is_some (cond (is_his timers a q) o None)) (sym (get-entries armed q))

by_armed : (timers : Timers) (a : ℕ) (k : ClockState) (q : ℕ) → table.get (cancelled k (map (λ t. t.0) (filter (λ t. is_his timers a t.0) (table.entries k.timers)))).timers q ≡ cond (is_his timers a q) None (table.get k.timers q)
by_armed timers a k q =
    cancelled_get (map (λ t. t.0) (filter (λ t. is_his timers a t.0) (table.entries k.timers))) k q
    ∙ ap (λ b. cond b None (table.get k.timers q)) (his_there timers k.timers a q)
    ∙ taken_if (is_his timers a q) (table.get k.timers q)

pub same_cancelled : (timers : Timers) (a : ℕ) (k : ClockState) → without timers a k ≡ cancelled k (map (λ t. t.0) (filter (λ t. is_his timers a t.0) (table.entries k.timers)))
same_cancelled timers a k =
    let ts = map (λ t. t.0) (filter (λ t. is_his timers a t.0) (table.entries k.timers)) in
    let n : ClockState = without timers a k in
    let m : ClockState = cancelled k ts in
    let clocks : n.clock ≡ m.clock = cancels_clock a (table.entries timers) k ∙ sym (cancelled_clock ts k) in
    let queues : n.queued ≡ m.queued = cancels_queued a (table.entries timers) k ∙ sym (cancelled_queued ts k) in
    let maps : n.timers ≡ m.timers = same_map nat_cmp_total nat_cmp-IsAntisymmetric n.timers m.timers (λ q. by_given timers a k q ∙ sym (by_armed timers a k q)) in
    λ i. record { clock = clocks i; timers = maps i; queued = queues i }

pub quieted_is : (s : State) (w : World) (a : ℕ) → (record w { clock = moved (without w.timers a w.clock) (Unqueue (adapter a)) }) ≡ quieted s w a
quieted_is s w a = ap (λ k. record w { clock = moved k (Unqueue (adapter a)) }) (same_cancelled w.timers a w.clock)

-- ---- a walk over what was given

pub next_cancelled : (a t : ℕ) (f : TimerFunction) (rest es : List (ℕ × TimerFunction)) (k n m : ClockState) → es ≡ (t, f) ∷ rest → f.adapter.0 ≡ a → n ≡ moved k (Cancel (address t)) → cancels a es k ≡ m → cancels a rest n ≡ m
unfolding cancels
next_cancelled a t f rest es k n m front his is whole =
    ap (cancels a rest) (is ∙ sym (ap (λ b. cond b (moved k (Cancel (address t))) k) (eq-eqb f.adapter.0 a his))) ∙ sym (ap (λ (xs : List (ℕ × TimerFunction)). cancels a xs k) front) ∙ whole

pub next_stays : (a t : ℕ) (f : TimerFunction) (rest es : List (ℕ × TimerFunction)) (k m : ClockState) → es ≡ (t, f) ∷ rest → (f.adapter.0 ≡ a → ⊥) → cancels a es k ≡ m → cancels a rest k ≡ m
unfolding cancels
next_stays a t f rest es k m front other whole =
    ap (cancels a rest) (sym (ap (λ b. cond b (moved k (Cancel (address t))) k) (ne_eqb f.adapter.0 a other))) ∙ sym (ap (λ (xs : List (ℕ × TimerFunction)). cancels a xs k) front) ∙ whole

pub none_left : (a : ℕ) (es : List (ℕ × TimerFunction)) (k m : ClockState) → es ≡ [] → cancels a es k ≡ m → k ≡ m
unfolding cancels
none_left a es k m none whole = sym (ap (λ (xs : List (ℕ × TimerFunction)). cancels a xs k) none) ∙ whole
