-- The first turn that passes is that of the earliest of the timers that pass.
use Rattle.std.proofs.Common.{◌≡◌, ℕ, ◌<◌, ◌≤◌, ◌⊎◌, Bool, true, false, ◌&&◌, ◌||◌, ◌==◌, cond, ltb, leb, List, [], ◌∷◌, Option, Some, None, refl, sym, ap, subst, ◌∙◌, ⊎_elim, arith, lt-ltb, le-leb, filter}
use Rattle.std.specs.List.{find}
use Rattle.std.specs.Option.{option_map, option_map_or}
use Rattle.std.specs.FinMap as table
use Rattle.std.specs.FinMap.{get-entries, entries_sorted}
use Rattle.std.proofs.lemmas.Bool.{false≢true, cases_lt}
use Rattle.dpc_timer.specs.declared.timer.Timer.{Timer}
use Rattle.dpc_timer.specs.declared.timer.Turn.{Turn}
use Rattle.dpc_timer.specs.ClockState.{Timers}
use Rattle.dpc_timer.specs.Turns.{IsBeforeAll, AreInOrder, is_turn, has_turn, is_for, AreTurnsOf}
use Rattle.adapter_timers.proofs.InOrder.{turn, same_turn, turn_itself, first_is_least, before_is}
use Rattle.nd_mem.specs.Space.{address}
use Rattle.guest_world.specs.declared.world.World.{World}
use Rattle.legal_run.specs.State.{Inputs, State}
use Rattle.legal_run.specs.Owed.{Armed, earliest, due_timer, is_alive_timer, alarms, least}
use Rattle.legal_run.specs.After.{with_world}
use Rattle.adapter_timers.specs.Due.{is_his, up_to, AreLiving, is_living}
use Rattle.adapter_timers.proofs.Entries.{stands_is}
use Rattle.adapter_timers.proofs.Earliest.{and_both, and_true, or_left, has, NotAfter-both, earliest_is, none_is_earliest, least_moment, has-filter, filter-map}
use Rattle.adapter_timers.proofs.Lives.{alive_timer}

abbrev turn_of : Armed → Turn
turn_of t = turn t.1.moment t.0

nothing_passes : (b : Bool) → (b && false) ≡ false
nothing_passes true = refl
nothing_passes false = refl

skipped : (q b r : Bool) → (b ≡ true → q ≡ false) → (q && (b || r)) ≡ (q && r)
skipped q true r h = ap (λ x. x && true) (h refl) ∙ sym (ap (λ x. x && r) (h refl))
skipped q false r h = refl

here : (q : ℕ → ℕ → Bool) (x : Turn) (xs : List Turn) (ts : List Armed) → AreInOrder (x ∷ xs) → q x.moment x.address ≡ true → ((m k : ℕ) → has ts m k ≡ (q m k && has_turn (x ∷ xs) m k)) → option_map turn_of (earliest ts) ≡ Some x
here q x xs [] order e same =
    absurd (false≢true (same x.moment x.address ∙ and_true (q x.moment x.address) (has_turn (x ∷ xs) x.moment x.address) e (or_left (is_turn x.moment x.address x) (has_turn xs x.moment x.address) (turn_itself x))))
here q x xs (t ∷ ts) order e same =
    let r = earliest_is t ts in
    let w = r.0 in
    let there = same x.moment x.address ∙ and_true (q x.moment x.address) (has_turn (x ∷ xs) x.moment x.address) e (or_left (is_turn x.moment x.address x) (has_turn xs x.moment x.address) (turn_itself x)) in
    let passes = and_both (q w.1.moment w.0) (has_turn (x ∷ xs) w.1.moment w.0) (sym (same w.1.moment w.0) ∙ r.2.member) in
    let both = NotAfter-both w.1.moment w.0 x.moment x.address (r.2.first x.moment x.address there) (first_is_least x xs w.1.moment w.0 order passes.1) in
    ap (option_map turn_of) r.1 ∙ ap (λ m. Some (turn m w.0)) both.0 ∙ ap (λ k. Some (turn x.moment k)) both.1

pub first_is_earliest : (q : ℕ → ℕ → Bool) (xs : List Turn) (ts : List Armed) → AreInOrder xs → ((m k : ℕ) → has ts m k ≡ (q m k && has_turn xs m k)) → option_map turn_of (earliest ts) ≡ find (λ x. q x.moment x.address) xs
first_is_earliest q [] ts order same = ap (option_map turn_of) (none_is_earliest ts (λ m k. same m k ∙ nothing_passes (q m k)))
first_is_earliest q (x ∷ xs) ts order same =
    elim (q x.moment x.address) as (λ b. q x.moment x.address ≡ b → option_map turn_of (earliest ts) ≡ cond b (Some x) (find (λ y. q y.moment y.address) xs)) [
      | true ↦ λ e. here q x xs ts order e same
      | false ↦ λ e. first_is_earliest q xs ts order.1 (λ m k. same m k ∙ skipped (q m k) (is_turn m k x) (has_turn xs m k) (λ at. at_it m k (same_turn x m k at) e))
    ] refl
  where
    at_it : (m k : ℕ) → x ≡ turn m k → q x.moment x.address ≡ false → q m k ≡ false
    at_it m k at e = subst (λ (y : Turn). q y.moment y.address ≡ false) at e

-- ---- the turns of a clock

for_is : (o : Option Timer) (m : ℕ) → option_map_or (λ timer. timer.moment == m) o false ≡ is_for o m
for_is None m = refl
for_is (Some timer) m = refl

-- a timer among the entries has its turn
pub has-entries : (timers : Timers) (xs : List Turn) (m k : ℕ) → AreTurnsOf (table.get timers) xs → has (table.entries timers) m k ≡ has_turn xs m k
has-entries timers xs m k turns =
    stands_is (λ timer. timer.moment == m) k (table.entries timers) (entries_sorted timers)
    ∙ ap (λ o. option_map_or (λ (timer : Timer). timer.moment == m) o false) (sym (get-entries timers k))
    ∙ for_is (table.get timers k) m
    ∙ sym (turns.same m k)

-- ---- up to the clock

none_below : (test : ℕ → Bool) (now : ℕ) (x : Turn) (xs : List Turn) → IsBeforeAll x xs → now < x.moment → find (λ y. leb y.moment now && test y.address) xs ≡ None
none_below test now x [] all lt = refl
none_below test now x (y ∷ xs) all lt =
    ap (λ b. cond (b && test y.address) (Some y) (find (λ z. leb z.moment now && test z.address) xs)) (above y (before_is x y all.0)) ∙ none_below test now x xs all.1 lt
  where
    above : (y : Turn) → (x.moment < y.moment) ⊎ ((x.moment ≡ y.moment) × (x.address < y.address)) → leb y.moment now ≡ false
    above y h = grind arith

step : (now : ℕ) (x : Turn) (t : Bool) (found further : Option Turn) → leb x.moment now ≡ true → ltb now x.moment ≡ false → found ≡ up_to now further → cond (leb x.moment now && t) (Some x) found ≡ up_to now (cond (ltb now x.moment || t) (Some x) further)
step now x true found further low not_above rest =
    ap (λ p. cond (p && true) (Some x) found) low ∙ sym (ap (λ p. up_to now (cond (p || true) (Some x) further)) not_above ∙ ap (λ p. cond p (Some x) None) low)
step now x false found further low not_above rest =
    ap (λ p. cond (p && false) (Some x) found) low ∙ rest ∙ sym (ap (λ p. up_to now (cond (p || false) (Some x) further)) not_above)

stop : (now : ℕ) (x : Turn) (t : Bool) (found further : Option Turn) → leb x.moment now ≡ false → ltb now x.moment ≡ true → found ≡ None → cond (leb x.moment now && t) (Some x) found ≡ up_to now (cond (ltb now x.moment || t) (Some x) further)
stop now x t found further high above none =
    ap (λ p. cond (p && t) (Some x) found) high ∙ none ∙ sym (ap (λ p. up_to now (cond (p || t) (Some x) further)) above ∙ ap (λ p. cond p (Some x) None) high)

pub up_to_clock : (test : ℕ → Bool) (now : ℕ) (xs : List Turn) → AreInOrder xs → find (λ x. leb x.moment now && test x.address) xs ≡ up_to now (find (λ x. ltb now x.moment || test x.address) xs)
up_to_clock test now [] order = refl
up_to_clock test now (x ∷ xs) order =
    let found = find (λ y. leb y.moment now && test y.address) xs in
    let further = find (λ y. ltb now y.moment || test y.address) xs in
    ⊎_elim (λ (lt : now < x.moment). stop now x (test x.address) found further (grind arith) (lt-ltb now x.moment lt) (none_below test now x xs order.0 lt))
    (λ (le : x.moment ≤ now). step now x (test x.address) found further (le-leb x.moment now le) (grind arith) (up_to_clock test now xs order.1))
    (cases_lt now x.moment)

-- ---- the adapter's due timer

both_pass : (p q r : Bool) → (p && (q && r)) ≡ ((p && q) && r)
both_pass true q r = refl
both_pass false q r = refl

its_address : (o : Option Armed) → option_map (λ x. address x.address) (option_map turn_of o) ≡ option_map (λ t. address t.0) o
its_address None = refl
its_address (Some t) = refl

pub due_is : (s : State) (w : World) (a : ℕ) (xs : List Turn) → AreTurnsOf (table.get w.clock.timers) xs → option_map (λ x. address x.address) (up_to w.clock.clock (find (λ x. ltb w.clock.clock x.moment || is_his w.timers a x.address) xs)) ≡ option_map (λ t. address t.0) (due_timer (with_world s w) a)
due_is s w a xs turns =
    let his = filter (λ (t : Armed). is_his w.timers a t.0) (table.entries w.clock.timers) in
    let now = w.clock.clock in
    let first =
    first_is_earliest (λ m k. leb m now && is_his w.timers a k) xs (filter (λ (t : Armed). leb t.1.moment now) his) turns.order
    (λ m k.
    has-filter (λ t. leb t.1.moment now) (λ n _. leb n now) his m k (λ t. refl)
    ∙ ap (λ b. leb m now && b)
    (has-filter (λ t. is_his w.timers a t.0) (λ _ j. is_his w.timers a j) (table.entries w.clock.timers) m k (λ t. refl)
    ∙ ap (λ b. is_his w.timers a k && b) (has-entries w.clock.timers xs m k turns))
    ∙ both_pass (leb m now) (is_his w.timers a k) (has_turn xs m k)) in
    sym (ap (option_map (λ x. address x.address)) (up_to_clock (is_his w.timers a) now xs turns.order))
    ∙ sym (ap (option_map (λ (x : Turn). address x.address)) first)
    ∙ its_address (earliest (filter (λ (t : Armed). leb t.1.moment now) his))

-- ---- the next moment of the timers of adapters that live

its_moment : (o : Option Armed) → option_map (λ x. x.moment) (option_map turn_of o) ≡ option_map (λ t. t.1.moment) o
its_moment None = refl
its_moment (Some t) = refl

pub alarm_is : (c : Inputs) (s : State) (w : World) (living : List Bool) (xs : List Turn) → AreLiving c s living → AreTurnsOf (table.get w.clock.timers) xs → option_map (λ x. x.moment) (find (λ x. ltb w.clock.clock x.moment && is_living w.timers living x.address) xs) ≡ least (filter (λ m. ltb w.clock.clock m) (alarms c (with_world s w)))
alarm_is c s w living xs are turns =
    let now = w.clock.clock in
    let alive = filter (is_alive_timer c (with_world s w)) (table.entries w.clock.timers) in
    let first =
    first_is_earliest (λ m k. ltb now m && is_living w.timers living k) xs (filter (λ (t : Armed). ltb now t.1.moment) alive) turns.order
    (λ m k.
    has-filter (λ t. ltb now t.1.moment) (λ n _. ltb now n) alive m k (λ t. refl)
    ∙ ap (λ b. ltb now m && b)
    (has-filter (is_alive_timer c (with_world s w)) (λ _ j. is_living w.timers living j) (table.entries w.clock.timers) m k (λ t. alive_timer c s w living t are)
    ∙ ap (λ b. is_living w.timers living k && b) (has-entries w.clock.timers xs m k turns))
    ∙ both_pass (ltb now m) (is_living w.timers living k) (has_turn xs m k)) in
    sym (ap (option_map (λ (x : Turn). x.moment)) first)
    ∙ its_moment (earliest (filter (λ (t : Armed). ltb now t.1.moment) alive))
    ∙ sym (least_moment (filter (λ (t : Armed). ltb now t.1.moment) alive))
    ∙ ap least (sym (filter-map (λ m. ltb now m) (λ (t : Armed). t.1.moment) alive))
