-- Turns in rising order, after one is put among them or taken away.
use Rattle.std.proofs.Common.{◌≡◌, ℕ, zero, suc, ◌<◌, ◌≤◌, ◌⊎◌, Bool, true, false, not, ◌&&◌, ◌||◌, ltb, leb, eqb, List, [], ◌∷◌, length, get_or, refl, sym, ap, subst, ◌∙◌, inl, inr, ⊎_elim, arith, ltb-true, leb-true, leb-false, eqb-true, eq-eqb, lt-ltb, le-leb}
use Rattle.std.specs.List.{insert, remove}
use Rattle.std.specs.List.Sorted.{IsPartitionPoint, IsPartitionedBy}
use Rattle.std.proofs.lemmas.Bool.{false≢true, cases_lt}
use Rattle.dpc_timer.specs.declared.timer.Turn.{Turn}
use Rattle.dpc_timer.specs.Turns.{is_before, IsBeforeAll, AreInOrder, is_turn, has_turn}

-- ---- the order of two turns

-- a turn comes before another: by its moment, or by its address
abbrev Before : Turn → Turn → Type 0
Before a b = (a.moment < b.moment) ⊎ ((a.moment ≡ b.moment) × (a.address < b.address))

or_cases : (a b : Bool) → (a || b) ≡ true → (a ≡ true) ⊎ (b ≡ true)
or_cases true b e = inl refl
or_cases false b e = inr e

and_both : (a b : Bool) → (a && b) ≡ true → (a ≡ true) × (b ≡ true)
and_both true b e = (refl, e)
and_both false b e = absurd (false≢true e)

or_left : (a b : Bool) → a ≡ true → (a || b) ≡ true
or_left a b e = ap (λ x. x || b) e

or_right : (a b : Bool) → b ≡ true → (a || b) ≡ true
or_right true b e = refl
or_right false b e = e

or_none : (a b : Bool) → a ≡ false → b ≡ false → (a || b) ≡ false
or_none a b e f = ap (λ x. x || b) e ∙ f

and_true : (a b : Bool) → a ≡ true → b ≡ true → (a && b) ≡ true
and_true a b e f = ap (λ x. x && b) e ∙ f

pub before_is : (a b : Turn) → is_before a b ≡ true → Before a b
before_is a b e =
    ⊎_elim (λ (h : ltb a.moment b.moment ≡ true). inl (ltb-true a.moment b.moment h))
    (λ (h : (eqb a.moment b.moment && ltb a.address b.address) ≡ true).
    let w = and_both (eqb a.moment b.moment) (ltb a.address b.address) h in
    inr (eqb-true a.moment b.moment w.0, ltb-true a.address b.address w.1))
    (or_cases (ltb a.moment b.moment) (eqb a.moment b.moment && ltb a.address b.address) e)

pub is_before_from : (a b : Turn) → Before a b → is_before a b ≡ true
is_before_from a b h =
    ⊎_elim (λ (lt : a.moment < b.moment). or_left (ltb a.moment b.moment) (eqb a.moment b.moment && ltb a.address b.address) (lt-ltb a.moment b.moment lt))
    (λ (w : (a.moment ≡ b.moment) × (a.address < b.address)).
    or_right (ltb a.moment b.moment) (eqb a.moment b.moment && ltb a.address b.address)
    (and_true (eqb a.moment b.moment) (ltb a.address b.address) (eq-eqb a.moment b.moment w.0) (lt-ltb a.address b.address w.1)))
    h

abbrev pub turn : ℕ → ℕ → Turn
turn moment address = record { moment = moment; address = address }

pub same_turn : (e : Turn) (m t : ℕ) → is_turn m t e ≡ true → e ≡ turn m t
same_turn e m t h =
    let w = and_both (eqb e.moment m) (eqb e.address t) h in
    ap (λ n. turn n e.address) (eqb-true e.moment m w.0) ∙ ap (turn m) (eqb-true e.address t w.1)

pub turn_itself : (e : Turn) → is_turn e.moment e.address e ≡ true
turn_itself e = and_true (eqb e.moment e.moment) (eqb e.address e.address) (eq-eqb e.moment e.moment refl) (eq-eqb e.address e.address refl)

not_before_itself : (e : Turn) → is_before e e ≡ true → ⊥
not_before_itself e h = ⊎_elim (λ (lt : e.moment < e.moment). omega arith) (λ (w : (e.moment ≡ e.moment) × (e.address < e.address)). omega arith) (before_is e e h)

before_trans : (a b c : Turn) → is_before a b ≡ true → is_before b c ≡ true → is_before a c ≡ true
before_trans a b c h k =
    let p = before_is a b h in
    let q = before_is b c k in
    is_before_from a c
    (⊎_elim
    (λ (lt : a.moment < b.moment).
    ⊎_elim (λ (lt' : b.moment < c.moment). inl (omega arith)) (λ (w' : (b.moment ≡ c.moment) × (b.address < c.address)). inl (omega arith)) q)
    (λ (w : (a.moment ≡ b.moment) × (a.address < b.address)).
    ⊎_elim (λ (lt' : b.moment < c.moment). inl (omega arith)) (λ (w' : (b.moment ≡ c.moment) × (b.address < c.address)). inr (omega arith, omega arith)) q)
    p)

bool_cases : (b : Bool) → (b ≡ true) ⊎ (b ≡ false)
bool_cases true = inl refl
bool_cases false = inr refl

-- of two turns that differ, the one that does not come before comes after
after_from : (a b : Turn) → is_before a b ≡ false → is_turn b.moment b.address a ≡ false → is_before b a ≡ true
after_from a b h k =
    is_before_from b a
    (⊎_elim (λ (lt : b.moment < a.moment). inl lt)
    (λ (le : a.moment ≤ b.moment).
    ⊎_elim (λ (lt : a.moment < b.moment). absurd (false≢true (sym h ∙ is_before_from a b (inl lt))))
    (λ (ge : b.moment ≤ a.moment).
    let same : a.moment ≡ b.moment = omega arith in
    ⊎_elim (λ (lt : b.address < a.address). inr (sym same, lt))
    (λ (le' : a.address ≤ b.address).
    ⊎_elim (λ (lt : a.address < b.address). absurd (false≢true (sym h ∙ is_before_from a b (inr (same, lt)))))
    (λ (ge' : b.address ≤ a.address).
    let same' : a.address ≡ b.address = omega arith in
    absurd (false≢true (sym k ∙ and_true (eqb a.moment b.moment) (eqb a.address b.address) (eq-eqb a.moment b.moment same) (eq-eqb a.address b.address same'))))
    (cases_lt a.address b.address))
    (cases_lt b.address a.address))
    (cases_lt a.moment b.moment))
    (cases_lt b.moment a.moment))

-- ---- one turn and a list of turns

before_all : (x y : Turn) (xs : List Turn) → is_before x y ≡ true → IsBeforeAll y xs → IsBeforeAll x xs
before_all x y [] h all = tt
before_all x y (z ∷ xs) h all = (before_trans x y z h all.0, before_all x y xs h all.1)

pub before_member : (x : Turn) (xs : List Turn) (m t : ℕ) → IsBeforeAll x xs → has_turn xs m t ≡ true → is_before x (turn m t) ≡ true
before_member x [] m t all h = absurd (false≢true h)
before_member x (y ∷ xs) m t all h =
    ⊎_elim (λ (e : is_turn m t y ≡ true). subst (λ (z : Turn). is_before x z ≡ true) (same_turn y m t e) all.0)
    (λ (e : has_turn xs m t ≡ true). before_member x xs m t all.1 e)
    (or_cases (is_turn m t y) (has_turn xs m t) h)

-- ---- by places

pub in_order_at : (xs : List Turn) (i j : ℕ) (d : Turn) → AreInOrder xs → i < j → j < length xs → is_before (get_or xs i d) (get_or xs j d) ≡ true
in_order_at [] i j d order lt lt' = absurd (omega arith)
in_order_at (x ∷ xs) zero zero d order lt lt' = absurd (omega arith)
in_order_at (x ∷ xs) zero (suc j) d order lt lt' = all_at x xs j d order.0 (omega arith)
  where
    all_at : (x : Turn) (xs : List Turn) (j : ℕ) (d : Turn) → IsBeforeAll x xs → j < length xs → is_before x (get_or xs j d) ≡ true
    all_at x [] j d all lt = absurd (omega arith)
    all_at x (y ∷ ys) zero d all lt = all.0
    all_at x (y ∷ ys) (suc j) d all lt = all_at x ys j d all.1 (omega arith)
in_order_at (x ∷ xs) (suc i) zero d order lt lt' = absurd (omega arith)
in_order_at (x ∷ xs) (suc i) (suc j) d order lt lt' = in_order_at xs i j d order.1 (omega arith) (omega arith)

-- those that come before a turn stand in front of the others
pub parted : (xs : List Turn) (y : Turn) → AreInOrder xs → IsPartitionedBy (λ x. is_before x y) xs
parted xs y order i j d le lt h =
    ⊎_elim (λ (below : i < j). before_trans (get_or xs i d) (get_or xs j d) y (in_order_at xs i j d order below lt) h)
    (λ (ge : j ≤ i). let same : j ≡ i = omega arith in subst (λ k. is_before (get_or xs k d) y ≡ true) same h)
    (cases_lt i j)

pub parted_at : (xs : List Turn) (now : ℕ) → AreInOrder xs → IsPartitionedBy (λ x. leb x.moment now) xs
parted_at xs now order i j d le lt h =
    ⊎_elim
    (λ (below : i < j).
    let high = leb-true (get_or xs j d).moment now h in
    le-leb (get_or xs i d).moment now
    (⊎_elim (λ (less : (get_or xs i d).moment < (get_or xs j d).moment). omega arith)
    (λ (w : ((get_or xs i d).moment ≡ (get_or xs j d).moment) × ((get_or xs i d).address < (get_or xs j d).address)). omega arith)
    (before_is (get_or xs i d) (get_or xs j d) (in_order_at xs i j d order below lt))))
    (λ (ge : j ≤ i). let same : j ≡ i = omega arith in subst (λ k. leb (get_or xs k d).moment now ≡ true) same h)
    (cases_lt i j)

-- ---- a place in the order, walked down to

-- the turns in front of the place come before y, and those from it on do not
abbrev IsPlace : List Turn → ℕ → Turn → Type 0
IsPlace [] i y = i ≡ 0
IsPlace (x ∷ xs) zero y = (is_before x y ≡ false) × IsPlace xs zero y
IsPlace (x ∷ xs) (suc i) y = (is_before x y ≡ true) × IsPlace xs i y

pub place_from : (xs : List Turn) (i : ℕ) (y : Turn) → i ≤ length xs → IsPartitionPoint (λ x. is_before x y ≡ true) (λ x. is_before x y ≡ false) xs i → IsPlace xs i y
place_from [] i y le point = omega arith
place_from (x ∷ xs) zero y le point =
    (point.1 0 x (omega arith) (omega arith), place_from xs zero y (omega arith) (λ k d low high. absurd (omega arith), λ k d low high. point.1 (suc k) d (omega arith) (omega arith)))
place_from (x ∷ xs) (suc i) y le point =
    (point.0 0 x (omega arith) (omega arith), place_from xs i y (omega arith) (λ k d low high. point.0 (suc k) d (omega arith) (omega arith), λ k d low high. point.1 (suc k) d (omega arith) (omega arith)))

-- ---- a turn is put at its place

all_after : (xs : List Turn) (y : Turn) → IsPlace xs zero y → has_turn xs y.moment y.address ≡ false → IsBeforeAll y xs
all_after [] y place none = tt
all_after (x ∷ xs) y place none =
    ⊎_elim (λ (e : is_turn y.moment y.address x ≡ true). absurd (false≢true (sym none ∙ or_left (is_turn y.moment y.address x) (has_turn xs y.moment y.address) e)))
    (λ (e : is_turn y.moment y.address x ≡ false).
    let rest : has_turn xs y.moment y.address ≡ false = sym (ap (λ b. b || has_turn xs y.moment y.address) e) ∙ none in
    (after_from x y place.0 e, all_after xs y place.1 rest))
    (bool_cases (is_turn y.moment y.address x))

all_insert : (x y : Turn) (xs : List Turn) (i : ℕ) → IsBeforeAll x xs → is_before x y ≡ true → IsPlace xs i y → IsBeforeAll x (insert xs i y)
all_insert x y [] zero all h place = (h, tt)
all_insert x y [] (suc i) all h place = absurd (omega arith)
all_insert x y (z ∷ xs) zero all h place = (h, all)
all_insert x y (z ∷ xs) (suc i) all h place = (all.0, all_insert x y xs i all.1 h place.1)

pub in_order-insert : (xs : List Turn) (i : ℕ) (y : Turn) → AreInOrder xs → IsPlace xs i y → has_turn xs y.moment y.address ≡ false → AreInOrder (insert xs i y)
in_order-insert [] zero y order place none = (tt, tt)
in_order-insert [] (suc i) y order place none = absurd (omega arith)
in_order-insert (x ∷ xs) zero y order place none = (all_after (x ∷ xs) y place none, order)
in_order-insert (x ∷ xs) (suc i) y order place none =
    ⊎_elim (λ (e : is_turn y.moment y.address x ≡ true). absurd (false≢true (sym none ∙ or_left (is_turn y.moment y.address x) (has_turn xs y.moment y.address) e)))
    (λ (e : is_turn y.moment y.address x ≡ false).
    let rest : has_turn xs y.moment y.address ≡ false = sym (ap (λ b. b || has_turn xs y.moment y.address) e) ∙ none in
    (all_insert x y xs i order.0 place.0 place.1, in_order-insert xs i y order.1 place.1 rest))
    (bool_cases (is_turn y.moment y.address x))

or_swap : (a b c : Bool) → (a || (b || c)) ≡ (b || (a || c))
or_swap true true c = refl
or_swap true false c = refl
or_swap false b c = refl

pub has-insert : (xs : List Turn) (i : ℕ) (y : Turn) (m t : ℕ) → i ≤ length xs → has_turn (insert xs i y) m t ≡ (is_turn m t y || has_turn xs m t)
has-insert [] zero y m t le = refl
has-insert [] (suc i) y m t le = absurd (omega arith)
has-insert (x ∷ xs) zero y m t le = refl
has-insert (x ∷ xs) (suc i) y m t le = ap (λ b. is_turn m t x || b) (has-insert xs i y m t (omega arith)) ∙ or_swap (is_turn m t x) (is_turn m t y) (has_turn xs m t)

-- ---- a turn is taken away

-- it stands at its place
abbrev StandsAt : List Turn → ℕ → Turn → Type 0
StandsAt [] i y = ⊥
StandsAt (x ∷ xs) zero y = x ≡ y
StandsAt (x ∷ xs) (suc i) y = StandsAt xs i y

pub stands : (xs : List Turn) (i : ℕ) (y : Turn) → AreInOrder xs → IsPlace xs i y → has_turn xs y.moment y.address ≡ true → StandsAt xs i y
stands [] i y order place h = absurd (false≢true h)
stands (x ∷ xs) zero y order place h =
    ⊎_elim (λ (e : is_turn y.moment y.address x ≡ true). same_turn x y.moment y.address e)
    (λ (e : has_turn xs y.moment y.address ≡ true). absurd (false≢true (sym place.0 ∙ before_member x xs y.moment y.address order.0 e)))
    (or_cases (is_turn y.moment y.address x) (has_turn xs y.moment y.address) h)
stands (x ∷ xs) (suc i) y order place h =
    ⊎_elim (λ (e : is_turn y.moment y.address x ≡ true). absurd (not_before_itself y (subst (λ (z : Turn). is_before z y ≡ true) (same_turn x y.moment y.address e) place.0)))
    (λ (e : has_turn xs y.moment y.address ≡ true). stands xs i y order.1 place.1 e)
    (or_cases (is_turn y.moment y.address x) (has_turn xs y.moment y.address) h)

pub stands_within : (xs : List Turn) (i : ℕ) (y : Turn) → StandsAt xs i y → i < length xs
stands_within [] i y at = absurd at
stands_within (x ∷ xs) zero y at = omega arith
stands_within (x ∷ xs) (suc i) y at = let lt = stands_within xs i y at in omega arith

all_remove : (x : Turn) (xs : List Turn) (i : ℕ) → IsBeforeAll x xs → IsBeforeAll x (remove xs i)
all_remove x [] zero all = tt
all_remove x [] (suc i) all = tt
all_remove x (z ∷ xs) zero all = all.1
all_remove x (z ∷ xs) (suc i) all = (all.0, all_remove x xs i all.1)

pub in_order-remove : (xs : List Turn) (i : ℕ) → AreInOrder xs → AreInOrder (remove xs i)
in_order-remove [] zero order = tt
in_order-remove [] (suc i) order = tt
in_order-remove (x ∷ xs) zero order = order.1
in_order-remove (x ∷ xs) (suc i) order = (all_remove x xs i order.0, in_order-remove xs i order.1)

-- what is behind a turn is not it
none_behind : (x : Turn) (xs : List Turn) (m t : ℕ) → IsBeforeAll x xs → is_turn m t x ≡ true → has_turn xs m t ≡ false
none_behind x xs m t all e =
    ⊎_elim (λ (h : has_turn xs m t ≡ true). absurd (not_before_itself x (subst (λ (z : Turn). is_before x z ≡ true) (sym (same_turn x m t e)) (before_member x xs m t all h))))
    (λ (h : has_turn xs m t ≡ false). h)
    (bool_cases (has_turn xs m t))

take_first : (a c : Bool) → (a ≡ true → c ≡ false) → c ≡ (not a && (a || c))
take_first true c h = h refl
take_first false c h = refl

take_later : (a b c : Bool) → (b ≡ true → a ≡ false) → (a || (not b && c)) ≡ (not b && (a || c))
take_later true true c h = h refl
take_later false true c h = refl
take_later a false c h = refl

pub has-remove : (xs : List Turn) (i : ℕ) (y : Turn) (m t : ℕ) → AreInOrder xs → IsPlace xs i y → StandsAt xs i y → has_turn (remove xs i) m t ≡ (not (is_turn m t y) && has_turn xs m t)
has-remove [] i y m t order place at = absurd at
has-remove (x ∷ xs) zero y m t order place at =
    subst (λ (z : Turn). has_turn xs m t ≡ (not (is_turn m t z) && (is_turn m t x || has_turn xs m t))) at (take_first (is_turn m t x) (has_turn xs m t) (none_behind x xs m t order.0))
has-remove (x ∷ xs) (suc i) y m t order place at =
    ap (λ b. is_turn m t x || b) (has-remove xs i y m t order.1 place.1 at)
    ∙ take_later (is_turn m t x) (is_turn m t y) (has_turn xs m t)
    (λ e.
    ⊎_elim
    (λ (h : is_turn m t x ≡ true).
    absurd (not_before_itself y (subst (λ (z : Turn). is_before z y ≡ true) (same_turn x m t h ∙ sym (same_turn y m t e)) place.0)))
    (λ (h : is_turn m t x ≡ false). h)
    (bool_cases (is_turn m t x)))

-- ---- the first turn, and the first above a moment

pub first_is_least : (x : Turn) (xs : List Turn) (m t : ℕ) → AreInOrder (x ∷ xs) → has_turn (x ∷ xs) m t ≡ true → (x.moment < m) ⊎ ((x.moment ≡ m) × (x.address ≤ t))
first_is_least x xs m t order h =
    ⊎_elim
    (λ (e : is_turn m t x ≡ true).
    let w = and_both (eqb x.moment m) (eqb x.address t) e in
    let same = eqb-true x.address t w.1 in
    inr (eqb-true x.moment m w.0, omega arith))
    (λ (e : has_turn xs m t ≡ true).
    ⊎_elim (λ (lt : x.moment < m). inl lt) (λ (w : (x.moment ≡ m) × (x.address < t)). let lt = w.1 in inr (w.0, omega arith)) (before_is x (turn m t) (before_member x xs m t order.0 e)))
    (or_cases (is_turn m t x) (has_turn xs m t) h)

-- the turns in front of the place are not above the moment, and those from it on are
abbrev IsAbove : List Turn → ℕ → ℕ → Type 0
IsAbove [] i now = i ≡ 0
IsAbove (x ∷ xs) zero now = (now < x.moment) × IsAbove xs zero now
IsAbove (x ∷ xs) (suc i) now = (x.moment ≤ now) × IsAbove xs i now

pub above_from : (xs : List Turn) (i now : ℕ) → i ≤ length xs → IsPartitionPoint (λ x. leb x.moment now ≡ true) (λ x. leb x.moment now ≡ false) xs i → IsAbove xs i now
above_from [] i now le point = omega arith
above_from (x ∷ xs) zero now le point =
    (leb-false x.moment now (point.1 0 x (omega arith) (omega arith)), above_from xs zero now (omega arith) (λ k d low high. absurd (omega arith), λ k d low high. point.1 (suc k) d (omega arith) (omega arith)))
above_from (x ∷ xs) (suc i) now le point =
    (leb-true x.moment now (point.0 0 x (omega arith) (omega arith)), above_from xs i now (omega arith) (λ k d low high. point.0 (suc k) d (omega arith) (omega arith), λ k d low high. point.1 (suc k) d (omega arith) (omega arith)))

pub above_found : (xs : List Turn) (i now : ℕ) (d : Turn) → IsAbove xs i now → i < length xs → (now < (get_or xs i d).moment) × (has_turn xs (get_or xs i d).moment (get_or xs i d).address ≡ true)
above_found [] i now d above lt = absurd (omega arith)
above_found (x ∷ xs) zero now d above lt = (above.0, or_left (is_turn x.moment x.address x) (has_turn xs x.moment x.address) (turn_itself x))
above_found (x ∷ xs) (suc i) now d above lt =
    let w = above_found xs i now d above.1 (omega arith) in
    let e = get_or xs i d in
    (w.0, or_right (is_turn e.moment e.address x) (has_turn xs e.moment e.address) w.1)

pub above_least : (xs : List Turn) (i now : ℕ) (d : Turn) (m t : ℕ) → AreInOrder xs → IsAbove xs i now → i < length xs → has_turn xs m t ≡ true → now < m → (get_or xs i d).moment ≤ m
above_least [] i now d m t order above lt h later = absurd (omega arith)
above_least (x ∷ xs) zero now d m t order above lt h later =
    ⊎_elim (λ (less : x.moment < m). omega arith) (λ (w : (x.moment ≡ m) × (x.address ≤ t)). let same = w.0 in omega arith) (first_is_least x xs m t order h)
above_least (x ∷ xs) (suc i) now d m t order above lt h later =
    ⊎_elim (λ (e : is_turn m t x ≡ true). let low = above.0 in let same = eqb-true x.moment m (and_both (eqb x.moment m) (eqb x.address t) e).0 in absurd (omega arith))
    (λ (e : has_turn xs m t ≡ true). above_least xs i now d m t order.1 above.1 (omega arith) e later)
    (or_cases (is_turn m t x) (has_turn xs m t) h)

pub above_none : (xs : List Turn) (i now m t : ℕ) → IsAbove xs i now → length xs ≤ i → has_turn xs m t ≡ true → m ≤ now
above_none [] i now m t above ge h = absurd (false≢true h)
above_none (x ∷ xs) zero now m t above ge h = absurd (omega arith)
above_none (x ∷ xs) (suc i) now m t above ge h =
    ⊎_elim (λ (e : is_turn m t x ≡ true). let low = above.0 in let same = eqb-true x.moment m (and_both (eqb x.moment m) (eqb x.address t) e).0 in omega arith)
    (λ (e : has_turn xs m t ≡ true). above_none xs i now m t above.1 (omega arith) e)
    (or_cases (is_turn m t x) (has_turn xs m t) h)

pub front_is_least : (xs : List Turn) (e : Turn) (m t : ℕ) → AreInOrder xs → 0 < length xs → e ≡ get_or xs 0 e → has_turn xs m t ≡ true → (e.moment < m) ⊎ ((e.moment ≡ m) × (e.address ≤ t))
front_is_least [] e m t order lt read h = absurd (omega arith)
front_is_least (x ∷ xs) e m t order lt read h = subst (λ (z : Turn). (z.moment < m) ⊎ ((z.moment ≡ m) × (z.address ≤ t))) (sym read) (first_is_least x xs m t order h)
