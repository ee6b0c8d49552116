-- Turns in rising order: the first is the least of those that are there.
use Rattle.std.proofs.Common.{◌≡◌, ℕ, ◌<◌, ◌≤◌, ◌⊎◌, Bool, true, false, ◌&&◌, ◌||◌, ltb, eqb, List, [], ◌∷◌, refl, ap, subst, ◌∙◌, inl, inr, ⊎_elim, arith, ltb-true, eqb-true, eq-eqb}
use Rattle.std.proofs.lemmas.Bool.{false≢true}
use Rattle.dpc_timer.specs.declared.timer.Turn.{Turn}
use Rattle.dpc_timer.specs.Turns.{is_before, IsBeforeAll, AreInOrder, is_turn, has_turn}

-- a turn comes before another: by its moment, or by its address
abbrev Before : Turn → Turn → Type 0
Before a b = (a.moment < b.moment) ⊎ ((a.moment ≡ b.moment) × (a.address < b.address))

or_cases : (a b : Bool) → (a || b) ≡ true → (a ≡ true) ⊎ (b ≡ true)
or_cases true b e = inl refl
or_cases false b e = inr e

and_both : (a b : Bool) → (a && b) ≡ true → (a ≡ true) × (b ≡ true)
and_both true b e = (refl, e)
and_both false b e = absurd (false≢true e)

or_left : (a b : Bool) → a ≡ true → (a || b) ≡ true
or_left a b e = ap (λ x. x || b) e

and_true : (a b : Bool) → a ≡ true → b ≡ true → (a && b) ≡ true
and_true a b e f = ap (λ x. x && b) e ∙ f

pub before_is : (a b : Turn) → is_before a b ≡ true → Before a b
before_is a b e =
    ⊎_elim (λ (h : ltb a.moment b.moment ≡ true). inl (ltb-true a.moment b.moment h))
    (λ (h : (eqb a.moment b.moment && ltb a.address b.address) ≡ true).
    let w = and_both (eqb a.moment b.moment) (ltb a.address b.address) h in
    inr (eqb-true a.moment b.moment w.0, ltb-true a.address b.address w.1))
    (or_cases (ltb a.moment b.moment) (eqb a.moment b.moment && ltb a.address b.address) e)

abbrev pub turn : ℕ → ℕ → Turn
turn moment address = record { moment = moment; address = address }

pub same_turn : (e : Turn) (m t : ℕ) → is_turn m t e ≡ true → e ≡ turn m t
same_turn e m t h =
    let w = and_both (eqb e.moment m) (eqb e.address t) h in
    ap (λ n. turn n e.address) (eqb-true e.moment m w.0) ∙ ap (turn m) (eqb-true e.address t w.1)

pub turn_itself : (e : Turn) → is_turn e.moment e.address e ≡ true
turn_itself e = and_true (eqb e.moment e.moment) (eqb e.address e.address) (eq-eqb e.moment e.moment refl) (eq-eqb e.address e.address refl)

pub before_member : (x : Turn) (xs : List Turn) (m t : ℕ) → IsBeforeAll x xs → has_turn xs m t ≡ true → is_before x (turn m t) ≡ true
before_member x [] m t all h = absurd (false≢true h)
before_member x (y ∷ xs) m t all h =
    ⊎_elim (λ (e : is_turn m t y ≡ true). subst (λ (z : Turn). is_before x z ≡ true) (same_turn y m t e) all.0)
    (λ (e : has_turn xs m t ≡ true). before_member x xs m t all.1 e)
    (or_cases (is_turn m t y) (has_turn xs m t) h)

pub first_is_least : (x : Turn) (xs : List Turn) (m t : ℕ) → AreInOrder (x ∷ xs) → has_turn (x ∷ xs) m t ≡ true → (x.moment < m) ⊎ ((x.moment ≡ m) × (x.address ≤ t))
first_is_least x xs m t order h =
    ⊎_elim
    (λ (e : is_turn m t x ≡ true).
    let w = and_both (eqb x.moment m) (eqb x.address t) e in
    let same = eqb-true x.address t w.1 in
    inr (eqb-true x.moment m w.0, omega arith))
    (λ (e : has_turn xs m t ≡ true).
    ⊎_elim (λ (lt : x.moment < m). inl lt) (λ (w : (x.moment ≡ m) × (x.address < t)). let lt = w.1 in inr (w.0, omega arith)) (before_is x (turn m t) (before_member x xs m t order.0 e)))
    (or_cases (is_turn m t x) (has_turn xs m t) h)
