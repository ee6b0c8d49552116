-- The room for stops.
use Rattle.std.proofs.Common.{◌≡◌, ℕ, zero, suc, ◌+◌, ◌≤◌, ◌<◌, Bool, true, false, not, cond, List, [], ◌∷◌, length, get_or, drop, drop-cons, refl, sym, ap, ◌∙◌, arith, max}
use Rattle.std.specs.Prelude.{sum_by}
use Rattle.std.proofs.lemmas.List.Sums.{sum_by-append}
use Rattle.owner_machine.specs.declared.rows.Adapter.{Adapter}
use Rattle.owner_machine.specs.State.{Owner, at, numbers_from, in_front, stands, is_stopped}
use Rattle.owner_machine.specs.Handlers.{outstanding}
use Rattle.owner_book.specs.Stopping.{stop_room}

pub sum_cons : (f : ℕ → ℕ) (x : ℕ) (xs : List ℕ) → sum_by f (x ∷ xs) ≡ f x + sum_by f xs
sum_cons f x xs = let parts = sum_by-append f (x ∷ []) xs in omega (arith, parts)

pub sum_front : (f : ℕ → ℕ) (t : Bool) (x : ℕ) (xs : List ℕ) → sum_by f xs ≤ sum_by f (in_front t x xs)
sum_front f true x xs = let more = sum_cons f x xs in omega (arith, more)
sum_front f false x xs = omega arith

in_sum : {A : Type 0} (f : ℕ → ℕ) (passes : A → Bool) (n a m : ℕ) (rows : List A) → m ≡ n + a → at passes rows a ≡ true → f m ≤ sum_by f (numbers_from n passes rows)
in_sum f passes n a m [] same is = absurd (cc)
in_sum f passes n zero m (row ∷ rows) same is =
    let here = ap (λ (t : Bool). sum_by f (in_front t n (numbers_from (suc n) passes rows))) is in
    let more = sum_cons f n (numbers_from (suc n) passes rows) in
    let equal : m ≡ n = omega (arith, same) in
    let value = ap f equal in
    omega (arith, here, more, value)
in_sum f passes n (suc a) m (row ∷ rows) same is =
    let rest = in_sum f passes (suc n) a m rows (omega (arith, same)) is in
    let more = sum_front f (passes row) n (numbers_from (suc n) passes rows) in
    omega (arith, rest, more)

-- the room holds the stop of each adapter that stands
pub stands_room : (o : Owner) (a : ℕ) → stands o a ≡ true → 1 + outstanding o a ≤ stop_room o
stands_room o a is = in_sum (λ n. 1 + outstanding o n) (λ row. not (is_stopped row.phase)) 0 a a o.adapters (omega arith) is

pub room_for : (o : Owner) (a was room : ℕ) → room ≡ max was (stop_room o + 3) → stands o a ≡ true → outstanding o a < room
room_for o a was room same is = let least = stands_room o a is in omega (arith, least, same)

-- ---- the sum, adapter by adapter

abbrev pub room_of : Owner → ℕ → ℕ
room_of o n = 1 + outstanding o n

abbrev pub passes : Adapter → Bool
passes row = not (is_stopped row.phase)

-- the room for the adapters from one on
abbrev pub left_room : Owner → ℕ → ℕ
left_room o a = sum_by (room_of o) (numbers_from a passes (drop a o.adapters))

left_at : (o : Owner) (a : ℕ) (row : Adapter) (t : Bool) → a < length o.adapters → row ≡ get_or o.adapters a row → passes row ≡ t → left_room o a ≡ sum_by (room_of o) (in_front t a (numbers_from (suc a) passes (drop (suc a) o.adapters)))
left_at o a row t less is test =
    ap (λ rows. sum_by (room_of o) (numbers_from a passes rows)) (drop-cons o.adapters a row less ∙ ap (λ x. x ∷ drop (suc a) o.adapters) (sym is))
    ∙ ap (λ (u : Bool). sum_by (room_of o) (in_front u a (numbers_from (suc a) passes (drop (suc a) o.adapters)))) test

next_number : (a : ℕ) → suc a ≡ a + 1
next_number a = omega arith

pub room_step : (o : Owner) (a room r : ℕ) (row : Adapter) → a < length o.adapters → row ≡ get_or o.adapters a row → r ≡ cond (passes row) (1 + outstanding o a) 0 → room + left_room o a ≡ stop_room o → (room + r) + left_room o (a + 1) ≡ stop_room o
room_step o a room r row less is same all = by_test (passes row) refl same
  where
    by_test : (t : Bool) → passes row ≡ t → r ≡ cond t (1 + outstanding o a) 0 → (room + r) + left_room o (a + 1) ≡ stop_room o
    by_test true test same =
        let here = left_at o a row true less is test in
        let more = sum_cons (room_of o) a (numbers_from (suc a) passes (drop (suc a) o.adapters)) in
        let next = ap (left_room o) (next_number a) in
        omega (arith, here, more, next, all, same)
    by_test false test same =
        let here = left_at o a row false less is test in
        let next = ap (left_room o) (next_number a) in
        omega (arith, here, next, all, same)

none_left : (rows : List Adapter) (a : ℕ) → length rows ≤ a → drop a rows ≡ []
none_left [] zero more = refl
none_left [] (suc a) more = refl
none_left (row ∷ rows) zero more = absurd (omega arith)
none_left (row ∷ rows) (suc a) more = none_left rows a (omega arith)

pub room_whole : (o : Owner) (a room : ℕ) → length o.adapters ≤ a → room + left_room o a ≡ stop_room o → room ≡ stop_room o
room_whole o a room more all = let none = ap (λ rows. sum_by (room_of o) (numbers_from a passes rows)) (none_left o.adapters a more) in omega (arith, none, all)
