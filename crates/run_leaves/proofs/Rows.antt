-- Rows, and how many of them pass a test.
use Rattle.std.proofs.Common.{◌≡◌, ℕ, zero, suc, ◌+◌, ◌≤◌, ◌<◌, Bool, true, false, not, ◌&&◌, ◌==◌, cond, List, [], ◌∷◌, Some, refl, sym, ap, ◌∙◌, subst, arith}
use Rattle.std.specs.Prelude.{count_by, sum_by}
use Rattle.std.specs.List.{position}
use Rattle.std.specs.Option.{option_map_or}
use Rattle.std.proofs.lemmas.Option.{slice_get-get_or}
use Rattle.std.proofs.lemmas.List.Sums.{sum_by-append}
use Rattle.std.proofs.lemmas.List.Quantifiers.{position-Some}
use Rattle.owner_machine.specs.declared.rows.Adapter.{Adapter}
use Rattle.owner_machine.specs.declared.rows.Packet.{Packet}
use Rattle.owner_machine.specs.declared.rows.Place.{Place}
use Rattle.owner_machine.specs.declared.rows.Place.TheVariants as places
use Rattle.owner_machine.specs.State.{Owner, at, change, in_front, is_resetting, is_stopped, numbers_from, phase_is, stands}
use Rattle.owner_machine.specs.Packets.{held_of, out_of, is_miniport, is_out}
use Rattle.owner_machine.specs.Loans.{away_of}
use Rattle.owner_machine.specs.Requests.{open_of}
use Rattle.owner_machine.specs.Handlers.{outstanding}
use Rattle.owner_book.specs.Stopping.{stop_room}
use Rattle.nd_base.specs.declared.numbers.Phase.{Phase}
use Rattle.nd_base.specs.declared.numbers.Phase.TheVariants.{Resetting}

pub and_first : (a b : Bool) → a && b ≡ true → a ≡ true
and_first true b h = refl
and_first false b h = h

pub and_second : (a b : Bool) → a && b ≡ true → b ≡ true
and_second true b h = h
and_second false b h = absurd (cc)

sum_cons : {A : Type 0} (f : A → ℕ) (x : A) (xs : List A) → sum_by f (x ∷ xs) ≡ f x + sum_by f xs
sum_cons f x xs = let parts = sum_by-append f (x ∷ []) xs in omega (arith, parts)

pub count_cons : {A : Type 0} (p : A → Bool) (x : A) (xs : List A) → count_by p (x ∷ xs) ≡ cond (p x) 1 0 + count_by p xs
count_cons p x xs = sum_cons (λ y. cond (p y) 1 0) x xs

-- where the row of a number passes, some do
pub some_pass : {A : Type 0} (p : A → Bool) (rows : List A) (k : ℕ) → at p rows k ≡ true → 0 < count_by p rows
some_pass p [] k h = absurd (cc)
some_pass p (row ∷ rows) zero h = let one = count_cons p row rows ∙ ap (λ b. cond b 1 0 + count_by p rows) h in omega (arith, one)
some_pass p (row ∷ rows) (suc k) h = let rest = some_pass p rows k h in let more = count_cons p row rows in omega (arith, rest, more)

-- what passes one test passes the other
pub also_at : {A : Type 0} (p q : A → Bool) (rows : List A) (k : ℕ) → ((row : A) → p row ≡ true → q row ≡ true) → at p rows k ≡ true → at q rows k ≡ true
also_at p q [] k more h = absurd (cc)
also_at p q (row ∷ rows) zero more h = more row h
also_at p q (row ∷ rows) (suc k) more h = also_at p q rows k more h

-- the least row that passes passes
pub first_passes : {A : Type 0} (test : A → Bool) (rows : List A) (none : A) (k : ℕ) → position test rows ≡ Some k → at test rows k ≡ true
first_passes test rows none k found = let found_at = position-Some test rows k none found in ap (λ o. option_map_or test o false) (slice_get-get_or rows k none found_at.0) ∙ found_at.1

-- a change of a row that passes, and then passes no more, leaves one less
pub one_less : {A : Type 0} (p : A → Bool) (f : A → A) (rows : List A) (k : ℕ) → ((row : A) → p row ≡ true → p (f row) ≡ false) → at p rows k ≡ true → count_by p (change f rows k) + 1 ≡ count_by p rows
one_less p f [] k ends h = absurd (cc)
one_less p f (row ∷ rows) zero ends h =
    let one = count_cons p (f row) rows ∙ ap (λ b. cond b 1 0 + count_by p rows) (ends row h) in
    let two = count_cons p row rows ∙ ap (λ b. cond b 1 0 + count_by p rows) h in
    omega (arith, one, two)
one_less p f (row ∷ rows) (suc k) ends h =
    let rest = one_less p f rows k ends h in
    let one = count_cons p row (change f rows k) in
    let two = count_cons p row rows in
    omega (arith, rest, one, two)

pub same_rows : {A : Type 0} (f : A → A) (rows : List A) (k : ℕ) → ((row : A) → f row ≡ row) → change f rows k ≡ rows
same_rows f [] k same = refl
same_rows f (row ∷ rows) zero same = ap (λ r. r ∷ rows) (same row)
same_rows f (row ∷ rows) (suc k) same = ap (λ rs. row ∷ rs) (same_rows f rows k same)

-- a change after which no row passes leaves no more
pub no_more_pass : {A : Type 0} (p : A → Bool) (f : A → A) (rows : List A) (k : ℕ) → ((row : A) → p (f row) ≡ false) → count_by p (change f rows k) ≤ count_by p rows
no_more_pass p f [] k ends = omega arith
no_more_pass p f (row ∷ rows) zero ends =
    let one = count_cons p (f row) rows ∙ ap (λ b. cond b 1 0 + count_by p rows) (ends row) in
    let two = count_cons p row rows in
    omega (arith, one, two)
no_more_pass p f (row ∷ rows) (suc k) ends =
    let rest = no_more_pass p f rows k ends in
    let one = count_cons p row (change f rows k) in
    let two = count_cons p row rows in
    omega (arith, rest, one, two)

-- the row that was changed
pub changed_here : {A : Type 0} (p q : A → Bool) (f : A → A) (rows : List A) (k : ℕ) → ((row : A) → q (f row) ≡ true) → at p rows k ≡ true → at q (change f rows k) k ≡ true
changed_here p q f [] k is h = absurd (cc)
changed_here p q f (row ∷ rows) zero is h = is row
changed_here p q f (row ∷ rows) (suc k) is h = changed_here p q f rows k is h

-- ---- room

fewer : {A : Type 0} (f g : ℕ → ℕ) (p : A → Bool) (m : ℕ) (rows : List A) → ((b : ℕ) → f b ≤ g b) → sum_by f (numbers_from m p rows) ≤ sum_by g (numbers_from m p rows)
fewer f g p m [] less = omega arith
fewer f g p m (row ∷ rows) less = by (p row) (fewer f g p (suc m) rows less)
  where
    by : (b : Bool) → sum_by f (numbers_from (suc m) p rows) ≤ sum_by g (numbers_from (suc m) p rows) → sum_by f (in_front b m (numbers_from (suc m) p rows)) ≤ sum_by g (in_front b m (numbers_from (suc m) p rows))
    by true rest = let one = sum_cons f m (numbers_from (suc m) p rows) in let two = sum_cons g m (numbers_from (suc m) p rows) in let here = less m in omega (arith, rest, one, two, here)
    by false rest = rest

-- no number has more, and one that passes has one less
fewer_by_one : {A : Type 0} (f g : ℕ → ℕ) (p : A → Bool) (n m k : ℕ) (rows : List A) → ((b : ℕ) → f b ≤ g b) → f n + 1 ≤ g n → m + k ≡ n → at p rows k ≡ true
    → sum_by f (numbers_from m p rows) + 1 ≤ sum_by g (numbers_from m p rows)
fewer_by_one f g p n m k [] less one there h = absurd (cc)
fewer_by_one f g p n m zero (row ∷ rows) less one there h = here (p row) h
  where
    here : (b : Bool) → b ≡ true → sum_by f (in_front b m (numbers_from (suc m) p rows)) + 1 ≤ sum_by g (in_front b m (numbers_from (suc m) p rows))
    here true is =
        let same : m ≡ n = omega (arith, there) in
        let low : f m ≡ f n = ap f same in
        let high : g m ≡ g n = ap g same in
        let rest = fewer f g p (suc m) rows less in
        let first = sum_cons f m (numbers_from (suc m) p rows) in
        let second = sum_cons g m (numbers_from (suc m) p rows) in
        omega (arith, one, low, high, rest, first, second)
    here false is = absurd (cc)
fewer_by_one f g p n m (suc k) (row ∷ rows) less one there h = behind (p row) (fewer_by_one f g p n (suc m) k rows less one (omega (arith, there)) h)
  where
    behind : (b : Bool) → sum_by f (numbers_from (suc m) p rows) + 1 ≤ sum_by g (numbers_from (suc m) p rows)
        → sum_by f (in_front b m (numbers_from (suc m) p rows)) + 1 ≤ sum_by g (in_front b m (numbers_from (suc m) p rows))
    behind true rest = let first = sum_cons f m (numbers_from (suc m) p rows) in let second = sum_cons g m (numbers_from (suc m) p rows) in let here = less m in omega (arith, rest, first, second, here)
    behind false rest = rest

held_is_out : (a : ℕ) (p : Packet) → held_of a p ≡ true → out_of a p ≡ true
held_is_out a p h = ap (λ b. b && (p.adapter.0 == a)) (by p.place (and_first (is_miniport p.place) (p.adapter.0 == a) h)) ∙ and_second (is_miniport p.place) (p.adapter.0 == a) h
  where
    by : (place : Place) → is_miniport place ≡ true → is_out place ≡ true
    by places.Miniport h = refl
    by _ h = absurd (cc)

-- the stops take less room by one where a packet of an adapter that is not stopped ends
pub room_falls : (o n : Owner) (a k : ℕ) (f : Packet → Packet) → n.packets ≡ change f o.packets k → n.loans ≡ o.loans → n.requests ≡ o.requests → n.adapters ≡ o.adapters
    → ((p : Packet) → is_out (f p).place ≡ false) → at (held_of a) o.packets k ≡ true → stands o a ≡ true → stop_room n + 1 ≤ stop_room o
room_falls o n a k f packets loans requests rows ends held standing =
    let less : (b : ℕ) → 1 + outstanding n b ≤ 1 + outstanding o b =
    λ b. let count : count_by (out_of b) n.packets ≡ count_by (out_of b) (change f o.packets k) = ap (count_by (out_of b)) packets in
    let away : count_by (away_of b) n.loans ≡ count_by (away_of b) o.loans = ap (count_by (away_of b)) loans in
    let asked : count_by (open_of b) n.requests ≡ count_by (open_of b) o.requests = ap (count_by (open_of b)) requests in
    let fewer = no_more_pass (out_of b) f o.packets k (λ p. ap (λ t. t && ((f p).adapter.0 == b)) (ends p)) in
    omega (arith, count, away, asked, fewer) in
    let one : (1 + outstanding n a) + 1 ≤ 1 + outstanding o a =
    let count : count_by (out_of a) n.packets ≡ count_by (out_of a) (change f o.packets k) = ap (count_by (out_of a)) packets in
    let away : count_by (away_of a) n.loans ≡ count_by (away_of a) o.loans = ap (count_by (away_of a)) loans in
    let asked : count_by (open_of a) n.requests ≡ count_by (open_of a) o.requests = ap (count_by (open_of a)) requests in
    let fewer = one_less (out_of a) f o.packets k (λ p h. ap (λ t. t && ((f p).adapter.0 == a)) (ends p)) (also_at (held_of a) (out_of a) o.packets k (held_is_out a) held) in
    omega (arith, count, away, asked, fewer) in
    subst (λ (xs : List Adapter). sum_by (λ b. 1 + outstanding n b) (numbers_from 0 (λ row. not (is_stopped row.phase)) xs) + 1 ≤ stop_room o) (sym rows)
    (fewer_by_one (λ b. 1 + outstanding n b) (λ b. 1 + outstanding o b) (λ (row : Adapter). not (is_stopped row.phase)) a 0 a o.adapters less one (omega arith) standing)

-- the stop of an adapter that is not stopped takes room
pub room_for_one : (o : Owner) (n : ℕ) → stands o n ≡ true → 0 < stop_room o
room_for_one o n is =
    let some = fewer_by_one (λ b. 0) (λ b. 1 + outstanding o b) (λ (row : Adapter). not (is_stopped row.phase)) n 0 n o.adapters (λ b. omega arith) (omega arith) (omega arith) is in
    omega (arith, some)

not_stopped : (phase : Phase) → is_resetting phase ≡ true → not (is_stopped phase) ≡ true
not_stopped Resetting h = refl
not_stopped _ h = absurd (cc)

pub resetting_stands : (o : Owner) (a : ℕ) → phase_is is_resetting o a ≡ true → stands o a ≡ true
resetting_stands o a is = also_at (λ row. is_resetting row.phase) (λ row. not (is_stopped row.phase)) o.adapters a (λ row h. not_stopped row.phase h) is
