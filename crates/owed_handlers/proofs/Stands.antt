-- What is told of an adapter is what its handlers are owed by.
use Rattle.std.proofs.Common.{◌≡◌, ℕ, zero, suc, ◌+◌, ◌<◌, ◌≤◌, Bool, true, false, ◌&&◌, ◌==◌, not, cond, eqb, ltb, lt-ltb, ne_eqb, List, [], ◌∷◌, length, slice_get, Option, Some, None, is_some, IsSome, count_by, position, refl, sym, ap, ◌∙◌, arith}
use Rattle.std.specs.Option.{option_map, option_map_or}
use Rattle.std.specs.List.{position_or_len}
use Rattle.std.proofs.lemmas.Bool.{false≢true}
use Rattle.std.proofs.lemmas.List.Quantifiers.{position-Some}
use Rattle.std.proofs.lemmas.List.Sums.{sum_by-cons}
use Rattle.nd_base.specs.declared.numbers.Phase.{Phase}
use Rattle.owner_machine.specs.declared.rows.Adapter.{Adapter}
use Rattle.owner_machine.specs.declared.rows.Request.{Request}
use Rattle.owner_machine.specs.State.{Owner, at, phase_is}
use Rattle.owner_machine.specs.Packets.{queued_of, first_queued}
use Rattle.owner_machine.specs.Requests.{first_asked, asked_of, handed_of, is_set}
use Rattle.owner_book.specs.declared.standing.Standing.{Standing}
use Rattle.owner_book.specs.Standings.{IsStanding}
use Rattle.legal_run.specs.State.{State}
use Rattle.legal_run.specs.Owed.{request_at, to_hand, hands_set}
use Rattle.owed_handlers.specs.Kept.{asks}

-- ---- phases

phase_in : (test : Phase → Bool) (row : Option Adapter) (p : Phase) → option_map_or (λ x. Some x.phase) row None ≡ Some p → option_map_or (λ x. test x.phase) row false ≡ test p
phase_in test None p e = cc
phase_in test (Some x) p e = ap test (same x.phase p e)
  where
    same : (a b : Phase) → Some a ≡ Some b → a ≡ b
    same a b e = cc

pub phase_test : (test : Phase → Bool) (o : Owner) (a : ℕ) (s : Standing) → IsStanding o a s → phase_is test o a ≡ test s.phase
phase_test test o a s is = phase_in test (slice_get o.adapters a) s.phase is.phase

beyond : {A : Type 0} (xs : List A) (n : ℕ) → length xs ≤ n → slice_get xs n ≡ None
beyond [] n le = refl
beyond (x ∷ xs) zero le = absurd (omega arith)
beyond (x ∷ xs) (suc n) le = beyond xs n (omega arith)

-- an adapter that is not there is in no phase
pub not_there : (test : Phase → Bool) (o : Owner) (a : ℕ) → length o.adapters ≤ a → phase_is test o a ≡ false
not_there test o a le = ap (λ row. option_map_or (λ (x : Adapter). test x.phase) row false) (beyond o.adapters a le)

-- ---- packets in the queue

one_more : (b : Bool) (k n c : ℕ) → ltb k n ≡ not (eqb c 0) → ltb (cond (not b) (1 + k) 0) (suc n) ≡ not (eqb (cond b 1 0 + c) 0)
one_more true k n c e = lt-ltb 0 (suc n) (omega arith) ∙ sym (ap not (ne_eqb (1 + c) 0 (λ same. omega arith)))
one_more false k n c e = one_up k n ∙ e ∙ ap (λ m. not (eqb m 0)) (plus_none c)
  where
    one_up : (k n : ℕ) → ltb (1 + k) (suc n) ≡ ltb k n
    one_up k n = grind arith

    plus_none : (n : ℕ) → n ≡ 0 + n
    plus_none n = omega arith

some_test : {A : Type 0} (p : A → Bool) (xs : List A) → ltb (position_or_len p xs) (length xs) ≡ not (eqb (count_by p xs) 0)
some_test p [] = refl
some_test p (x ∷ xs) =
    one_more (p x) (position_or_len p xs) (length xs) (count_by p xs) (some_test p xs) ∙ sym (ap (λ n. not (eqb n 0)) (sum_by-cons (λ y. cond (p y) 1 0) x xs))

is_there : (b : Bool) (n : ℕ) → is_some (cond b (Some n) None) ≡ b
is_there true n = refl
is_there false n = refl

-- a packet is queued exactly where their count is not 0
pub sends_is : (o : Owner) (a : ℕ) (s : Standing) → IsStanding o a s → (is_some (first_queued o a) && at (λ row. not row.held_back) o.adapters a) ≡ s.send
sends_is o a s is =
    ap (λ b. b && at (λ row. not row.held_back) o.adapters a) (is_there (ltb (position_or_len (queued_of a) o.packets) (length o.packets)) (position_or_len (queued_of a) o.packets) ∙ some_test (queued_of a) o.packets)
    ∙ sym is.send

-- ---- requests

is_asked : (set : Bool) (found : Option Request) → IsSome found → hands_set set found ≡ asks set (Some (option_map_or (λ q. is_set q.question) found false))
is_asked set None some = absurd (false≢true some)
is_asked true (Some q) some = refl
is_asked false (Some q) some = refl

asked_in : (b set : Bool) (t : State) (r : Option ℕ) → ((n : ℕ) → r ≡ Some n → IsSome (slice_get t.owner.requests n)) → hands_set set (cond b (request_at t r) None) ≡ asks set (cond b (option_map (λ n. at (λ q. is_set q.question) t.owner.requests n) r) None)
asked_in true true t None there = refl
asked_in true false t None there = refl
asked_in false true t r there = refl
asked_in false false t r there = refl
asked_in true set t (Some n) there = is_asked set (slice_get t.owner.requests n) (there n refl)

stands_there : {A : Type 0} (xs : List A) (n : ℕ) → n < length xs → IsSome (slice_get xs n)
stands_there [] n lt = absurd (omega arith)
stands_there (x ∷ xs) zero lt = refl
stands_there (x ∷ xs) (suc n) lt = stands_there xs n (omega arith)

found_there : {A : Type 0} (p : A → Bool) (xs : List A) (n : ℕ) → position p xs ≡ Some n → IsSome (slice_get xs n)
found_there p [] n e = cc
found_there p (x ∷ xs) n e = stands_there (x ∷ xs) n (position-Some p (x ∷ xs) n x e).0

-- the request that would be handed is of the kind that is told
pub asks_is : (set : Bool) (t : State) (a : ℕ) (s : Standing) → IsStanding t.owner a s → hands_set set (to_hand t a) ≡ asks set s.request
asks_is set t a s is =
    asked_in (count_by (handed_of a) t.owner.requests == 0) set t (first_asked t.owner a) (found_there (asked_of a) t.owner.requests) ∙ ap (asks set) (sym is.request)

-- ---- rows

pub row : (p x r : Bool) → p ≡ true → r ≡ x → r ≡ (p && x)
row p x r holds is = is ∙ sym (ap (λ b. b && x) holds)

pub row_without : (p x y r : Bool) → p ≡ true → x ≡ false → r ≡ false → r ≡ (p && (x && y))
row_without p x y r holds fails is = is ∙ sym (ap (λ b. b && (x && y)) holds ∙ ap (λ b. b && y) fails)
