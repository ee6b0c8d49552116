-- The clock goes on to the next moment, which is above it.
use Rattle.std.proofs.Common.{◌≡◌, ℕ, Bool, true, false, ◌&&◌, eqb, min, cond, List, [], ◌∷◌, ◌++◌, Option, Some, None, refl, sym, ap, ◌∙◌, arith}
use Rattle.std.specs.Prelude.{nat_lt}
use Rattle.std.specs.Option.{option_map_or}
use Rattle.legal_run.specs.State.{Inputs, State, clock}
use Rattle.legal_run.specs.Owed.{alarms, all_wait, checks, is_barred, is_moment, least, may_jump, next_moment, rests, stamps, wakes}
use Rattle.run_rests.proofs.Earliest.{above, least_none}

injected : (m n : ℕ) → Some m ≡ Some n → m ≡ n
injected m n e = cc

least_front : (m : ℕ) (ms : List ℕ) → least (m ∷ ms) ≡ Some (option_map_or (λ n. min m n) (least ms) m)
unfolding least
least_front m ms = refl

both_above : (k m n : ℕ) → nat_lt k m ≡ true → nat_lt k n ≡ true → nat_lt k (min m n) ≡ true
both_above k m n e f = grind (arith, e, f)

in_front : (k m n : ℕ) (r : Option ℕ) → nat_lt k m ≡ true → ((x : ℕ) → r ≡ Some x → nat_lt k x ≡ true) → Some (option_map_or (λ x. min m x) r m) ≡ Some n → nat_lt k n ≡ true
in_front k m n None e others is = ap (λ z. nat_lt k z) (sym (injected m n is)) ∙ e
in_front k m n (Some x) e others is = ap (λ z. nat_lt k z) (sym (injected (min m x) n is)) ∙ both_above k m x e (others x refl)

nowhere : (k n : ℕ) → None ≡ Some n → nat_lt k n ≡ true
nowhere k n e = cc

by_front : (k m n : ℕ) (ms : List ℕ) (b : Bool) → ((x : ℕ) → least (above k ms) ≡ Some x → nat_lt k x ≡ true) → nat_lt k m ≡ b → least (cond b (m ∷ above k ms) (above k ms)) ≡ Some n → nat_lt k n ≡ true
by_front k m n ms true others t e = in_front k m n (least (above k ms)) t others (sym (least_front m (above k ms)) ∙ e)
by_front k m n ms false others t e = others n e

least_above : (k : ℕ) (ms : List ℕ) (n : ℕ) → least (above k ms) ≡ Some n → nat_lt k n ≡ true
least_above k [] n e = nowhere k n (sym least_none ∙ e)
least_above k (m ∷ ms) n e = by_front k m n ms (nat_lt k m) (λ x f. least_above k ms x f) refl e

not_yet : (c : Inputs) (s : State) (b : Bool) (ms : List ℕ) (n : ℕ) → cond b None (least (above (clock s) ms)) ≡ Some n → nat_lt (clock s) n ≡ true
not_yet c s true ms n e = nowhere (clock s) n e
not_yet c s false ms n e = least_above (clock s) ms n e

is_later : (c : Inputs) (s : State) (n : ℕ) → next_moment c s ≡ Some n → nat_lt (clock s) n ≡ true
is_later c s n e = not_yet c s (is_barred c s) (stamps c s ++ (wakes s ++ (checks c s ++ alarms c s))) n e

never : (b : Bool) → (b && false) ≡ false
never true = refl
never false = refl

same_later : (k m n : ℕ) → nat_lt k n ≡ true → (nat_lt k m && eqb n m) ≡ eqb n m
same_later k m n e = by_test (eqb n m) refl
  where
    by_test : (b : Bool) → eqb n m ≡ b → (nat_lt k m && b) ≡ b
    by_test true same = ap (λ z. z && true) (moved same)
      where
        moved : eqb n m ≡ true → nat_lt k m ≡ true
        moved same = grind (arith, e, same)
    by_test false same = never (nat_lt k m)

where_it_is : (k m : ℕ) (r : Option ℕ) → ((n : ℕ) → r ≡ Some n → nat_lt k n ≡ true) → (nat_lt k m && is_moment m r) ≡ is_moment m r
where_it_is k m None later = never (nat_lt k m)
where_it_is k m (Some n) later = same_later k m n (later n refl)

pub jumps : (c : Inputs) (s : State) (r : Option ℕ) → rests c s ≡ true → all_wait c s ≡ true → r ≡ next_moment c s → (m : ℕ) → may_jump c s m ≡ is_moment m r
jumps c s r resting waiting is m =
    (λ i. nat_lt (clock s) m && (resting i && (waiting i && is_moment m (next_moment c s))))
    ∙ where_it_is (clock s) m (next_moment c s) (is_later c s)
    ∙ ap (is_moment m) (sym is)
