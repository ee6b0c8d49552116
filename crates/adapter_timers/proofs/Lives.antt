-- A timer is that of an adapter that lives, as the state says and as a list of tests does.
use Rattle.std.proofs.Common.{◌≡◌, ℕ, suc, ◌+◌, ◌<◌, ◌≤◌, Bool, true, false, ◌&&◌, ◌||◌, ◌==◌, ltb, leb, eqb, List, [], ◌∷◌, length, Option, Some, None, refl, sym, ap, ◌∙◌, ⊎_elim, arith, le-leb, slice_index_or}
use Rattle.std.specs.List.{list_any}
use Rattle.std.specs.Option.{option_map_or}
use Rattle.std.specs.FinMap as table
use Rattle.std.proofs.lemmas.Bool.{cases_lt}
use Rattle.guest_world.specs.declared.miniport.TimerFunction.{TimerFunction}
use Rattle.guest_world.specs.declared.world.World.{World}
use Rattle.legal_run.specs.State.{Inputs, State, numbers, alive}
use Rattle.legal_run.specs.Owed.{Armed, is_alive_timer}
use Rattle.legal_run.specs.After.{with_world}
use Rattle.adapter_timers.specs.Due.{AreLiving, is_living}

nothing : (b : Bool) → (b && false) ≡ false
nothing true = refl
nothing false = refl

all_there : (b : Bool) → (b && true) ≡ b
all_there true = refl
all_there false = refl

or_nothing : (b : Bool) → (b || false) ≡ b
or_nothing true = refl
or_nothing false = refl

none_of : (g : ℕ → Bool) (ns : List ℕ) → list_any (λ a. g a && false) ns ≡ false
none_of g [] = refl
none_of g (n ∷ ns) = ap (λ b. b || list_any (λ a. g a && false) ns) (nothing (g n)) ∙ none_of g ns

below : (g e r l m p q : Bool) → e ≡ false → l ≡ false → m ≡ false → ((g && e) || (l && (p && r))) ≡ (m && (q && r))
below true e r l m p q e1 e2 e3 = ap (λ z. z || (l && (p && r))) e1 ∙ ap (λ z. z && (p && r)) e2 ∙ sym (ap (λ z. z && (q && r)) e3)
below false e r l m p q e1 e2 e3 = ap (λ z. z && (p && r)) e2 ∙ sym (ap (λ z. z && (q && r)) e3)

here : (e r l m p q : Bool) → e ≡ true → l ≡ false → m ≡ true → q ≡ true → ((r && e) || (l && (p && r))) ≡ (m && (q && r))
here e r l m p q e1 e2 e3 e4 =
    ap (λ z. (r && z) || (l && (p && r))) e1 ∙ ap (λ z. (r && true) || (z && (p && r))) e2 ∙ or_nothing (r && true) ∙ all_there r
    ∙ sym (ap (λ z. z && (q && r)) e3 ∙ ap (λ z. z && r) e4)

above : (g e r l m p q : Bool) → e ≡ false → l ≡ true → m ≡ true → p ≡ q → ((g && e) || (l && (p && r))) ≡ (m && (q && r))
above g e r l m p q e1 e2 e3 e4 =
    ap (λ z. (g && z) || (l && (p && r))) e1 ∙ ap (λ z. z || (l && (p && r))) (nothing g) ∙ ap (λ z. z && (p && r)) e2 ∙ ap (λ z. z && r) e4
    ∙ sym (ap (λ z. z && (q && r)) e3)

no_more : (b n : ℕ) (r : Bool) → (leb n b && (ltb b (n + 0) && r)) ≡ false
no_more b n r =
    ⊎_elim (λ (lt : b < n). ap (λ z. z && (ltb b (n + 0) && r)) (not_least lt)) (λ (le : n ≤ b). ap (λ z. leb n b && (z && r)) (not_below le) ∙ nothing (leb n b)) (cases_lt b n)
  where
    not_least : b < n → leb n b ≡ false
    not_least lt = grind arith

    not_below : n ≤ b → ltb b (n + 0) ≡ false
    not_below le = grind arith

-- one of the numbers from n on is b, and passes
pub among : {A : Type 0} (g : ℕ → Bool) (b n : ℕ) (xs : List A) → list_any (λ a. g a && eqb b a) (numbers n xs) ≡ (leb n b && (ltb b (n + length xs) && g b))
among g b n [] = sym (no_more b n (g b))
among g b n (x ∷ xs) =
    ap (λ z. (g n && eqb b n) || z) (among g b (suc n) xs)
    ∙ ⊎_elim (λ (lt : b < n). below (g n) (eqb b n) (g b) (leb (suc n) b) (leb n b) (ltb b (suc n + length xs)) (ltb b (n + suc (length xs))) (grind arith) (grind arith) (grind arith))
    (λ (le : n ≤ b).
    ⊎_elim
    (λ (lt : n < b).
    above (g n) (eqb b n) (g b) (leb (suc n) b) (leb n b) (ltb b (suc n + length xs)) (ltb b (n + suc (length xs))) (grind arith) (grind arith) (grind arith)
    (ap (λ k. ltb b k) (omega arith)))
    (λ (ge : b ≤ n).
    let same : b ≡ n = omega arith in
    ap (λ k. (g k && eqb b n) || (leb (suc n) b && (ltb b (suc n + length xs) && g b))) (sym same)
    ∙ here (eqb b n) (g b) (leb (suc n) b) (leb n b) (ltb b (suc n + length xs)) (ltb b (n + suc (length xs))) (grind arith) (grind arith) (grind arith) (grind arith))
    (cases_lt n b))
    (cases_lt b n)

-- ---- a timer's adapter lives

abbrev is_alive : Inputs → State → Option TimerFunction → Bool
is_alive c s found = list_any (λ a. alive s a && option_map_or (λ f. f.adapter.0 == a) found false) (numbers 0 c.adapters)

alive_is : (c : Inputs) (s : State) (living : List Bool) (found : Option TimerFunction) → AreLiving c s living → is_alive c s found ≡ option_map_or (λ f. slice_index_or living f.adapter.0 false) found false
alive_is c s living None are = none_of (λ a. alive s a) (numbers 0 c.adapters)
alive_is c s living (Some f) are =
    let b = f.adapter.0 in
    among (λ a. alive s a) b 0 c.adapters ∙ ap (λ z. z && (ltb b (0 + length c.adapters) && alive s b)) (le-leb 0 b (omega arith)) ∙ ap (λ k. ltb b k && alive s b) (omega arith) ∙ sym (are b)

pub alive_timer : (c : Inputs) (s : State) (w : World) (living : List Bool) (t : Armed) → AreLiving c s living → is_alive_timer c (with_world s w) t ≡ is_living w.timers living t.0
alive_timer c s w living t are = alive_is c s living (table.get w.timers t.0) are
