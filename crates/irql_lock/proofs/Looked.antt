-- What is found of contexts and locks after a change of one of them.
use Rattle.std.proofs.Common.{◌≡◌, ◌≢◌, ℕ, ◌<◌, ◌≤◌, Bool, true, false, ◌||◌, ◌&&◌, cond, eqb, ltb, List, [], ◌∷◌, map, length, get_or, set, Option, None, Some, IsSome, Result, Ok, refl, sym, ap, subst, ◌∙◌, arith, ⊎_elim, eqb-true, eq-eqb, ne_eqb, ltb-true, length-set, get_or-set_other}
use Rattle.std.specs.Option.{option_map}
use Rattle.std.specs.Ordering.{nat_cmp, eq_by_cmp, is_eq}
use Rattle.std.specs.declared.cmp.Ordering.TheVariants.{Less, Equal, Greater}
use Rattle.std.specs.Cmp.{nat_cmp_total}
use Rattle.std.specs.List.{list_any}
use Rattle.std.specs.FinMap.{find, get, insert, remove, entries, get-entries, get-from_entries, get-insert, get-remove}
use Rattle.std.proofs.lemmas.Bool.{false≢true, cases_lt, cases_eq}
use Rattle.std.proofs.lemmas.List.{get_or_past}
use Rattle.std.proofs.lemmas.Grind.{get_or-set_at}
use Rattle.nd_base.specs.declared.numbers.Addr.{Addr}
use Rattle.nd_base.specs.declared.numbers.Breach.{Breach}
use Rattle.nd_base.specs.declared.numbers.CtxNo.{CtxNo}
use Rattle.irql_lock.specs.declared.states.Context.{Context}
use Rattle.irql_lock.specs.declared.states.Holding.{Holding}
use Rattle.irql_lock.specs.LockState.{Locks, is_held_by, let_go, let_go_all, holder_in, holds_any}
use Rattle.irql_lock.specs.LockMoves.{allow}

-- ---- small facts

abbrev context_no : ℕ → CtxNo
context_no n = record { 0 = n }

pub same_context : (c d : CtxNo) → c.0 ≡ d.0 → c ≡ d
same_context c d e = ap context_no e

abbrev address : ℕ → Addr
address n = record { 0 = n }

pub same_address : (a b : Addr) → a.0 ≡ b.0 → a ≡ b
same_address a b e = ap address e

pub same_some : {A : Type 0} (x y : A) → Some x ≡ Some y → x ≡ y
same_some x y e = cc

abbrev ok : {A : Type 0} → A → Result A Breach
ok x = Ok x

pub same_ok : {A : Type 0} (x y : A) → ok x ≡ ok y → x ≡ y
same_ok x y e = cc

-- what is allowed is allowed by its test
pub allowed : {A : Type 0} (b : Bool) (r : Breach) (x y : A) → allow b r x ≡ Ok y → (b ≡ true) × (x ≡ y)
allowed true r x y e = (refl, same_ok x y e)
allowed false r x y e = cc

pub value_of : {A : Type 0} (o : Option A) → IsSome o → (x : A) × (o ≡ Some x)
value_of None h = absurd (false≢true h)
value_of (Some x) h = (x, refl)

pub left_false : (a b : Bool) → (a || b) ≡ false → a ≡ false
left_false true b e = e
left_false false b e = refl

pub right_false : (a b : Bool) → (a || b) ≡ false → b ≡ false
right_false true b e = absurd (false≢true (sym e))
right_false false b e = e

pub both_true : (a b : Bool) → (a && b) ≡ true → (a ≡ true) × (b ≡ true)
both_true true b e = (refl, e)
both_true false b e = absurd (false≢true e)

-- ---- contexts by number

abbrev Contexts : Type 0
Contexts = List (Option Context)

pub within : (xs : Contexts) (c : ℕ) → IsSome (get_or xs c None) → c < length xs
within xs c h = ⊎_elim (λ (lt : c < length xs). lt) (λ (ge : length xs ≤ c). absurd (false≢true (subst IsSome (get_or_past xs c None ge) h))) (cases_lt c (length xs))

-- what holds of the new one at its number, and of what was there at every number, holds of what is there then
pub set_has : (P : Option Context → Type 0) (xs : Contexts) (c d : ℕ) (x : Option Context) → (d ≡ c → P x) → P (get_or xs d None) → P (get_or (set xs c x) d None)
set_has P xs c d x new old =
    ⊎_elim
    (λ (e : d ≡ c).
    ⊎_elim
    (λ (lt : c < length xs). subst P (sym (get_or-set_at xs c d x None e lt)) (new e))
    (λ (ge : length xs ≤ c).
    let gone = get_or_past (set xs c x) d None (omega (arith, e, length-set {A = Option Context})) in
    let was = get_or_past xs d None (omega arith) in
    subst P (was ∙ sym gone) old)
    (cases_lt c (length xs)))
    (λ (ne : d ≢ c). subst P (sym (get_or-set_other xs c d x None ne)) old)
    (cases_eq d c)

-- likewise, where the number is one of the contexts'
pub set_has_in : (P : Option Context → Type 0) (xs : Contexts) (c d : ℕ) (x : Option Context) → c < length xs → (d ≡ c → P x) → (d ≢ c → P (get_or xs d None)) → P (get_or (set xs c x) d None)
set_has_in P xs c d x lt new old =
    ⊎_elim (λ (e : d ≡ c). subst P (sym (get_or-set_at xs c d x None e lt)) (new e)) (λ (ne : d ≢ c). subst P (sym (get_or-set_other xs c d x None ne)) (old ne)) (cases_eq d c)

pub set_there : (xs : Contexts) (c d : ℕ) (x : Option Context) → d ≢ c → get_or (set xs c x) d None ≡ get_or xs d None
set_there xs c d x ne = get_or-set_other xs c d x None ne

-- ---- locks by address

tied : (less same : Bool) → (less ≡ true → same ≡ false) → is_eq (cond less Less (cond same Equal Greater)) ≡ same
tied true same h = sym (h refl)
tied false true h = refl
tied false false h = refl

ties : (q k : ℕ) → eq_by_cmp nat_cmp q k ≡ eqb q k
ties q k = tied (ltb q k) (eqb q k) (λ h. ne_eqb q k (λ e. omega (arith, ltb-true q k h)))

by_test : {A : Type 0} (P : A → Type 0) (q k : ℕ) (x y : A) → (q ≡ k → P x) → P y → P (cond (eqb q k) x y)
by_test P q k x y new old = elim (eqb q k) as (λ b. eqb q k ≡ b → P (cond b x y)) [ true ↦ λ e. new (eqb-true q k e) | false ↦ λ e. old ] refl

pub insert_has : (P : Option (Option Holding) → Type 0) (m : Locks) (k q : ℕ) (held : Option Holding) → (q ≡ k → P (Some held)) → P (get m q) → P (get (insert m k held) q)
insert_has P m k q held new old =
    subst P (sym (get-insert nat_cmp_total m k held q ∙ ap (λ b. cond b (Some held) (get m q)) (ties q k))) (by_test P q k (Some held) (get m q) new old)

pub remove_has : (P : Option (Option Holding) → Type 0) (m : Locks) (k q : ℕ) → (q ≡ k → P None) → P (get m q) → P (get (remove m k) q)
remove_has P m k q new old = subst P (sym (get-remove nat_cmp_total m k q ∙ ap (λ b. cond b None (get m q)) (ties q k))) (by_test P q k None (get m q) new old)

pub insert_here : (m : Locks) (k : ℕ) (held : Option Holding) → get (insert m k held) k ≡ Some held
insert_here m k held = get-insert nat_cmp_total m k held k ∙ ap (λ b. cond b (Some held) (get m k)) (ties k k ∙ same_number k)
  where
    same_number : (n : ℕ) → eqb n n ≡ true
    same_number n = eq-eqb n n refl

find-let_go : (c : CtxNo) (q : ℕ) (es : List (ℕ × Option Holding)) → find nat_cmp q (map (λ e. (e.0, let_go c e.1)) es) ≡ option_map (let_go c) (find nat_cmp q es)
find-let_go c q [] = refl
find-let_go c q (e ∷ es) =
    elim (eq_by_cmp nat_cmp q e.0) as (λ b. cond b (Some (let_go c e.1)) (find nat_cmp q (map (λ e. (e.0, let_go c e.1)) es)) ≡ option_map (let_go c) (cond b (Some e.1) (find nat_cmp q es))) [
      | true ↦ refl
      | false ↦ find-let_go c q es
    ]

pub get-let_go_all : (m : Locks) (c : CtxNo) (q : ℕ) → get (let_go_all m c) q ≡ option_map (let_go c) (get m q)
get-let_go_all m c q =
    get-from_entries nat_cmp_total (map (λ e. (e.0, let_go c e.1)) (entries m)) q ∙ find-let_go c q (entries m) ∙ ap (option_map (let_go c)) (sym (get-entries m q))

-- a lock that is still held was held before, by another context
pub still_held : (c : CtxNo) (found : Option (Option Holding)) (h : Holding) → option_map (let_go c) found ≡ Some (Some h) → (found ≡ Some (Some h)) × (eqb h.context.0 c.0 ≡ false)
still_held c None h e = cc
still_held c (Some None) h e = cc
still_held c (Some (Some g)) h e =
    elim (eqb g.context.0 c.0) as (λ b. eqb g.context.0 c.0 ≡ b → Some (cond b None (Some g)) ≡ Some (Some h) → (Some (Some g) ≡ Some (Some h)) × (eqb h.context.0 c.0 ≡ false)) [
      | true ↦ λ test held. cc
      | false ↦ λ test held. (held, subst (λ (k : Holding). eqb k.context.0 c.0 ≡ false) (same_some g h (same_some (Some g) (Some h) held)) test)
    ] refl e

pub still_apart : (c d : CtxNo) (held : Option Holding) → is_held_by d held ≡ false → is_held_by d (let_go c held) ≡ false
still_apart c d None e = refl
still_apart c d (Some g) e = elim (eqb g.context.0 c.0) as (λ b. is_held_by d (cond b None (Some g)) ≡ false) [ true ↦ refl | false ↦ e ]

pub kept_by_others : (c : CtxNo) (h : Holding) → eqb h.context.0 c.0 ≡ false → let_go c (Some h) ≡ Some h
kept_by_others c h e = ap (λ b. cond b None (Some h)) e

found_apart : (c : CtxNo) (q : ℕ) (es : List (ℕ × Option Holding)) (held : Option Holding) → find nat_cmp q es ≡ Some held → list_any (is_held_by c) (map (λ e. e.1) es) ≡ false → is_held_by c held ≡ false
found_apart c q [] held found none = cc
found_apart c q (e ∷ es) held found none =
    elim (eq_by_cmp nat_cmp q e.0) as (λ b. cond b (Some e.1) (find nat_cmp q es) ≡ Some held → is_held_by c held ≡ false) [
      | true ↦ λ is. subst (λ (x : Option Holding). is_held_by c x ≡ false) (same_some e.1 held is) (left_false _ _ none)
      | false ↦ λ is. found_apart c q es held is (right_false (is_held_by c e.1) _ none)
    ] found

pub held_apart : (m : Locks) (c : CtxNo) (q : ℕ) (held : Option Holding) → get m q ≡ Some held → holds_any m c ≡ false → is_held_by c held ≡ false
held_apart m c q held found none = found_apart c q (entries m) held (sym (get-entries m q) ∙ found) none

-- who holds a lock has a holding of it
pub holding_of : (found : Option (Option Holding)) (c : CtxNo) → holder_in found ≡ Some c → (h : Holding) × (found ≡ Some (Some h)) × (h.context ≡ c)
holding_of None c e = cc
holding_of (Some None) c e = cc
holding_of (Some (Some h)) c e = (h, refl, same_some h.context c e)
