-- Something comes first exactly where something is owed.
use Rattle.std.proofs.Common.{◌≡◌, ℕ, zero, suc, ◌+◌, ◌<◌, ◌≤◌, ◌⊎◌, Bool, true, false, ◌||◌, cond, List, [], ◌∷◌, ◌++◌, length, map, filter, slice_get, Option, Some, None, is_some, refl, sym, ap, subst, ◌∙◌, inl, inr, ⊎_elim, arith}
use Rattle.std.specs.List.{list_any, find}
use Rattle.std.specs.Option.{option_map}
use Rattle.std.proofs.lemmas.Bool.{false≢true}
use Rattle.std.proofs.lemmas.List.Folds.{list_any-append}
use Rattle.log_fields.specs.declared.field_values.Handler.{Handler}
use Rattle.legal_run.specs.State.{Inputs, State, adapter, numbers, adapters_of}
use Rattle.legal_run.specs.Owed.{first, is_owed, owes_entry, owes_some, some_owed, handlers}
use Rattle.owed_handlers.specs.declared.choice.Owed.{Owed}
use Rattle.owed_handlers.specs.declared.choice.Owed.TheVariants as owed
use Rattle.owed_handlers.specs.Order.{at_once, in_turn, owed_of, owed_by, entry_if, all_owed, first_owed}
use Rattle.owed_handlers.specs.Laws.{IsOwed}
use Rattle.owed_handlers.proofs.Found.{first_owed_of}

-- ---- the handlers are the same in either order

or_cases : (a b : Bool) → (a || b) ≡ true → (a ≡ true) ⊎ (b ≡ true)
or_cases true b e = inl refl
or_cases false b e = inr e

or_left : (a b : Bool) → a ≡ true → (a || b) ≡ true
or_left a b e = ap (λ x. x || b) e

or_right : (a b : Bool) → b ≡ true → (a || b) ≡ true
or_right true b e = refl
or_right false b e = e

any_at : {A : Type 0} (p : A → Bool) (xs : List A) (i : ℕ) (x : A) → slice_get xs i ≡ Some x → p x ≡ true → list_any p xs ≡ true
any_at p [] i x e passes = cc
any_at p (y ∷ xs) zero x e passes = or_left (p y) (list_any p xs) (ap p (same y x e) ∙ passes)
  where
    same : {A : Type 0} (y x : A) → Some y ≡ Some x → y ≡ x
    same y x e = cc
any_at p (y ∷ xs) (suc i) x e passes = or_right (p y) (list_any p xs) (any_at p xs i x e passes)

-- each of some stands at a place among others
any_placed : {A : Type 0} (p : A → Bool) (xs ys : List A) (places : List ℕ) → map (slice_get ys) places ≡ map Some xs → list_any p xs ≡ true → list_any p ys ≡ true
any_placed p [] ys places at any = absurd (false≢true any)
any_placed p (x ∷ xs) ys [] at any = cc
any_placed p (x ∷ xs) ys (i ∷ places) at any =
    ⊎_elim (λ (e : p x ≡ true). any_at p ys i x (in_front _ _ _ _ at) e) (λ (e : list_any p xs ≡ true). any_placed p xs ys places (behind _ _ _ _ at) e) (or_cases (p x) (list_any p xs) any)
  where
    in_front : {B : Type 0} (a b : B) (rest more : List B) → (a ∷ rest) ≡ (b ∷ more) → a ≡ b
    in_front a b rest more e = cc

    behind : {B : Type 0} (a b : B) (rest more : List B) → (a ∷ rest) ≡ (b ∷ more) → rest ≡ more
    behind a b rest more e = cc

same_test : (a b : Bool) → (a ≡ true → b ≡ true) → (b ≡ true → a ≡ true) → a ≡ b
same_test true b f g = sym (f refl)
same_test false true f g = g refl
same_test false false f g = refl

places_in_order : List ℕ
places_in_order = 15 ∷ 16 ∷ 7 ∷ 13 ∷ 1 ∷ 2 ∷ 4 ∷ 3 ∷ 5 ∷ 0 ∷ 11 ∷ 12 ∷ 6 ∷ 9 ∷ 10 ∷ 8 ∷ 14 ∷ 17 ∷ []

places_back : List ℕ
places_back = 9 ∷ 4 ∷ 5 ∷ 7 ∷ 6 ∷ 8 ∷ 12 ∷ 2 ∷ 15 ∷ 13 ∷ 14 ∷ 10 ∷ 11 ∷ 3 ∷ 16 ∷ 0 ∷ 1 ∷ 17 ∷ []

in_order : map (slice_get (at_once ++ in_turn)) places_in_order ≡ map Some handlers
unfolding places_in_order
in_order = refl

back : map (slice_get handlers) places_back ≡ map Some (at_once ++ in_turn)
unfolding places_back
back = refl

in_either : (p : Handler → Bool) → list_any p handlers ≡ (list_any p at_once || list_any p in_turn)
in_either p =
    same_test (list_any p handlers) (list_any p (at_once ++ in_turn)) (any_placed p handlers (at_once ++ in_turn) places_in_order in_order) (any_placed p (at_once ++ in_turn) handlers places_back back)
    ∙ list_any-append p at_once in_turn

-- ---- something is first exactly where there is something

some_first : {A : Type 0} (xs ys : List A) → is_some (first (xs ++ ys)) ≡ (is_some (first xs) || is_some (first ys))
some_first [] ys = refl
some_first (x ∷ xs) ys = refl

some_entry : (b : Bool) → is_some (first (entry_if b)) ≡ b
some_entry true = refl
some_entry false = refl

some_map : {A B : Type 0} (f : A → B) (o : Option A) → is_some (option_map f o) ≡ is_some o
some_map f None = refl
some_map f (Some x) = refl

some_found : {A : Type 0} (p : A → Bool) (xs : List A) → is_some (find p xs) ≡ list_any p xs
some_found p [] = refl
some_found p (x ∷ xs) = elim (p x) as (λ b. is_some (cond b (Some x) (find p xs)) ≡ (b || list_any p xs)) [ true ↦ refl | false ↦ some_found p xs ]

some_of : (c : Inputs) (s : State) (hs : List Handler) (a : ℕ) → is_some (first (owed_of c s hs a)) ≡ list_any (is_owed c s a) hs
some_of c s hs a = ap is_some (first_owed_of c s hs a) ∙ some_map (λ h. owed.Handler (adapter a) h) (find (is_owed c s a) hs) ∙ some_found (is_owed c s a) hs

some_by : (c : Inputs) (s : State) (hs : List Handler) (ns : List ℕ) → is_some (first (owed_by c s hs ns)) ≡ list_any (λ a. list_any (is_owed c s a) hs) ns
some_by c s hs [] = refl
some_by c s hs (n ∷ ns) =
    some_first (owed_of c s hs n) (owed_by c s hs ns)
    ∙ ap (λ b. b || is_some (first (owed_by c s hs ns))) (some_of c s hs n)
    ∙ ap (λ b. list_any (is_owed c s n) hs || b) (some_by c s hs ns)

any_both : (f g : ℕ → Bool) (ns : List ℕ) → list_any (λ n. f n || g n) ns ≡ (list_any f ns || list_any g ns)
any_both f g [] = refl
any_both f g (n ∷ ns) = ap (λ b. (f n || g n) || b) (any_both f g ns) ∙ mixed (f n) (g n) (list_any f ns) (list_any g ns)
  where
    mixed : (a b c d : Bool) → ((a || b) || (c || d)) ≡ ((a || c) || (b || d))
    mixed true b c d = refl
    mixed false true true d = refl
    mixed false true false d = refl
    mixed false false c d = refl

any_same : (f g : ℕ → Bool) (ns : List ℕ) → ((n : ℕ) → f n ≡ g n) → list_any f ns ≡ list_any g ns
any_same f g [] same = refl
any_same f g (n ∷ ns) same = ap (λ b. b || list_any f ns) (same n) ∙ ap (λ b. g n || b) (any_same f g ns same)

or_swap : (a b c : Bool) → (a || (b || c)) ≡ (b || (a || c))
or_swap true true c = refl
or_swap true false c = refl
or_swap false b c = refl

pub some_is : (c : Inputs) (s : State) → is_some (first_owed c s) ≡ some_owed c s
some_is c s =
    let ns = adapters_of c in
    let urgent = list_any (λ a. list_any (is_owed c s a) at_once) ns in
    let others = list_any (λ a. list_any (is_owed c s a) in_turn) ns in
    some_first (owed_by c s at_once ns) (entry_if (owes_entry c s) ++ owed_by c s in_turn ns)
    ∙ ap (λ b. is_some (first (owed_by c s at_once ns)) || b) (some_first (entry_if (owes_entry c s)) (owed_by c s in_turn ns) ∙ ap (λ b. b || is_some (first (owed_by c s in_turn ns))) (some_entry (owes_entry c s)))
    ∙ ap (λ b. b || (owes_entry c s || is_some (first (owed_by c s in_turn ns)))) (some_by c s at_once ns)
    ∙ ap (λ b. urgent || (owes_entry c s || b)) (some_by c s in_turn ns)
    ∙ or_swap urgent (owes_entry c s) others
    ∙ ap (λ b. owes_entry c s || b)
    (sym (any_same (owes_some c s) (λ a. list_any (is_owed c s a) at_once || list_any (is_owed c s a) in_turn) ns (λ a. in_either (is_owed c s a))
    ∙ any_both (λ a. list_any (is_owed c s a) at_once) (λ a. list_any (is_owed c s a) in_turn) ns))

-- ---- each that is listed is owed

abbrev AllOwed : Inputs → State → List Owed → Type 0
AllOwed c s [] = Unit {0}
AllOwed c s (x ∷ xs) = IsOwed c s x × AllOwed c s xs

all_joined : (c : Inputs) (s : State) (xs ys : List Owed) → AllOwed c s xs → AllOwed c s ys → AllOwed c s (xs ++ ys)
all_joined c s [] ys all_xs all_ys = all_ys
all_joined c s (x ∷ xs) ys all_xs all_ys = (all_xs.0, all_joined c s xs ys all_xs.1 all_ys)

all_of : (c : Inputs) (s : State) (hs : List Handler) (a : ℕ) → a < length c.adapters → AllOwed c s (owed_of c s hs a)
all_of c s [] a lt = tt
all_of c s (h ∷ hs) a lt =
    elim (is_owed c s a h) as (λ b. is_owed c s a h ≡ b → AllOwed c s (map (λ h'. owed.Handler (adapter a) h') (cond b (h ∷ filter (is_owed c s a) hs) (filter (is_owed c s a) hs)))) [
      | true ↦ λ e. ((lt, e), all_of c s hs a lt)
      | false ↦ λ e. all_of c s hs a lt
    ] refl

all_by : {A : Type 0} (c : Inputs) (s : State) (hs : List Handler) (n : ℕ) (xs : List A) → n + length xs ≤ length c.adapters → AllOwed c s (owed_by c s hs (numbers n xs))
all_by c s hs n [] le = tt
all_by c s hs n (x ∷ xs) le = all_joined c s (owed_of c s hs n) (owed_by c s hs (numbers (suc n) xs)) (all_of c s hs n (omega arith)) (all_by c s hs (suc n) xs (omega arith))

entry_owed : (c : Inputs) (s : State) (b : Bool) → owes_entry c s ≡ b → AllOwed c s (entry_if b)
entry_owed c s true e = (e, tt)
entry_owed c s false e = tt

first_of_all : (c : Inputs) (s : State) (xs : List Owed) (x : Owed) → AllOwed c s xs → first xs ≡ Some x → IsOwed c s x
first_of_all c s [] x all e = cc
first_of_all c s (y ∷ xs) x all e = subst (IsOwed c s) (same y x e) all.0
  where
    same : (y x : Owed) → Some y ≡ Some x → y ≡ x
    same y x e = cc

pub first_is_owed : (c : Inputs) (s : State) (x : Owed) → first_owed c s ≡ Some x → IsOwed c s x
first_is_owed c s x e =
    let ns = adapters_of c in
    first_of_all c s (all_owed c s) x
    (all_joined c s (owed_by c s at_once ns) (entry_if (owes_entry c s) ++ owed_by c s in_turn ns) (all_by c s at_once 0 c.adapters (omega arith))
    (all_joined c s (entry_if (owes_entry c s)) (owed_by c s in_turn ns) (entry_owed c s (owes_entry c s) refl) (all_by c s in_turn 0 c.adapters (omega arith))))
    e
