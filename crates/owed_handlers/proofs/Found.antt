-- What is found first: among handlers, and by rising number among adapters.
use Rattle.std.proofs.Common.{◌≡◌, ℕ, suc, ◌+◌, ◌-◌, ◌<◌, ◌≤◌, Bool, true, false, ◌&&◌, cond, List, [], ◌∷◌, ◌++◌, length, get_or, drop, map, filter, Option, Some, None, is_some, refl, sym, ap, ◌∙◌, arith}
use Rattle.std.specs.List.{find, list_all, range_with_len}
use Rattle.std.specs.Option.{option_map}
use Rattle.std.proofs.lemmas.Bool.{false≢true}
use Rattle.std.proofs.lemmas.List.{at_drop_more, at_drop_all}
use Rattle.log_fields.specs.declared.field_values.Handler.{Handler}
use Rattle.owner_machine.specs.State.{implies}
use Rattle.owner_machine.specs.Contexts.{in_brackets, is_halt}
use Rattle.owner_machine.specs.Handlers.{may_halt}
use Rattle.legal_run.specs.State.{Inputs, State, adapter, alive}
use Rattle.legal_run.specs.Owed.{first, is_owed, owed_row}
use Rattle.owed_handlers.specs.declared.choice.Owed.{Owed}
use Rattle.owed_handlers.specs.declared.choice.Owed.TheVariants as owed
use Rattle.owed_handlers.specs.Order.{owed_of, owed_by, entry_if}

-- ---- in a list

pub first_is_find : {A : Type 0} (p : A → Bool) (xs : List A) → first (filter p xs) ≡ find p xs
first_is_find p [] = refl
first_is_find p (x ∷ xs) = elim (p x) as (λ b. first (cond b (x ∷ filter p xs) (filter p xs)) ≡ cond b (Some x) (find p xs)) [ true ↦ refl | false ↦ first_is_find p xs ]

pub find_skips : {A : Type 0} (p : A → Bool) (xs : List A) (i : ℕ) (d : A) → i < length xs → p (get_or xs i d) ≡ false → find p (drop i xs) ≡ find p (drop (i + 1) xs)
find_skips p xs i d lt fails = at_drop_more (find p) xs i d lt ∙ ap (λ b. cond b (Some (get_or xs i d)) (find p (drop (i + 1) xs))) fails

pub find_takes : {A : Type 0} (p : A → Bool) (xs : List A) (i : ℕ) (d : A) → i < length xs → p (get_or xs i d) ≡ true → find p (drop i xs) ≡ Some (get_or xs i d)
find_takes p xs i d lt holds = at_drop_more (find p) xs i d lt ∙ ap (λ b. cond b (Some (get_or xs i d)) (find p (drop (i + 1) xs))) holds

pub find_ends : {A : Type 0} (p : A → Bool) (xs : List A) (i : ℕ) → length xs ≤ i → find p (drop i xs) ≡ None
find_ends p xs i le = at_drop_all (find p) xs i le

pub find_nothing : {A : Type 0} (p : A → Bool) (xs : List A) → ((x : A) → p x ≡ false) → find p xs ≡ None
find_nothing p [] fails = refl
find_nothing p (x ∷ xs) fails = ap (λ b. cond b (Some x) (find p xs)) (fails x) ∙ find_nothing p xs fails

-- ---- among numbers from n up to a count

range_front : (n count : ℕ) → n < count → range_with_len n (count - n) ≡ n ∷ range_with_len (n + 1) (count - (n + 1))
range_front n count lt = ap (range_with_len n) (one_more n count lt)
  where
    one_more : (n count : ℕ) → n < count → count - n ≡ suc (count - (n + 1))
    one_more n count lt = omega arith

range_end : (n count : ℕ) → count ≤ n → range_with_len n (count - n) ≡ []
range_end n count le = ap (range_with_len n) (none_left n count le)
  where
    none_left : (n count : ℕ) → count ≤ n → count - n ≡ 0
    none_left n count le = omega arith

pub all_more : (p : ℕ → Bool) (n count : ℕ) → n < count → p n ≡ true → list_all p (range_with_len n (count - n)) ≡ list_all p (range_with_len (n + 1) (count - (n + 1)))
all_more p n count lt holds = ap (list_all p) (range_front n count lt) ∙ ap (λ b. b && list_all p (range_with_len (n + 1) (count - (n + 1)))) holds

pub not_all : (p : ℕ → Bool) (n count : ℕ) → n < count → p n ≡ false → list_all p (range_with_len n (count - n)) ≡ false
not_all p n count lt fails = ap (list_all p) (range_front n count lt) ∙ ap (λ b. b && list_all p (range_with_len (n + 1) (count - (n + 1)))) fails

pub all_done : (p : ℕ → Bool) (n count : ℕ) → count ≤ n → list_all p (range_with_len n (count - n)) ≡ true
all_done p n count le = ap (list_all p) (range_end n count le)

-- ---- among adapters

first_behind_none : {A : Type 0} (xs ys : List A) → first xs ≡ None → first (xs ++ ys) ≡ first ys
first_behind_none [] ys none = refl
first_behind_none (x ∷ xs) ys none = cc

first_in_front : {A : Type 0} (xs ys : List A) (x : A) → first xs ≡ Some x → first (xs ++ ys) ≡ Some x
first_in_front [] ys x some = cc
first_in_front (y ∷ xs) ys x some = some

first_map : {A B : Type 0} (f : A → B) (xs : List A) → first (map f xs) ≡ option_map f (first xs)
first_map f [] = refl
first_map f (x ∷ xs) = refl

pub first_owed_of : (c : Inputs) (s : State) (hs : List Handler) (a : ℕ) → first (owed_of c s hs a) ≡ option_map (λ h. owed.Handler (adapter a) h) (find (is_owed c s a) hs)
first_owed_of c s hs a = first_map (λ h. owed.Handler (adapter a) h) (filter (is_owed c s a) hs) ∙ ap (option_map (λ h. owed.Handler (adapter a) h)) (first_is_find (is_owed c s a) hs)

pub next_adapter : (c : Inputs) (s : State) (hs : List Handler) (n count : ℕ) → n < count → find (is_owed c s n) hs ≡ None → first (owed_by c s hs (range_with_len n (count - n))) ≡ first (owed_by c s hs (range_with_len (n + 1) (count - (n + 1))))
next_adapter c s hs n count lt none =
    ap (λ ns. first (owed_by c s hs ns)) (range_front n count lt)
    ∙ first_behind_none (owed_of c s hs n) (owed_by c s hs (range_with_len (n + 1) (count - (n + 1)))) (first_owed_of c s hs n ∙ ap (option_map (λ h. owed.Handler (adapter n) h)) none)

pub this_adapter : (c : Inputs) (s : State) (hs : List Handler) (n count : ℕ) (h : Handler) → n < count → find (is_owed c s n) hs ≡ Some h → first (owed_by c s hs (range_with_len n (count - n))) ≡ Some (owed.Handler (adapter n) h)
this_adapter c s hs n count h lt some =
    ap (λ ns. first (owed_by c s hs ns)) (range_front n count lt)
    ∙ first_in_front (owed_of c s hs n) (owed_by c s hs (range_with_len (n + 1) (count - (n + 1)))) (owed.Handler (adapter n) h) (first_owed_of c s hs n ∙ ap (option_map (λ h'. owed.Handler (adapter n) h')) some)

pub no_adapter : (c : Inputs) (s : State) (hs : List Handler) (n count : ℕ) → count ≤ n → first (owed_by c s hs (range_with_len n (count - n))) ≡ None
no_adapter c s hs n count le = ap (λ ns. first (owed_by c s hs ns)) (range_end n count le)

-- an adapter that does not live owes nothing
pub nothing_of : (c : Inputs) (s : State) (a : ℕ) (hs : List Handler) → alive s a ≡ false → find (is_owed c s a) hs ≡ None
nothing_of c s a hs dead = find_nothing (is_owed c s a) hs (λ h. ap (λ b. b && (owed_row c s a h && (in_brackets s.owner a h && implies (is_halt h) (may_halt s.owner a)))) dead)

-- ---- interrupt handlers, DriverEntry, other handlers

none_or_some : {A : Type 0} (r : Option A) → is_some r ≡ false → r ≡ None
none_or_some None e = refl
none_or_some (Some x) e = absurd (false≢true (sym e))

pub urgent_first : {A : Type 0} (xs ys : List A) (r : Option A) → r ≡ first xs → is_some r ≡ true → r ≡ first (xs ++ ys)
urgent_first [] ys r e some = absurd (false≢true (sym (ap is_some e) ∙ some))
urgent_first (x ∷ xs) ys r e some = e

pub entry_first : (xs ys : List Owed) (r : Option Owed) (b : Bool) → r ≡ first xs → is_some r ≡ false → b ≡ true → Some owed.Entry ≡ first (xs ++ (entry_if b ++ ys))
entry_first xs ys r b e none owes = sym (first_behind_none xs (entry_if b ++ ys) (sym e ∙ none_or_some r none) ∙ ap (λ z. first (entry_if z ++ ys)) owes)

pub rest_first : (xs ys : List Owed) (r q : Option Owed) (b : Bool) → r ≡ first xs → is_some r ≡ false → b ≡ false → q ≡ first ys → q ≡ first (xs ++ (entry_if b ++ ys))
rest_first xs ys r q b e none owes is = is ∙ sym (first_behind_none xs (entry_if b ++ ys) (sym e ∙ none_or_some r none) ∙ ap (λ z. first (entry_if z ++ ys)) owes)
