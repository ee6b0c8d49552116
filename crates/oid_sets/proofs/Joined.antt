-- Addresses that are put one after the other, each once.
use Rattle.std.proofs.Common.{◌≡◌, ℕ, suc, ◌+◌, ◌-◌, ◌<◌, ◌≤◌, ◌/◌, Bool, true, false, ◌||◌, if◌then◌else◌, List, [], ◌∷◌, ◌++◌, length, take, drop, get_or, refl, sym, ap, ◌∙◌, arith, append_assoc, append-nil}
use Rattle.std.specs.List.{list_any, flat_map}
use Rattle.std.specs.Str.{bytes_eq}
use Rattle.std.proofs.lemmas.List.{flat_map_more, take_more}
use Rattle.std.proofs.lemmas.List.Folds.{list_any-append}
use Rattle.std.proofs.lemmas.Bool.{false≢true}
use Rattle.std.proofs.Math.Seq.{take-length}
use Rattle.legal_run.specs.Enters.{addresses, addresses_in, each_once}
use Rattle.oid_sets.specs.Joins.{added, all_added}

-- ---- a list's addresses

next_six : (n : ℕ) → suc (suc (suc (suc (suc (suc n))))) / 6 ≡ suc (n / 6)
next_six n = omega arith

pub six : (a b c d e f : ℕ) (rest : List ℕ) → addresses (a ∷ b ∷ c ∷ d ∷ e ∷ f ∷ rest) ≡ (a ∷ b ∷ c ∷ d ∷ e ∷ f ∷ []) ∷ addresses rest
unfolding addresses_in
six a b c d e f rest = ap (λ (n : ℕ). addresses_in n (a ∷ b ∷ c ∷ d ∷ e ∷ f ∷ rest)) (next_six (length rest))

all_taken : (xs : List ℕ) → take (length xs) xs ≡ xs
all_taken xs = take-length xs

six_less : (n : ℕ) → suc (suc (suc (suc (suc (suc n))))) - 6 ≡ n
six_less n = omega arith

pub six_or_more : (list : List ℕ) → 6 ≤ length list
    → addresses list ≡ (get_or list 0 0 ∷ get_or list 1 0 ∷ get_or list 2 0 ∷ get_or list 3 0 ∷ get_or list 4 0 ∷ get_or list 5 0 ∷ [])
    ∷ addresses (take (length list - 6) (drop 6 list))
six_or_more (a ∷ b ∷ c ∷ d ∷ e ∷ f ∷ rest) more =
    six a b c d e f rest ∙ ap (λ ws. (a ∷ b ∷ c ∷ d ∷ e ∷ f ∷ []) ∷ addresses ws) (sym (ap (λ (n : ℕ). take n rest) (six_less (length rest)) ∙ all_taken rest))
six_or_more [] more = absurd (omega arith)
six_or_more (a ∷ []) more = absurd (omega arith)
six_or_more (a ∷ b ∷ []) more = absurd (omega arith)
six_or_more (a ∷ b ∷ c ∷ []) more = absurd (omega arith)
six_or_more (a ∷ b ∷ c ∷ d ∷ []) more = absurd (omega arith)
six_or_more (a ∷ b ∷ c ∷ d ∷ e ∷ []) more = absurd (omega arith)

none_of_six : (n : ℕ) → n < 6 → n / 6 ≡ 0
none_of_six n less = omega (arith, less)

pub few : (bytes : List ℕ) → length bytes < 6 → addresses bytes ≡ []
unfolding addresses_in
few bytes less = ap (λ (n : ℕ). addresses_in n bytes) (none_of_six (length bytes) less)

-- ---- one after the other

pub added_behind : (there xs ys : List (List ℕ)) → all_added there (xs ++ ys) ≡ all_added (all_added there xs) ys
unfolding all_added
added_behind there [] ys = refl
added_behind there (x ∷ xs) ys = added_behind (added there x) xs ys

joined_more : {A : Type 0} (f : A → List (List ℕ)) (there : List (List ℕ)) (ds : List A) (d : A)
    → all_added (all_added there (flat_map f ds)) (f d) ≡ all_added there (flat_map f (ds ++ d ∷ []))
joined_more f there ds d = sym (added_behind there (flat_map f ds) (f d)) ∙ ap (all_added there) (flat_map_more f [] ds d)

-- behind one list more
pub one_more : {A : Type 0} (f : A → List (List ℕ)) (there now : List (List ℕ)) (ds : List A) (i : ℕ) (d : A) → i < length ds → d ≡ get_or ds i d
    → now ≡ all_added there (flat_map f (take i ds)) → all_added now (f d) ≡ all_added there (flat_map f (take (i + 1) ds))
one_more f there now ds i d less is same =
    ap (λ (ws : List (List ℕ)). all_added ws (f d)) same ∙ joined_more f there (take i ds) d
    ∙ ap (λ es. all_added there (flat_map f es)) (ap (λ e. take i ds ++ e ∷ []) is ∙ sym (take_more ds i d less))

pub none_added : (there : List (List ℕ)) → there ≡ all_added there []
unfolding all_added
none_added there = refl

pub one_added : (there now : List (List ℕ)) (x : List ℕ) (xs : List (List ℕ)) → now ≡ added there x → all_added now xs ≡ all_added there (x ∷ xs)
unfolding all_added
one_added there now x xs is = ap (λ (ws : List (List ℕ)). all_added ws xs) is

-- ---- each once

or_swap : (a b : Bool) → (a || b) ≡ (b || a)
or_swap true true = refl
or_swap true false = refl
or_swap false true = refl
or_swap false false = refl

or_none : (a : Bool) → (a || false) ≡ a
or_none true = refl
or_none false = refl

-- the same addresses are among these
abbrev IsSame : List (List ℕ) → List (List ℕ) → Type 0
IsSame there seen = (y : List ℕ) → list_any (bytes_eq y) there ≡ list_any (bytes_eq y) seen

same_more : (there seen : List (List ℕ)) (x : List ℕ) → IsSame there seen → IsSame (there ++ x ∷ []) (x ∷ seen)
same_more there seen x same y =
    list_any-append (bytes_eq y) there (x ∷ [])
    ∙ ap (λ (b : Bool). list_any (bytes_eq y) there || b) (or_none (bytes_eq y x))
    ∙ ap (λ (b : Bool). b || bytes_eq y x) (same y)
    ∙ or_swap (list_any (bytes_eq y) seen) (bytes_eq y x)

once : (there seen xs : List (List ℕ)) → IsSame there seen → all_added there xs ≡ there ++ each_once seen xs
unfolding all_added each_once
once there seen [] same = sym (append-nil there)
once there seen (x ∷ xs) same = by_test (λ t u. once t u xs) (list_any (bytes_eq x) there) (list_any (bytes_eq x) seen) refl (same x)
  where
    by_test : ((t u : List (List ℕ)) → IsSame t u → all_added t xs ≡ t ++ each_once u xs) → (t u : Bool) → list_any (bytes_eq x) there ≡ t → t ≡ u
        → all_added (if t then there else there ++ x ∷ []) xs ≡ there ++ (if u then each_once seen xs else x ∷ each_once (x ∷ seen) xs)
    by_test rest true true is tu = rest there seen same
    by_test rest false false is tu = rest (there ++ x ∷ []) (x ∷ seen) (same_more there seen x same) ∙ append_assoc there (x ∷ []) (each_once (x ∷ seen) xs)
    by_test rest true false is tu = absurd (false≢true (sym tu))
    by_test rest false true is tu = absurd (false≢true tu)

none_same : IsSame [] []
none_same y = refl

pub all_once : (xs : List (List ℕ)) → all_added [] xs ≡ each_once [] xs
all_once xs = once [] [] xs none_same
