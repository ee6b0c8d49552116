-- Names, characters, quotes and parts, one after the other.
use Rattle.std.proofs.Common.{◌≡◌, ◌≢◌, ℕ, zero, suc, ◌<◌, Bool, true, false, List, [], ◌∷◌, length, map, get_or, refl, ap, arith, ◌+◌, ◌≤◌, ◌++◌, take, drop, drop-cons, add-one, add-zero, get_or-drop, ◌*◌, ◌/◌, Option, Some, None, ◌∙◌, ltb, sym, inl, inr}
use Rattle.std.proofs.lemmas.Bool.{false_from_ne_true, cases_Bool}
use Rattle.std.proofs.lemmas.Grind.{same_number_lists}
use Rattle.std.proofs.lemmas.Slice.Eq.{bytes_eq-Decides}
use Rattle.std.proofs.lemmas.List.{length-map, get_or-map}
use Rattle.inf_text.specs.Names.{without_case, folded, is_same}
use Rattle.std.proofs.Math.ListN.{drop_of_length-le}
use Rattle.inf_text.specs.Characters.{units, is_bad, one_on, first_bad}
use Rattle.std.specs.List.{onto_first}
use Rattle.std.proofs.lemmas.Bool.Decides.{nat_tests}
use Rattle.std.proofs.lemmas.Option.{cond_some}
use Rattle.std.proofs.lemmas.List.Sums.{fold-append}
use Rattle.inf_text.specs.Quotes.{is_blank, turned, is_open, is_mark, front_len, onto_rest, trimmed_end, stays, resolved_behind, cut, parts}

-- ---- texts that are equal without ASCII case, unit by unit

pub same_all : (a b : List ℕ) → length a ≡ length b → ((k : ℕ) → k < length a → without_case (get_or a k 0) ≡ without_case (get_or b k 0)) → is_same a b ≡ true
unfolding is_same folded
same_all a b e h =
    (bytes_eq-Decides (map without_case a) (map without_case b)).1 (same_number_lists (map without_case a) (map without_case b) (length-map a without_case ∙ e ∙ sym (length-map b without_case)) (λ k lt.
    let here : k < length a = omega (arith, lt, length-map a without_case) in
    get_or-map without_case a k 0 0 here ∙ h k here ∙ sym (get_or-map without_case b k 0 0 (omega arith))))

pub same_unit : (a b : List ℕ) (k : ℕ) → k < length a → k < length b → without_case (get_or a k 0) ≢ without_case (get_or b k 0) → is_same a b ≡ false
unfolding is_same folded
same_unit a b k p q h = false_from_ne_true _ (λ on. h (sym (get_or-map without_case a k 0 0 p) ∙ ap (λ (xs : List ℕ). get_or xs k 0) ((bytes_eq-Decides (map without_case a) (map without_case b)).0 on) ∙ get_or-map without_case b k 0 0 q))

pub same_length : (a b : List ℕ) → length a ≢ length b → is_same a b ≡ false
unfolding is_same folded
same_length a b h = false_from_ne_true _ (λ on. h (sym (length-map a without_case) ∙ ap length ((bytes_eq-Decides (map without_case a) (map without_case b)).0 on) ∙ length-map b without_case))

-- ---- characters, quotes and parts, one after the other

pub from_here : (xs : List ℕ) (i : ℕ) → i < length xs → drop i xs ≡ get_or xs i 0 ∷ drop (i + 1) xs
from_here xs i h = rw (add-one, drop-cons xs i 0) refl

pub none_left : (xs : List ℕ) (i : ℕ) → length xs ≤ i → drop i xs ≡ []
none_left xs i h = drop_of_length-le xs h

take_more : (xs : List ℕ) (i : ℕ) → i < length xs → take (suc i) xs ≡ take i xs ++ get_or xs i 0 ∷ []
take_more [] i h = absurd (omega arith)
take_more (x ∷ xs) zero h = refl
take_more (x ∷ xs) (suc i) h = ap (λ (ys : List ℕ). x ∷ ys) (take_more xs i (omega arith))

pub up_to_here : (xs : List ℕ) (i : ℕ) → i < length xs → take (i + 1) xs ≡ take i xs ++ get_or xs i 0 ∷ []
up_to_here xs i h = rw add-one (take_more xs i h)

pub get_further : (xs : List ℕ) (i : ℕ) → get_or (drop i xs) 0 0 ≡ get_or xs i 0
get_further xs i = rw (get_or-drop, add-zero) refl

-- ---- units, one after the other

abbrev pub further : ℕ → Option ℕ → Option ℕ
further i None = None
further i (Some k) = Some (i + k)

further_one : (i : ℕ) (o : Option ℕ) → further i (one_on o) ≡ further (i + 1) o
further_one i None = refl
further_one i (Some k) = let e : i + suc k ≡ i + 1 + k = omega arith in ap (λ (n : ℕ). Some n) e

pub further_none : (o : Option ℕ) → further 0 o ≡ o
further_none None = refl
further_none (Some k) = let e : 0 + k ≡ k = omega arith in ap (λ (n : ℕ). Some n) e

pub bad_on : (before : ℕ) (us : List ℕ) (i : ℕ) → i < length us → is_bad before (get_or us i 0) (get_or us (i + 1) 0) ≡ false → further i (first_bad before (drop i us)) ≡ further (i + 1) (first_bad (get_or us i 0) (drop (i + 1) us))
unfolding first_bad
bad_on before us i h off = ap (λ (xs : List ℕ). further i (first_bad before xs)) (from_here us i h) ∙ rw (get_further us (i + 1), off) (further_one i (first_bad (get_or us i 0) (drop (i + 1) us)))

pub bad_here : (before : ℕ) (us : List ℕ) (i : ℕ) → i < length us → is_bad before (get_or us i 0) (get_or us (i + 1) 0) ≡ true → further i (first_bad before (drop i us)) ≡ Some i
unfolding first_bad
bad_here before us i h on = ap (λ (xs : List ℕ). further i (first_bad before xs)) (from_here us i h) ∙ rw (get_further us (i + 1), on) (ap (λ (n : ℕ). Some n) (omega arith))

pub bad_end : (before : ℕ) (us : List ℕ) (i : ℕ) → length us ≤ i → further i (first_bad before (drop i us)) ≡ None
unfolding first_bad
bad_end before us i h = ap (λ (xs : List ℕ). further i (first_bad before xs)) (none_left us i h)

pub units_half : (bytes : List ℕ) → length (units bytes) ≡ length bytes / 2
unfolding units
units_half [] = refl
units_half (a ∷ []) = refl
units_half (a ∷ b ∷ bytes) = omega (arith, units_half bytes)

pub unit_here : (bytes : List ℕ) (i : ℕ) → i < length bytes / 2 → get_or bytes (2 * i) 0 + 256 * get_or bytes (2 * i + 1) 0 ≡ get_or (units bytes) i 0
unfolding units
unit_here [] i h = absurd (omega arith)
unit_here (a ∷ []) i h = absurd (omega arith)
unit_here (a ∷ b ∷ bytes) zero h = refl
unit_here (a ∷ b ∷ bytes) (suc i) h =
    let low : 2 * suc i ≡ suc (suc (2 * i)) = omega arith in
    let high : 2 * suc i + 1 ≡ suc (suc (2 * i + 1)) = omega arith in
    rw (high, low) (unit_here bytes i (omega arith))

past_end : (xs : List ℕ) (i : ℕ) → length xs ≤ i → 0 ≡ get_or xs i 0
past_end [] i h = refl
past_end (x ∷ xs) zero h = absurd (omega arith)
past_end (x ∷ xs) (suc i) h = past_end xs i (omega arith)

pub no_unit : (bytes : List ℕ) (i : ℕ) → length bytes / 2 ≤ i → 0 ≡ get_or (units bytes) i 0
no_unit bytes i h = past_end (units bytes) i (omega (arith, units_half bytes))

-- ---- quotes, blanks and parts, one character after the other

pub open_append : (inside : Bool) (xs ys : List ℕ) → is_open inside (xs ++ ys) ≡ is_open (is_open inside xs) ys
open_append inside xs ys = fold-append turned inside xs ys

pub front_here : (mark : ℕ) (inside : Bool) (cs : List ℕ) (i : ℕ) → i < length cs → is_mark mark inside (get_or cs i 0) ≡ true → front_len mark inside (drop i cs) ≡ 0
unfolding front_len
front_here mark inside cs i h on = ap (front_len mark inside) (from_here cs i h) ∙ rw on refl

pub front_on : (mark : ℕ) (inside : Bool) (cs : List ℕ) (i : ℕ) → i < length cs → is_mark mark inside (get_or cs i 0) ≡ false → front_len mark inside (drop i cs) ≡ suc (front_len mark (turned inside (get_or cs i 0)) (drop (i + 1) cs))
unfolding front_len
front_on mark inside cs i h off = ap (front_len mark inside) (from_here cs i h) ∙ rw off refl

pub front_end : (mark : ℕ) (inside : Bool) (cs : List ℕ) (i : ℕ) → length cs ≤ i → front_len mark inside (drop i cs) ≡ 0
unfolding front_len
front_end mark inside cs i h = ap (front_len mark inside) (none_left cs i h)

end_blank : (xs : List ℕ) (b : ℕ) → is_blank b ≡ true → trimmed_end (xs ++ b ∷ []) ≡ trimmed_end xs
unfolding trimmed_end
end_blank [] b on = rw on refl
end_blank (x ∷ xs) b on = ap (onto_rest x) (end_blank xs b on)

onto_more : (x : ℕ) (xs : List ℕ) (c : ℕ) → onto_rest x (xs ++ c ∷ []) ≡ x ∷ (xs ++ c ∷ [])
onto_more x [] c = refl
onto_more x (y ∷ ys) c = refl

end_other : (xs : List ℕ) (c : ℕ) → is_blank c ≡ false → trimmed_end (xs ++ c ∷ []) ≡ xs ++ c ∷ []
unfolding trimmed_end
end_other [] c off = rw off refl
end_other (x ∷ xs) c off = ap (onto_rest x) (end_other xs c off) ∙ onto_more x xs c

pub end_on : (cs : List ℕ) (i : ℕ) → i < length cs → is_blank (get_or cs i 0) ≡ true → trimmed_end (take (i + 1) cs) ≡ trimmed_end (take i cs)
end_on cs i h on = ap trimmed_end (up_to_here cs i h) ∙ end_blank (take i cs) (get_or cs i 0) on

pub end_here : (cs : List ℕ) (i : ℕ) → i < length cs → is_blank (get_or cs i 0) ≡ false → trimmed_end (take (i + 1) cs) ≡ take (i + 1) cs
end_here cs i h off = ap trimmed_end (up_to_here cs i h) ∙ end_other (take i cs) (get_or cs i 0) off ∙ sym (up_to_here cs i h)

pub end_end : trimmed_end [] ≡ []
unfolding trimmed_end
end_end = refl

pub resolved_stay : (before : ℕ) (inside : Bool) (cs : List ℕ) (i : ℕ) → i < length cs → stays before inside (get_or cs i 0) ≡ true
    → resolved_behind before inside (drop i cs) ≡ get_or cs i 0 ∷ resolved_behind (get_or cs i 0) (turned inside (get_or cs i 0)) (drop (i + 1) cs)
unfolding resolved_behind
resolved_stay before inside cs i h on = ap (resolved_behind before inside) (from_here cs i h) ∙ rw on refl

pub resolved_go : (before : ℕ) (inside : Bool) (cs : List ℕ) (i : ℕ) → i < length cs → stays before inside (get_or cs i 0) ≡ false
    → resolved_behind before inside (drop i cs) ≡ resolved_behind (get_or cs i 0) (turned inside (get_or cs i 0)) (drop (i + 1) cs)
unfolding resolved_behind
resolved_go before inside cs i h off = ap (resolved_behind before inside) (from_here cs i h) ∙ rw off refl

pub resolved_end : (before : ℕ) (inside : Bool) (cs : List ℕ) (i : ℕ) → length cs ≤ i → resolved_behind before inside (drop i cs) ≡ []
unfolding resolved_behind
resolved_end before inside cs i h = ap (resolved_behind before inside) (none_left cs i h)

cut_more : (c : ℕ) (cs : List ℕ) (k : ℕ) → onto_first c (take k cs ∷ parts false (drop (k + 1) cs)) ≡ take (suc k) (c ∷ cs) ∷ parts false (drop (suc k + 1) (c ∷ cs))
cut_more c cs k = let e : suc (k + 1) ≡ suc k + 1 = omega arith in ap (λ (n : ℕ). (c ∷ take k cs) ∷ parts false (drop n (c ∷ cs))) e

pub parts_cut : (inside : Bool) (cs : List ℕ) → front_len 44 inside cs < length cs → parts inside cs ≡ take (front_len 44 inside cs) cs ∷ parts false (drop (front_len 44 inside cs + 1) cs)
unfolding parts front_len
parts_cut inside [] h = absurd (omega arith)
parts_cut inside (c ∷ cs) h = elim (cases_Bool (is_mark 44 inside c)) [
  | inl on ↦ rw on refl
  | inr off ↦ let k : suc (front_len 44 (turned inside c) cs) < suc (length cs) = rw off at h in rw off (ap (onto_first c) (parts_cut (turned inside c) cs (omega arith)) ∙ cut_more c cs (front_len 44 (turned inside c) cs))
]

pub parts_whole : (inside : Bool) (cs : List ℕ) → length cs ≤ front_len 44 inside cs → parts inside cs ≡ cs ∷ []
unfolding parts front_len
parts_whole inside [] h = refl
parts_whole inside (c ∷ cs) h = elim (cases_Bool (is_mark 44 inside c)) [
  | inl on ↦ let k : suc (length cs) ≤ 0 = rw on at h in absurd (omega arith)
  | inr off ↦ let k : suc (length cs) ≤ suc (front_len 44 (turned inside c) cs) = rw off at h in rw off (ap (onto_first c) (parts_whole (turned inside c) cs (omega arith)))
]

-- what is cut off at the first mark
cut_is : (mark : ℕ) (cs part behind : List ℕ) → cut mark cs ≡ Some (part, behind)
    → (front_len mark false cs < length cs) × (take (front_len mark false cs) cs ≡ part) × (drop (front_len mark false cs + 1) cs ≡ behind)
cut_is mark cs part behind h =
    let k = cond_some (ltb (front_len mark false cs) (length cs)) (take (front_len mark false cs) cs, drop (front_len mark false cs + 1) cs) (part, behind) h in
    let within : ltb (front_len mark false cs) (length cs) ≡ true = k.0 in
    let lt : front_len mark false cs < length cs = grind (arith, nat_tests) in
    (lt, ap (λ (x : List ℕ × List ℕ). x.0) k.1, ap (λ (x : List ℕ × List ℕ). x.1) k.1)

pub parts_some : (cs part behind : List ℕ) → cut 44 cs ≡ Some (part, behind) → parts false cs ≡ part ∷ parts false behind
parts_some cs part behind h = let r = cut_is 44 cs part behind h in rw (parts_cut false cs r.0, r.1, r.2) refl

pub parts_none : (cs : List ℕ) → cut 44 cs ≡ None → parts false cs ≡ cs ∷ []
parts_none cs h = elim (cases_Bool (ltb (front_len 44 false cs) (length cs))) [
  | inl on ↦ let k : ◌≡◌ {A = Option (List ℕ × List ℕ)} (Some (take (front_len 44 false cs) cs, drop (front_len 44 false cs + 1) cs)) None = rw on at h in absurd (cc)
  | inr off ↦ let le : length cs ≤ front_len 44 false cs = grind (arith, nat_tests) in parts_whole false cs le
]
