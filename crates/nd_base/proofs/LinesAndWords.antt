-- Parts, words, lines and numbers of a text.
use Rattle.std.proofs.Common.{◌≡◌, ℕ, suc, ◌+◌, ◌-◌, ◌*◌, ◌^◌, ◌<◌, ◌≤◌, Bool, true, false, eqb, ltb, List, [], ◌∷◌, length, min, take, drop, get_or, Some, None, refl, sym, ap, ◌∙◌, subst, inl, inr, arith, drop-cons, add-one}
use Rattle.std.proofs.Math.ListN.{drop_of_length-le}
use Rattle.std.specs.List.{slice_split, onto_first, position, position_or_len, filter}
use Rattle.std.specs.Str.Lines.{lines, lines_of_parts, strip_carriage_return}
use Rattle.std.proofs.lemmas.List.Splits.{slice_split_first, slice_split-cons_no, slice_split-cons_yes}
use Rattle.std.proofs.lemmas.Bool.{cases_Bool, eqb-true}
use Rattle.std.proofs.lemmas.Bool.Decides.{nat_tests}
use Rattle.std.proofs.lemmas.Option.{cond_some}
use Rattle.std.specs.Char.{is_digit, digit_value}
use Rattle.nd_base.specs.Words.{is_blank, words, has_bytes, with_word, digits_after, saturated}

whole : (p : ℕ → Bool) (bs : List ℕ) → length bs ≤ position_or_len p bs → slice_split p bs ≡ bs ∷ []
whole p [] h = refl
whole p (b ∷ bs) h = elim (cases_Bool (p b)) [
  | inl on ↦ let k : suc (length bs) ≤ 0 = rw on at h in absurd (omega arith)
  | inr off ↦ let k : suc (length bs) ≤ 1 + position_or_len p bs = rw off at h in slice_split-cons_no p b bs off ∙ ap (onto_first b) (whole p bs (omega arith))
]

-- the parts, where the first that passes stands at i
pub cut : (p : ℕ → Bool) (bs : List ℕ) (i : ℕ) → position p bs ≡ Some i → slice_split p bs ≡ take i bs ∷ slice_split p (drop (i + 1) bs)
cut p bs i h =
    let k = cond_some (ltb (position_or_len p bs) (length bs)) (position_or_len p bs) i h in
    let at : position_or_len p bs ≡ i = k.1 in
    let within : ltb (position_or_len p bs) (length bs) ≡ true = k.0 in
    let lt : position_or_len p bs < length bs = grind (arith, nat_tests) in
    subst (λ (n : ℕ). slice_split p bs ≡ take n bs ∷ slice_split p (drop (n + 1) bs)) at (slice_split_first p bs 0 lt)

pub uncut : (p : ℕ → Bool) (bs : List ℕ) → position p bs ≡ None → slice_split p bs ≡ bs ∷ []
uncut p bs h = elim (cases_Bool (ltb (position_or_len p bs) (length bs))) [
  | inl on ↦ let k : Some (position_or_len p bs) ≡ None = rw on at h in absurd (cc)
  | inr off ↦ let le : length bs ≤ position_or_len p bs = grind (arith, nat_tests) in whole p bs le
]

onto_more : (x : List ℕ) (b : ℕ) (parts : List (List ℕ)) → lines_of_parts (x ∷ onto_first b parts) ≡ strip_carriage_return x ∷ lines_of_parts (onto_first b parts)
onto_more x b [] = refl
onto_more x b (part ∷ parts) = refl

parts_more : (p : ℕ → Bool) (x bs : List ℕ) → lines_of_parts (x ∷ slice_split p bs) ≡ strip_carriage_return x ∷ lines_of_parts (slice_split p bs)
parts_more p x [] = refl
parts_more p x (b ∷ bs) = elim (cases_Bool (p b)) [
  | inl on ↦ rw (slice_split-cons_yes p b bs on) refl
  | inr off ↦ rw (slice_split-cons_no p b bs off) (onto_more x b (slice_split p bs))
]

pub line_some : (bs line rest : List ℕ) (i : ℕ) → position (λ b. eqb b 10) bs ≡ Some i → line ≡ strip_carriage_return (take i bs) → rest ≡ drop (i + 1) bs → lines bs ≡ line ∷ lines rest
line_some bs line rest i h l r = ap lines_of_parts (cut (λ b. eqb b 10) bs i h) ∙ parts_more (λ b. eqb b 10) (take i bs) (drop (i + 1) bs) ∙ rw (l, r) refl

pub line_none : (bs : List ℕ) → 0 < length bs → position (λ b. eqb b 10) bs ≡ None → lines bs ≡ bs ∷ lines []
line_none [] lt h = absurd (omega arith)
line_none (b ∷ bs) lt h = let off : eqb (suc (length bs)) 0 ≡ false = search (arith, nat_tests) in ap lines_of_parts (uncut (λ b. eqb b 10) (b ∷ bs) h) ∙ rw off refl

kept : (part : List ℕ) (ps : List (List ℕ)) → filter has_bytes (part ∷ ps) ≡ with_word part (filter has_bytes ps)
kept [] ps = refl
kept (b ∷ bs) ps = refl

pub word_some : (bs rest : List ℕ) (i : ℕ) → position is_blank bs ≡ Some i → rest ≡ drop (i + 1) bs → words bs ≡ with_word (take i bs) (words rest)
unfolding words
word_some bs rest i h r = ap (filter has_bytes) (cut is_blank bs i h) ∙ kept (take i bs) (slice_split is_blank (drop (i + 1) bs)) ∙ rw r refl

pub word_none : (bs : List ℕ) → position is_blank bs ≡ None → words bs ≡ with_word bs (words [])
unfolding words
word_none bs h = ap (filter has_bytes) (uncut is_blank bs h) ∙ kept bs []

-- numbers
same_step : (m n d : ℕ) → min m (2 ^ 64 - 1) ≡ min n (2 ^ 64 - 1) → min (m * 10 + d) (2 ^ 64 - 1) ≡ min (n * 10 + d) (2 ^ 64 - 1)
same_step m n d h = omega arith

-- numbers from 2^64 - 1 on go on alike
pub saturated_same : (m n : ℕ) (cs : List ℕ) → min m (2 ^ 64 - 1) ≡ min n (2 ^ 64 - 1) → saturated (digits_after m cs) ≡ saturated (digits_after n cs)
unfolding digits_after
saturated_same m n [] h = ap (λ (k : ℕ). Some k) h
saturated_same m n (c ∷ cs) h = elim (cases_Bool (is_digit c 10)) [
  | inl on ↦ rw on (saturated_same (m * 10 + digit_value c) (n * 10 + digit_value c) cs (same_step m n (digit_value c) h))
  | inr off ↦ rw off refl
]

pub digit_step : (v i : ℕ) (w : List ℕ) → i < length w → is_digit (get_or w i 0) 10 ≡ true → digits_after v (drop i w) ≡ digits_after (v * 10 + digit_value (get_or w i 0)) (drop (i + 1) w)
unfolding digits_after
digit_step v i w lt on = ap (digits_after v) (drop-cons w i 0 lt) ∙ rw (on, add-one) refl

pub digit_stop : (v i : ℕ) (w : List ℕ) → i < length w → is_digit (get_or w i 0) 10 ≡ false → digits_after v (drop i w) ≡ None
unfolding digits_after
digit_stop v i w lt off = ap (digits_after v) (drop-cons w i 0 lt) ∙ rw off refl

pub no_more : (v : ℕ) → digits_after v [] ≡ Some v
unfolding digits_after
no_more v = refl

pub no_words_left : (bs : List ℕ) → true ≡ eqb (length bs) 0 → words bs ≡ []
unfolding words
no_words_left [] h = refl
no_words_left (b ∷ bs) h = let k : suc (length bs) ≡ 0 = eqb-true _ _ (sym h) in absurd (omega arith)

pub read_all : (v i : ℕ) (w : List ℕ) → length w ≤ i → v ≤ 2 ^ 64 - 1 → saturated (digits_after v (drop i w)) ≡ Some v
read_all v i w le most =
    let small : min v (2 ^ 64 - 1) ≡ v = omega arith in
    ap (λ (s : List ℕ). saturated (digits_after v s)) (drop_of_length-le w le) ∙ ap saturated (no_more v) ∙ ap (λ (k : ℕ). Some k) small
