-- A line with its breaks, its comment and its end is joined to its text, whose marks stand in quotes alone.
use Rattle.std.proofs.Common.{inl, inr, ◌≡◌, ◌≢◌, ◌⊎◌, ℕ, suc, ◌+◌, ◌-◌, ◌||◌, not, Bool, true, false, eqb, List, [], ◌∷◌, ◌++◌, length, fold, refl, sym, ap, ◌∙◌, subst, arith, true≢false, Option, Some, None, take, drop, get_or, append_assoc, length-append}
use Rattle.std.specs.Prelude.{if◌then◌else◌}
use Rattle.std.specs.List.{AllByRecursion, list_any, onto_first, slice_split}
use Rattle.std.proofs.lemmas.Bool.{cases_Bool, ne_eqb, and_right, eqb-true}
use Rattle.std.proofs.lemmas.List.Sums.{fold-append}
use Rattle.inf_text.specs.Quotes.{is_blank, turned, is_open, is_mark, front_len, parts, onto_rest, trimmed_end}
use Rattle.inf_text.specs.Joining.{last_of, said, goes_on, kept, joined}
use Rattle.inf_text.specs.Layout.{doubled, quoted, HasNoFeed, needs_quotes, AreBlanks, IsNoBlank, IsWord, IsIgnored, HasNoEquals, Setting, IsSetting, spelled, spaced, spaced_values, Tail, Break, IsTail, CommentHasNoFeed, comment_of, line_end, broken}
use Rattle.std.specs.Str.Lines.{lines, lines_of_parts, strip_carriage_return}
use Rattle.std.proofs.lemmas.List.{append-nil, length_push, take-append-drop}
use Rattle.std.proofs.lemmas.List.Splits.{slice_split-cons_no, slice_split-cons_yes}
use Rattle.std.proofs.Math.Seq.{take-length, take-append_seam, get_or-append_seam}
use Rattle.inf_text.proofs.LineLoops.{parts_more, joined_on, joined_off}

-- ---- texts whose marks stand in quotes alone: blanks, words and texts in quotes are such texts, and what they make one behind the other

abbrev pub Fits : ℕ → Bool → List ℕ → Type 0
Fits mark inside [] = Unit {0}
Fits mark inside (c ∷ cs) = (is_mark mark inside c ≡ false) × (c ≢ 10) × Fits mark (turned inside c) cs

pub fits_append : (mark : ℕ) (inside : Bool) (xs ys : List ℕ) → Fits mark inside xs → Fits mark (is_open inside xs) ys → Fits mark inside (xs ++ ys)
fits_append mark inside [] ys h k = k
fits_append mark inside (x ∷ xs) ys h k = (h.0, h.1, fits_append mark (turned inside x) xs ys h.2 k)

pub fits_front : (mark : ℕ) (inside : Bool) (xs ys : List ℕ) → Fits mark inside (xs ++ ys) → Fits mark inside xs
fits_front mark inside [] ys h = tt
fits_front mark inside (x ∷ xs) ys h = (h.0, h.1, fits_front mark (turned inside x) xs ys h.2)

pub fits_behind : (mark : ℕ) (inside : Bool) (xs ys : List ℕ) → Fits mark inside (xs ++ ys) → Fits mark (is_open inside xs) ys
fits_behind mark inside [] ys h = h
fits_behind mark inside (x ∷ xs) ys h = fits_behind mark (turned inside x) xs ys h.2

pub fits_all : (mark : ℕ) (inside : Bool) (xs : List ℕ) → Fits mark inside xs → front_len mark inside xs ≡ length xs
unfolding front_len
fits_all mark inside [] h = refl
fits_all mark inside (x ∷ xs) h = rw h.0 (ap suc (fits_all mark (turned inside x) xs h.2))

pub fits_len : (mark : ℕ) (inside : Bool) (xs ys : List ℕ) → Fits mark inside xs → front_len mark inside (xs ++ ys) ≡ length xs + front_len mark (is_open inside xs) ys
unfolding front_len
fits_len mark inside [] ys h = omega arith
fits_len mark inside (x ∷ xs) ys h = rw h.0 (omega (arith, fits_len mark (turned inside x) xs ys h.2))

pub fits_feeds : (mark : ℕ) (inside : Bool) (xs : List ℕ) → Fits mark inside xs → HasNoFeed xs
fits_feeds mark inside [] h = tt
fits_feeds mark inside (x ∷ xs) h = (h.1, fits_feeds mark (turned inside x) xs h.2)

pub fits_parts : (inside : Bool) (xs more p : List ℕ) (ps : List (List ℕ)) → Fits 44 inside xs → parts (is_open inside xs) more ≡ p ∷ ps → parts inside (xs ++ more) ≡ (xs ++ p) ∷ ps
unfolding parts
fits_parts inside [] more p ps h e = e
fits_parts inside (x ∷ xs) more p ps h e = rw h.0 (ap (onto_first x) (fits_parts (turned inside x) xs more p ps h.2 e))

-- ---- the last character that is no blank, and the first one

abbrev pub later : ℕ → ℕ → ℕ
later d c = if is_blank c then d else c

abbrev pub last_word : ℕ → List ℕ → ℕ
last_word d cs = fold later d cs

abbrev pub is_end : ℕ → Bool
is_end c = eqb c 92 || eqb c 13

abbrev pub first_word : List ℕ → ℕ → ℕ
first_word [] d = d
first_word (c ∷ cs) d = if is_blank c then first_word cs d else c

first_append : (xs ys : List ℕ) (d : ℕ) → first_word (xs ++ ys) d ≡ first_word xs (first_word ys d)
first_append [] ys d = refl
first_append (x ∷ xs) ys d = elim (cases_Bool (is_blank x)) [ inl on ↦ rw on (first_append xs ys d) | inr off ↦ rw off refl ]

-- a text begins with no bracket, whatever stands behind it
pub record Starts (cs : List ℕ) : Type 0 where
  pub first : (d : ℕ) → eqb d 91 ≡ false → eqb (first_word cs d) 91 ≡ false

pub starts_append : (xs ys : List ℕ) → Starts xs → Starts ys → Starts (xs ++ ys)
starts_append xs ys a b = record { first = λ d e. ap (λ (c : ℕ). eqb c 91) (first_append xs ys d) ∙ a.first (first_word ys d) (b.first d e) }

-- a text has no mark outside quotes, closes its quotes, and ends with no backslash and no carriage return, whatever stands before it
pub record IsText (mark : ℕ) (cs : List ℕ) : Type 0 where
  pub fits : Fits mark false cs
  pub closed : is_open false cs ≡ false
  pub ends : (d : ℕ) → is_end d ≡ false → is_end (last_word d cs) ≡ false

pub text_append : (mark : ℕ) (xs ys : List ℕ) → IsText mark xs → IsText mark ys → IsText mark (xs ++ ys)
text_append mark xs ys a b = record {
  fits = fits_append mark false xs ys a.fits (subst (λ (now : Bool). Fits mark now ys) (sym a.closed) b.fits);
  closed = fold-append turned false xs ys ∙ ap (λ (now : Bool). is_open now ys) a.closed ∙ b.closed;
  ends = λ d e. ap is_end (fold-append later d xs ys) ∙ b.ends (last_word d xs) (a.ends d e);
}

pub front_at : (mark : ℕ) (xs ys : List ℕ) → IsText mark xs → front_len mark false (xs ++ ys) ≡ length xs + front_len mark false ys
front_at mark xs ys t = fits_len mark false xs ys t.fits ∙ ap (λ (now : Bool). length xs + front_len mark now ys) t.closed

pub parts_at : (xs more p : List ℕ) (ps : List (List ℕ)) → IsText 44 xs → parts false more ≡ p ∷ ps → parts false (xs ++ more) ≡ (xs ++ p) ∷ ps
parts_at xs more p ps t e = fits_parts false xs more p ps t.fits (ap (λ (now : Bool). parts now more) t.closed ∙ e)

pub feed_no : (c : ℕ) → eqb c 10 ≡ false → c ≢ 10
feed_no c off e = absurd (true≢false (sym (ap (λ (d : ℕ). eqb d 10) e) ∙ off))

-- one character
pub text_one : (mark c : ℕ) → eqb c mark ≡ false → eqb c 34 ≡ false → eqb c 10 ≡ false → is_end c ≡ false → IsText mark (c ∷ [])
text_one mark c m q f e = record {
  fits = (m, feed_no c f, tt);
  closed = rw q refl;
  ends = λ d h. elim (cases_Bool (is_blank c)) [ inl on ↦ rw on h | inr off ↦ rw off e ];
}

-- ---- blanks

abbrev pub IsBlank : ℕ → Type 0
IsBlank b = (b ≡ 32) ⊎ (b ≡ 9)

pub blank : (b : ℕ) → IsBlank b → is_blank b ≡ true
blank b (inl space) = ap is_blank space
blank b (inr tab) = ap is_blank tab

pub no_blank : (b c : ℕ) → IsBlank b → is_blank c ≡ false → eqb b c ≡ false
no_blank b c h k = ne_eqb b c (λ e. absurd (true≢false (sym (blank b h) ∙ ap is_blank e ∙ k)))

turned_blank : (inside : Bool) (b : ℕ) → IsBlank b → turned inside b ≡ inside
turned_blank inside b h = rw (no_blank b 34 h refl) refl

pub blanks_fit : (mark : ℕ) (inside : Bool) (bs : List ℕ) → is_blank mark ≡ false → AreBlanks bs → Fits mark inside bs
blanks_fit mark inside [] m h = tt
blanks_fit mark inside (b ∷ bs) m h =
    (and_right (not inside) (eqb b mark) (no_blank b mark h.0 m), feed_no b (no_blank b 10 h.0 refl), subst (λ (now : Bool). Fits mark now bs) (sym (turned_blank inside b h.0)) (blanks_fit mark inside bs m h.1))

pub blanks_open : (inside : Bool) (bs : List ℕ) → AreBlanks bs → is_open inside bs ≡ inside
blanks_open inside [] h = refl
blanks_open inside (b ∷ bs) h = ap (λ (now : Bool). is_open now bs) (turned_blank inside b h.0) ∙ blanks_open inside bs h.1

pub blanks_last : (d : ℕ) (bs : List ℕ) → AreBlanks bs → last_word d bs ≡ d
blanks_last d [] h = refl
blanks_last d (b ∷ bs) h = rw (blank b h.0) (blanks_last d bs h.1)

blanks_first : (d : ℕ) (bs : List ℕ) → AreBlanks bs → first_word bs d ≡ d
blanks_first d [] h = refl
blanks_first d (b ∷ bs) h = rw (blank b h.0) (blanks_first d bs h.1)

starts_blanks : (bs : List ℕ) → AreBlanks bs → Starts bs
starts_blanks bs h = record { first = λ d e. ap (λ (c : ℕ). eqb c 91) (blanks_first d bs h) ∙ e }

pub text_blanks : (mark : ℕ) (bs : List ℕ) → is_blank mark ≡ false → AreBlanks bs → IsText mark bs
text_blanks mark bs m h = record { fits = blanks_fit mark false bs m h; closed = blanks_open false bs h; ends = λ d e. ap is_end (blanks_last d bs h) ∙ e }

-- ---- texts in quotes

doubled_fits : (mark : ℕ) (v : List ℕ) → eqb 34 mark ≡ false → HasNoFeed v → Fits mark true (doubled v)
unfolding doubled
doubled_fits mark [] m h = tt
doubled_fits mark (c ∷ cs) m h = elim (cases_Bool (eqb c 34)) [
  | inl on ↦ rw on (refl, feed_no 34 refl, (m, feed_no 34 refl, doubled_fits mark cs m h.1))
  | inr off ↦ rw off (rw off (refl, h.0, doubled_fits mark cs m h.1))
]

turned_other : (c : ℕ) → eqb c 34 ≡ false → turned true c ≡ true
turned_other c off = rw off refl

doubled_open : (v : List ℕ) → is_open true (doubled v) ≡ true
unfolding doubled
doubled_open [] = refl
doubled_open (c ∷ cs) = elim (cases_Bool (eqb c 34)) [ inl on ↦ rw on (doubled_open cs) | inr off ↦ rw off (ap (λ (now : Bool). is_open now (doubled cs)) (turned_other c off) ∙ doubled_open cs) ]

text_quoted : (mark : ℕ) (v : List ℕ) → eqb 34 mark ≡ false → HasNoFeed v → IsText mark (quoted v)
text_quoted mark v m h = record {
  fits = (m, feed_no 34 refl, fits_append mark true (doubled v) (34 ∷ []) (doubled_fits mark v m h) (subst (λ (now : Bool). Fits mark now (34 ∷ [])) (sym (doubled_open v)) (refl, feed_no 34 refl, tt)));
  closed = fold-append turned true (doubled v) (34 ∷ []) ∙ ap (λ (now : Bool). is_open now (34 ∷ [])) (doubled_open v);
  ends = λ d e. ap is_end (fold-append later 34 (doubled v) (34 ∷ []));
}

-- ---- words

abbrev pub ArePlain : List ℕ → Type 0
ArePlain v = AllByRecursion (λ c. needs_quotes c ≡ false) v

-- a mark that a text does not hold
abbrev pub Lacks : ℕ → List ℕ → Type 0
Lacks mark v = AllByRecursion (λ c. eqb c mark ≡ false) v

-- characters that a test tells apart
apart_by : (test : ℕ → Bool) (c d : ℕ) → test c ≡ false → test d ≡ true → eqb c d ≡ false
apart_by test c d h k = ne_eqb c d (λ e. absurd (true≢false (sym k ∙ ap test (sym e) ∙ h)))

pub plain_not : (c d : ℕ) → needs_quotes c ≡ false → needs_quotes d ≡ true → eqb c d ≡ false
plain_not c d h k = apart_by needs_quotes c d h k

plain_turned : (c : ℕ) → needs_quotes c ≡ false → turned false c ≡ false
plain_turned c h = rw (plain_not c 34 h refl) refl

pub lacks_mark : (mark : ℕ) (v : List ℕ) → needs_quotes mark ≡ true → ArePlain v → Lacks mark v
lacks_mark mark [] m h = tt
lacks_mark mark (c ∷ cs) m h = (plain_not c mark h.0 m, lacks_mark mark cs m h.1)

pub lacks_equals : (v : List ℕ) → HasNoEquals v → Lacks 61 v
lacks_equals [] h = tt
lacks_equals (c ∷ cs) h = (ne_eqb c 61 h.0, lacks_equals cs h.1)

word_fits : (mark : ℕ) (v : List ℕ) → Lacks mark v → ArePlain v → Fits mark false v
word_fits mark [] m h = tt
word_fits mark (c ∷ cs) m h = (m.0, feed_no c (plain_not c 10 h.0 refl), subst (λ (now : Bool). Fits mark now cs) (sym (plain_turned c h.0)) (word_fits mark cs m.1 h.1))

word_open : (v : List ℕ) → ArePlain v → is_open false v ≡ false
word_open [] h = refl
word_open (c ∷ cs) h = ap (λ (now : Bool). is_open now cs) (plain_turned c h.0) ∙ word_open cs h.1

pub no_blank_is : (c : ℕ) → IsNoBlank c → is_blank c ≡ false
no_blank_is c h = rw (ne_eqb c 32 h.0, ne_eqb c 9 h.1) refl

pub last_more : (c d : ℕ) (ds : List ℕ) → last_of (c ∷ d ∷ ds) ≡ last_of (d ∷ ds)
last_more c d ds =
    let e : suc (suc (length ds)) - 1 ≡ suc (length ds) = omega arith in
    let f : suc (length ds) - 1 ≡ length ds = omega arith in
    rw (e, f) refl

last_plain : (c : ℕ) (cs : List ℕ) → ArePlain (c ∷ cs) → needs_quotes (last_of (c ∷ cs)) ≡ false
last_plain c [] h = h.0
last_plain c (d ∷ ds) h = ap needs_quotes (last_more c d ds) ∙ last_plain d ds h.1

pub last_apart : (c : ℕ) (cs : List ℕ) → (front : List ℕ) × (c ∷ cs ≡ front ++ last_of (c ∷ cs) ∷ [])
last_apart c [] = ([], refl)
last_apart c (d ∷ ds) = let r = last_apart d ds in (c ∷ r.0, ap (λ (xs : List ℕ). c ∷ xs) r.1 ∙ ap (λ (e : ℕ). c ∷ (r.0 ++ e ∷ [])) (sym (last_more c d ds)))

-- the last character of a text, where that is no blank
pub last_is_word : (d c : ℕ) (cs : List ℕ) → last_word d (c ∷ cs) ≡ later (last_word d (last_apart c cs).0) (last_of (c ∷ cs))
last_is_word d c cs = let r = last_apart c cs in ap (last_word d) r.1 ∙ fold-append later d r.0 (last_of (c ∷ cs) ∷ [])

word_ends : (v : List ℕ) → IsWord v → (d : ℕ) → is_end d ≡ false → is_end (last_word d v) ≡ false
word_ends [] w d e = e
word_ends (c ∷ cs) w d e =
    let l = last_of (c ∷ cs) in
    let off : is_blank l ≡ false = no_blank_is l w.ends in
    ap is_end (last_is_word d c cs) ∙ rw off (rw (ne_eqb l 92 w.no_join, plain_not l 13 (last_plain c cs w.plain) refl) refl)

text_spelled : (mark : ℕ) (v : List ℕ) (bare : Bool) → (bare ≡ true → IsWord v) → (bare ≡ true → Lacks mark v) → eqb 34 mark ≡ false → HasNoFeed v → IsText mark (spelled bare v)
text_spelled mark v true word lacks m h = record { fits = word_fits mark v (lacks refl) (word refl).plain; closed = word_open v (word refl).plain; ends = word_ends v (word refl) }
text_spelled mark v false word lacks m h = text_quoted mark v m h

starts_spelled : (v : List ℕ) (bare : Bool) → (bare ≡ true → IsWord v) → Starts (spelled bare v)
starts_spelled [] true word = record { first = λ d e. e }
starts_spelled (c ∷ cs) true word = let off : is_blank c ≡ false = no_blank_is c (word refl).begins in record { first = λ d e. rw off (plain_not c 91 (word refl).plain.0 refl) }
starts_spelled v false word = record { first = λ d e. refl }

-- ---- with blanks around, and several with commas between

module _ (s : Setting) (is : IsSetting s) (v : List ℕ) where
  pub text_free : (mark : ℕ) → eqb 34 mark ≡ false → is_blank mark ≡ false → (s.bare v ≡ true → Lacks mark v) → HasNoFeed v → IsText mark (spaced s v)
  text_free mark m b lacks h =
      text_append mark s.before (spelled (s.bare v) v ++ s.behind) (text_blanks mark s.before b is.before)
      (text_append mark (spelled (s.bare v) v) s.behind (text_spelled mark v (s.bare v) (is.bare v) lacks m h) (text_blanks mark s.behind b is.behind))

  pub text_spaced : (mark : ℕ) → eqb 34 mark ≡ false → is_blank mark ≡ false → needs_quotes mark ≡ true → HasNoFeed v → IsText mark (spaced s v)
  text_spaced mark m b q h = text_free mark m b (λ on. lacks_mark mark v q (is.bare v on).plain) h

  pub starts_spaced : Starts (spaced s v)
  starts_spaced = starts_append s.before (spelled (s.bare v) v ++ s.behind) (starts_blanks s.before is.before) (starts_append (spelled (s.bare v) v) s.behind (starts_spelled v (s.bare v) (is.bare v)) (starts_blanks s.behind is.behind))

module _ (settings : ℕ → Setting) (are : (n : ℕ) → IsSetting (settings n)) where
  pub text_values : (vs : List (List ℕ)) (n : ℕ) → AllByRecursion HasNoFeed vs → IsText 59 (spaced_values settings n vs)
  unfolding spaced_values
  text_values [] n h = text_blanks 59 [] refl tt
  text_values (v ∷ []) n h = text_spaced (settings n) (are n) v 59 refl refl refl h.0
  text_values (v ∷ w ∷ vs) n h =
      text_append 59 (spaced (settings n) v) (44 ∷ spaced_values settings (n + 1) (w ∷ vs)) (text_spaced (settings n) (are n) v 59 refl refl refl h.0)
      (text_append 59 (44 ∷ []) (spaced_values settings (n + 1) (w ∷ vs)) (text_one 59 44 refl refl refl refl) (text_values (w ∷ vs) (n + 1) h.1))

  pub starts_values : (vs : List (List ℕ)) (n : ℕ) → Starts (spaced_values settings n vs)
  unfolding spaced_values
  starts_values [] n = record { first = λ d e. e }
  starts_values (v ∷ []) n = starts_spaced (settings n) (are n) v
  starts_values (v ∷ w ∷ vs) n = starts_append (spaced (settings n) v) (44 ∷ spaced_values settings (n + 1) (w ∷ vs)) (starts_spaced (settings n) (are n) v) (record { first = λ d e. refl })

-- ---- what is ignored behind a header

ignored_not : (c d : ℕ) → list_any (eqb c) (10 ∷ 13 ∷ 34 ∷ 59 ∷ 92 ∷ []) ≡ false → list_any (eqb d) (10 ∷ 13 ∷ 34 ∷ 59 ∷ 92 ∷ []) ≡ true → eqb c d ≡ false
ignored_not c d h k = apart_by (λ (e : ℕ). list_any (eqb e) (10 ∷ 13 ∷ 34 ∷ 59 ∷ 92 ∷ [])) c d h k

pub text_ignored : (cs : List ℕ) → IsIgnored cs → IsText 59 cs
text_ignored [] h = text_blanks 59 [] refl tt
text_ignored (c ∷ cs) h =
    text_append 59 (c ∷ []) cs (text_one 59 c (ignored_not c 59 h.0 refl) (ignored_not c 34 h.0 refl) (ignored_not c 10 h.0 refl) (rw (ignored_not c 92 h.0 refl, ignored_not c 13 h.0 refl) refl)) (text_ignored cs h.1)

-- ---- a line with its breaks, its comment and its end is joined to its text

pub last_is : (front : List ℕ) (c : ℕ) → get_or (front ++ c ∷ []) (length (front ++ c ∷ []) - 1) 0 ≡ c
last_is front c = let e : length (front ++ c ∷ []) - 1 ≡ length front = omega (arith, length_push front c) in rw e (get_or-append_seam front c [] 0)

-- the last character of a text without the blanks at its end, if there is one
last_or : ℕ → List ℕ → ℕ
last_or d [] = d
last_or d (c ∷ cs) = last_of (c ∷ cs)

last_trimmed : (d : ℕ) (cs : List ℕ) → last_word d cs ≡ last_or d (trimmed_end cs)
unfolding trimmed_end last_or
last_trimmed d [] = refl
last_trimmed d (c ∷ cs) = last_trimmed (later d c) cs ∙ go (trimmed_end cs) where
  go : (t : List ℕ) → last_or (later d c) t ≡ last_or d (onto_rest c t)
  go [] = elim (cases_Bool (is_blank c)) [ inl on ↦ rw on refl | inr off ↦ rw off refl ]
  go (x ∷ xs) = sym (last_more c x xs)

last_at_zero : (t : List ℕ) → last_or 0 t ≡ last_of t
unfolding last_or
last_at_zero [] = refl
last_at_zero (x ∷ xs) = refl

pub goes_last : (cs : List ℕ) → last_of (trimmed_end cs) ≡ last_word 0 cs
goes_last cs = sym (last_trimmed 0 cs ∙ last_at_zero (trimmed_end cs))

no_return : (cs : List ℕ) → eqb (last_word 0 cs) 13 ≡ false → eqb (last_of cs) 13 ≡ false
no_return [] h = refl
no_return (c ∷ cs) h = elim (cases_Bool (eqb (last_of (c ∷ cs)) 13)) [
  | inl on ↦
      let k : eqb (last_word 0 (c ∷ cs)) 13 ≡ true = ap (λ (x : ℕ). eqb x 13) (last_is_word 0 c cs) ∙ ap (λ (x : ℕ). eqb (later (last_word 0 (last_apart c cs).0) x) 13) (eqb-true _ 13 on) in
      absurd (true≢false (sym k ∙ h))
  | inr off ↦ off
]

no_mark : (c : ℕ) → is_end c ≡ false → (eqb c 92 ≡ false) × (eqb c 13 ≡ false)
no_mark c h = elim (cases_Bool (eqb c 92)) [
  | inl on ↦ let k : true ≡ false = rw on at h in absurd (true≢false k)
  | inr off ↦ (off, rw off at h)
]

pub feeds-append : (xs ys : List ℕ) → HasNoFeed xs → HasNoFeed ys → HasNoFeed (xs ++ ys)
feeds-append [] ys h k = k
feeds-append (x ∷ xs) ys h k = (h.0, feeds-append xs ys h.1 k)

split_feed : (xs rest : List ℕ) → HasNoFeed xs → slice_split (λ b. eqb b 10) (xs ++ 10 ∷ rest) ≡ xs ∷ slice_split (λ b. eqb b 10) rest
split_feed [] rest h = slice_split-cons_yes (λ b. eqb b 10) 10 rest refl
split_feed (x ∷ xs) rest h = slice_split-cons_no (λ b. eqb b 10) x (xs ++ 10 ∷ rest) (ne_eqb x 10 h.0) ∙ rw (split_feed xs rest h.1) refl

-- ---- comments and ends of lines

pub strip_other : (cs : List ℕ) → eqb (last_of cs) 13 ≡ false → strip_carriage_return cs ≡ cs
strip_other cs off = rw off refl

strip_return : (cs : List ℕ) → strip_carriage_return (cs ++ 13 ∷ []) ≡ cs
strip_return cs =
    let on : eqb (last_of (cs ++ 13 ∷ [])) 13 ≡ true = ap (λ (c : ℕ). eqb c 13) (last_is cs 13) in
    let e : length (cs ++ 13 ∷ []) - 1 ≡ length cs = omega (arith, length_push cs 13) in
    rw on (rw e (take-append_seam cs (13 ∷ [])))

shorter : (cs more : List ℕ) (n : ℕ) → take (length cs + n) (cs ++ more) ≡ cs ++ take n more
shorter [] more n = let e : 0 + n ≡ n = omega arith in rw e refl
shorter (c ∷ cs) more n = let e : suc (length cs) + n ≡ suc (length cs + n) = omega arith in rw e (ap (λ (xs : List ℕ). c ∷ xs) (shorter cs more n))

strip_comment : (cs t : List ℕ) → (u : List ℕ) × (strip_carriage_return (cs ++ 59 ∷ t) ≡ cs ++ 59 ∷ u)
strip_comment cs [] = ([], strip_other (cs ++ 59 ∷ []) (ap (λ (c : ℕ). eqb c 13) (last_is cs 59)))
strip_comment cs (x ∷ t) = elim (cases_Bool (eqb (last_of (cs ++ 59 ∷ x ∷ t)) 13)) [
  | inl on ↦ let e : length (cs ++ 59 ∷ x ∷ t) - 1 ≡ length cs + suc (length t) = omega (arith, length-append cs (59 ∷ x ∷ t)) in (take (length t) (x ∷ t), rw on (rw e (shorter cs (59 ∷ x ∷ t) (suc (length t)))))
  | inr off ↦ (x ∷ t, strip_other (cs ++ 59 ∷ x ∷ t) off)
]

return_of : Bool → List ℕ
return_of true = 13 ∷ []
return_of false = []

-- the text of a line with what stands behind it, its end and more
end_more : (cs more : List ℕ) (b : Bool) (rest : List ℕ) → (cs ++ (more ++ line_end b)) ++ rest ≡ (cs ++ (more ++ return_of b)) ++ 10 ∷ rest
unfolding return_of
end_more cs more true rest = simp append_assoc
end_more cs more false rest = simp append_assoc

feeds-return : (b : Bool) → HasNoFeed (return_of b)
unfolding return_of
feeds-return true = (feed_no 13 refl, tt)
feeds-return false = tt

feeds-tail : (comment : Option (List ℕ)) (b : Bool) → CommentHasNoFeed comment → HasNoFeed (comment_of comment ++ return_of b)
feeds-tail None b h = feeds-return b
feeds-tail (Some t) b h = (feed_no 59 refl, feeds-append t (return_of b) h (feeds-return b))

-- the line that ends with the first line feed
pub whole_line : (whole rest : List ℕ) → HasNoFeed whole → lines (whole ++ 10 ∷ rest) ≡ strip_carriage_return whole ∷ lines rest
whole_line whole rest feeds = ap lines_of_parts (split_feed whole rest feeds) ∙ parts_more (λ b. eqb b 10) whole rest

module _ (inside : Bool) (cs : List ℕ) (words : Fits 59 inside cs) (plain_end : eqb (last_of cs) 13 ≡ false) where
  said_whole : said inside cs ≡ cs
  said_whole = rw (fits_all 59 inside cs words) (take-length cs)

  said_alone : (b : Bool) → said inside (strip_carriage_return (cs ++ ([] ++ return_of b))) ≡ cs
  unfolding return_of
  said_alone true = ap (said inside) (strip_return cs) ∙ said_whole
  said_alone false = ap (λ (xs : List ℕ). said inside (strip_carriage_return xs)) (append-nil cs) ∙ ap (said inside) (strip_other cs plain_end) ∙ said_whole

  said_comment : (u : List ℕ) → is_open inside cs ≡ false → said inside (cs ++ 59 ∷ u) ≡ cs
  unfolding front_len
  said_comment u closed = let e : front_len 59 inside (cs ++ 59 ∷ u) ≡ length cs = fits_len 59 inside cs (59 ∷ u) words ∙ rw closed (omega arith) in rw e (take-append_seam cs (59 ∷ u))

  said_ended : (comment : Option (List ℕ)) (b : Bool) → is_open inside cs ≡ false → said inside (strip_carriage_return (cs ++ (comment_of comment ++ return_of b))) ≡ cs
  said_ended None b closed = said_alone b
  said_ended (Some t) b closed = let r = strip_comment cs (t ++ return_of b) in ap (said inside) r.1 ∙ said_comment r.0 closed

  said_tail : (now : Bool) (comment : Option (List ℕ)) (b : Bool) → is_open inside cs ≡ now → said inside (strip_carriage_return (cs ++ ((if now then [] else comment_of comment) ++ return_of b))) ≡ cs
  said_tail true comment b is = said_alone b
  said_tail false comment b is = said_ended comment b is

-- ---- lines that backslashes break

-- the rest of a line, behind quotes that are open or not: it has no comment, and ends outside quotes with no backslash and no return
pub record IsRest (inside : Bool) (cs : List ℕ) : Type 0 where
  pub fits : Fits 59 inside cs
  pub closed : is_open inside cs ≡ false
  pub ends : is_end (last_word 0 cs) ≡ false

pub rest_of : (cs : List ℕ) → IsText 59 cs → IsRest false cs
rest_of cs t = record { fits = t.fits; closed = t.closed; ends = t.ends 0 refl }

-- where a text ends well, so does what it ends with
ends_behind : (d : ℕ) (ys : List ℕ) → is_end (last_word d ys) ≡ false → is_end (last_word 0 ys) ≡ false
ends_behind d [] h = refl
ends_behind d (y ∷ ys) h = elim (cases_Bool (is_blank y)) [
  | inl on ↦ let k : is_end (last_word d ys) ≡ false = rw on at h in rw on (ends_behind d ys k)
  | inr off ↦ let k : is_end (last_word y ys) ≡ false = rw off at h in rw off k
]

rest_behind : (inside : Bool) (xs ys : List ℕ) → IsRest inside (xs ++ ys) → IsRest (is_open inside xs) ys
rest_behind inside xs ys r = record {
  fits = fits_behind 59 inside xs ys r.fits;
  closed = sym (fold-append turned inside xs ys) ∙ r.closed;
  ends = ends_behind (last_word 0 xs) ys (ap is_end (sym (fold-append later 0 xs ys)) ∙ r.ends);
}

onto_some : (x : ℕ) (xs : List ℕ) (c : ℕ) (cs : List ℕ) → onto_rest x (xs ++ c ∷ cs) ≡ x ∷ (xs ++ c ∷ cs)
onto_some x [] c cs = refl
onto_some x (y ∷ ys) c cs = refl

onto_mark : (c : ℕ) (ys : List ℕ) → is_blank c ≡ false → onto_rest c ys ≡ c ∷ ys
onto_mark c [] h = rw h refl
onto_mark c (y ∷ ys) h = refl

blanks_end : (bs : List ℕ) → AreBlanks bs → trimmed_end bs ≡ []
unfolding trimmed_end
blanks_end [] h = refl
blanks_end (b ∷ bs) h = ap (onto_rest b) (blanks_end bs h.1) ∙ rw (blank b h.0) refl

-- blanks behind the last character go
pub end_blanks : (xs : List ℕ) (c : ℕ) (bs : List ℕ) → is_blank c ≡ false → AreBlanks bs → trimmed_end (xs ++ c ∷ bs) ≡ xs ++ c ∷ []
unfolding trimmed_end
end_blanks [] c bs h are = ap (onto_rest c) (blanks_end bs are) ∙ onto_mark c [] h
end_blanks (x ∷ xs) c bs h are = ap (onto_rest x) (end_blanks xs c bs h are) ∙ onto_some x xs c []

-- what stands in front of a backslash, the backslash and blanks
module _ (inside : Bool) (xs blanks : List ℕ) (are : AreBlanks blanks) where
  slash_fits : Fits 59 inside xs → Fits 59 inside (xs ++ 92 ∷ blanks)
  slash_fits h = let now = is_open inside xs in fits_append 59 inside xs (92 ∷ blanks) h (and_right (not now) false refl, feed_no 92 refl, blanks_fit 59 now blanks refl are)

  slash_open : is_open inside (xs ++ 92 ∷ blanks) ≡ is_open inside xs
  slash_open = fold-append turned inside xs (92 ∷ blanks) ∙ blanks_open (is_open inside xs) blanks are

  slash_last : last_word 0 (xs ++ 92 ∷ blanks) ≡ 92
  slash_last = fold-append later 0 xs (92 ∷ blanks) ∙ blanks_last 92 blanks are

  slash_return : eqb (last_of (xs ++ 92 ∷ blanks)) 13 ≡ false
  slash_return = no_return (xs ++ 92 ∷ blanks) (ap (λ (c : ℕ). eqb c 13) slash_last)

  slash_joins : goes_on (xs ++ 92 ∷ blanks) ≡ true
  slash_joins = ap (λ (c : ℕ). eqb c 92) (goes_last (xs ++ 92 ∷ blanks) ∙ slash_last)

  slash_kept : kept (xs ++ 92 ∷ blanks) ≡ xs
  slash_kept =
      let e : length (xs ++ 92 ∷ []) - 1 ≡ length xs = omega (arith, length_push xs 92) in
      rw slash_joins (rw (end_blanks xs 92 blanks refl are) (rw e (take-append_seam xs (92 ∷ []))))

part_more : (xs blanks more end part behind rest : List ℕ) → ((xs ++ 92 ∷ ((blanks ++ (more ++ end)) ++ part)) ++ behind) ++ rest ≡ ((xs ++ 92 ∷ blanks) ++ (more ++ end)) ++ ((part ++ behind) ++ rest)
part_more xs blanks more end part behind rest = simp append_assoc

feeds_tail : (now : Bool) (comment : Option (List ℕ)) (b : Bool) → CommentHasNoFeed comment → HasNoFeed ((if now then [] else comment_of comment) ++ return_of b)
feeds_tail true comment b h = feeds-return b
feeds_tail false comment b h = feeds-tail comment b h

-- a line that goes on behind its first backslash
on_step : (inside : Bool) (first n : ℕ) (front xs more : List ℕ) (t : Tail) → IsTail t → is_open false front ≡ inside → Fits 59 inside xs
    → joined first n front (lines (((xs ++ 92 ∷ t.blanks) ++ ((if is_open inside xs then [] else comment_of t.comment) ++ line_end t.with_return)) ++ more)) ≡ joined first (n + 1) (front ++ xs) (lines more)
on_step inside first n front xs more t is at words =
    let cs = xs ++ 92 ∷ t.blanks in
    let comment = if is_open inside xs then [] else comment_of t.comment in
    let whole = cs ++ (comment ++ return_of t.with_return) in
    let whole_feeds = feeds-append cs (comment ++ return_of t.with_return) (fits_feeds 59 inside cs (slash_fits inside xs t.blanks is.blanks words)) (feeds_tail (is_open inside xs) t.comment t.with_return is.comment) in
    let line : lines ((cs ++ (comment ++ line_end t.with_return)) ++ more) ≡ strip_carriage_return whole ∷ lines more = ap lines (end_more cs comment t.with_return more) ∙ whole_line whole more whole_feeds in
    let says : said (is_open false front) (strip_carriage_return whole) ≡ cs =
    ap (λ (b : Bool). said b (strip_carriage_return whole)) at
    ∙ said_tail inside cs (slash_fits inside xs t.blanks is.blanks words) (slash_return inside xs t.blanks is.blanks) (is_open inside xs) t.comment t.with_return (slash_open inside xs t.blanks is.blanks) in
    joined_on first n front ((cs ++ (comment ++ line_end t.with_return)) ++ more) (strip_carriage_return whole) more line (ap goes_on says ∙ slash_joins inside xs t.blanks is.blanks)
    ∙ ap (λ (ks : List ℕ). joined first (n + 1) (front ++ ks) (lines more)) (ap kept says ∙ slash_kept inside xs t.blanks is.blanks)

module _ (comment : Option (List ℕ)) (b : Bool) (is : CommentHasNoFeed comment) where
  last_read : (inside : Bool) (first n : ℕ) (front text rest : List ℕ) → is_open false front ≡ inside → IsRest inside text
      → joined first n front (lines ((text ++ (comment_of comment ++ line_end b)) ++ rest)) ≡ record { number = first; text = front ++ text } ∷ joined (n + 1) (n + 1) [] (lines rest)
  last_read inside first n front text rest at r =
      let whole = text ++ (comment_of comment ++ return_of b) in
      let line : lines ((text ++ (comment_of comment ++ line_end b)) ++ rest) ≡ strip_carriage_return whole ∷ lines rest =
      ap lines (end_more text (comment_of comment) b rest) ∙ whole_line whole rest (feeds-append text (comment_of comment ++ return_of b) (fits_feeds 59 inside text r.fits) (feeds-tail comment b is)) in
      let says : said (is_open false front) (strip_carriage_return whole) ≡ text =
      ap (λ (o : Bool). said o (strip_carriage_return whole)) at ∙ said_ended inside text r.fits (no_return text (no_mark (last_word 0 text) r.ends).1) comment b r.closed in
      let stays : goes_on text ≡ false = ap (λ (c : ℕ). eqb c 92) (goes_last text) ∙ (no_mark (last_word 0 text) r.ends).0 in
      joined_off first n front ((text ++ (comment_of comment ++ line_end b)) ++ rest) (strip_carriage_return whole) rest line (ap goes_on says ∙ stays)
      ∙ ap (λ (xs : List ℕ). record { number = first; text = front ++ xs } ∷ joined (n + 1) (n + 1) [] (lines rest)) (ap kept says ∙ rw stays refl)

  pub broken_read : (breaks : List Break) (inside : Bool) (first n : ℕ) (front text rest : List ℕ) → AllByRecursion (λ k. IsTail k.tail) breaks → is_open false front ≡ inside → IsRest inside text
      → joined first n front (lines ((broken inside breaks text ++ (comment_of comment ++ line_end b)) ++ rest)) ≡ record { number = first; text = front ++ text } ∷ joined (n + length breaks + 1) (n + length breaks + 1) [] (lines rest)
  unfolding broken
  broken_read [] inside first n front text rest h at r =
      let e : n + 1 ≡ n + 0 + 1 = omega arith in
      last_read inside first n front text rest at r ∙ ap (λ (m : ℕ). record { number = first; text = front ++ text } ∷ joined m m [] (lines rest)) e
  broken_read (k ∷ ks) inside first n front text rest h at r =
      let xs = take k.behind text in
      let ys = drop k.behind text in
      let now = is_open inside xs in
      let whole : xs ++ ys ≡ text = take-append-drop k.behind text in
      let r : IsRest inside (xs ++ ys) = subst (λ (cs : List ℕ). IsRest inside cs) (sym whole) r in
      let end = comment_of comment ++ line_end b in
      let more = (broken now ks ys ++ end) ++ rest in
      let e : n + 1 + length ks + 1 ≡ n + suc (length ks) + 1 = omega arith in
      ap (λ (cs : List ℕ). joined first n front (lines cs)) (part_more xs k.tail.blanks (if now then [] else comment_of k.tail.comment) (line_end k.tail.with_return) (broken now ks ys) end rest)
      ∙ on_step inside first n front xs more k.tail h.0 at (fits_front 59 inside xs ys r.fits)
      ∙ broken_read ks now first (n + 1) (front ++ xs) ys rest h.1 (fold-append turned false front xs ∙ ap (λ (o : Bool). is_open o xs) at) (rest_behind inside xs ys r)
      ∙ ap (λ (cs : List ℕ). record { number = first; text = cs } ∷ joined (n + 1 + length ks + 1) (n + 1 + length ks + 1) [] (lines rest)) (append_assoc front xs ys ∙ ap (λ (cs : List ℕ). front ++ cs) whole)
      ∙ ap (λ (m : ℕ). record { number = first; text = front ++ text } ∷ joined m m [] (lines rest)) e
