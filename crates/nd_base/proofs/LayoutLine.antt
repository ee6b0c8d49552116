-- What is read of one line is what it says.
use Rattle.std.proofs.Common.{◌≡◌, ◌≢◌, ℕ, ◌+◌, ◌-◌, ◌^◌, ◌<◌, ◌≤◌, Bool, true, false, cond, leb, eqb, List, [], ◌∷◌, min, get_or, Option, Some, None, refl, sym, ap, subst, ◌∙◌, inl, inr, arith}
use Rattle.std.specs.Prelude.{codes}
use Rattle.std.specs.Str.{bytes_eq}
use Rattle.std.proofs.lemmas.Bool.{cases_Bool, eqb-true, leb-true, le-leb, agree_below, agree_below_at}
use Rattle.std.proofs.lemmas.Slice.Eq.{bytes_eq-Decides}
use Rattle.nd_base.specs.declared.layout_field.Object.{Object}
use Rattle.nd_base.specs.declared.layout_field.Object.TheVariants.{Packet, OutOfBand, Buffer, Block}
use Rattle.nd_base.specs.declared.layout_text.Content.{Content}
use Rattle.nd_base.specs.declared.layout_text.Content.TheVariants.{Skipped, Bad, Unknown, Offset}
use Rattle.nd_base.specs.Layout.{limit, row, rows}
use Rattle.nd_base.specs.LayoutText.{first_from, place_of, placed, stated, words_content, line_content}
use Rattle.nd_base.specs.LayoutFile.{Says, States, NamesNoField, IsBad}
use Rattle.nd_base.specs.Words.{words, IsComment, SaysNothing, decimal_value, decimal_of, saturated}
use Rattle.nd_base.proofs.Decimals.{decimal_found, is_decimal}
use Rattle.nd_base.proofs.FirstFrom.{first_found, first_none}

-- ---- names

same_bytes : (xs ys : List ℕ) → bytes_eq xs ys ≡ true → xs ≡ ys
same_bytes xs ys h = (bytes_eq-Decides xs ys).0 h

other_bytes : (xs ys : List ℕ) → bytes_eq xs ys ≡ false → xs ≡ ys → ⊥
other_bytes xs ys h e = let k = (bytes_eq-Decides xs ys).1 e in absurd cc

named : (name : List ℕ) (i : ℕ) → place_of name ≡ Some i → (i < 31) × (name ≡ (row i).name)
unfolding place_of
named name i h = let p = first_found (λ k. bytes_eq (row k).name name) 0 31 i h in (omega arith, sym (same_bytes (row i).name name p.2))

unnamed : (name : List ℕ) → place_of name ≡ None → (i : ℕ) → i < 31 → name ≢ (row i).name
unfolding place_of
unnamed name h i lt = λ e. other_bytes (row i).name name (first_none (λ k. bytes_eq (row k).name name) 0 31 h i (omega arith) (omega arith)) (sym e)

is_place : Option ℕ → ℕ → Bool
is_place None i = false
is_place (Some k) i = eqb k i

is_place_true : (o : Option ℕ) (i : ℕ) → is_place o i ≡ true → o ≡ Some i
unfolding is_place
is_place_true None i h = absurd cc
is_place_true (Some k) i h = ap (λ (m : ℕ). Some m) (eqb-true k i h)

-- no two fields have one name
all_names : agree_below (λ i. is_place (place_of (row i).name) i) (λ i. true) 31 ≡ true
unfolding place_of first_from row rows is_place
all_names = refl

name_at : (i : ℕ) → i < 31 → place_of (row i).name ≡ Some i
name_at i lt = is_place_true (place_of (row i).name) i (agree_below_at (λ k. is_place (place_of (row k).name) k) (λ k. true) 31 i all_names lt)

no_name : (name : List ℕ) (o : Option ℕ) → place_of name ≡ o → ((i : ℕ) → i < 31 → name ≢ (row i).name) → o ≡ None
no_name name None e h = refl
no_name name (Some i) e h = let p = named name i e in absurd (h i p.0 p.1)

-- ---- what a line says

comment_yes : (line : List ℕ) → eqb (get_or line 0 0) 35 ≡ true → IsComment line
comment_yes [] h = absurd cc
comment_yes (c ∷ cs) h = (cs, ap (λ (b : ℕ). b ∷ cs) (eqb-true c 35 h))

comment_no : (line : List ℕ) → eqb (get_or line 0 0) 35 ≡ false → IsComment line → ⊥
comment_no line h (text, is) = let k : true ≡ false = rw is at h in absurd cc

content_words : (line : List ℕ) → (IsComment line → ⊥) → line_content line ≡ words_content (words line)
unfolding line_content
content_words line plain = elim (cases_Bool (eqb (get_or line 0 0) 35)) [
  | inl on ↦ absurd (plain (comment_yes line on))
  | inr off ↦ ap (λ (b : Bool). cond b Skipped (words_content (words line))) off
]

content_comment : (line : List ℕ) → IsComment line → line_content line ≡ Skipped
unfolding line_content
content_comment line (text, is) = ap (λ (b : Bool). cond b Skipped (words_content (words line))) (ap (λ (s : List ℕ). eqb (get_or s 0 0) 35) is)

content_says : (line name number : List ℕ) → Says line name number → line_content line ≡ placed (place_of name) (min (decimal_value number) (2 ^ 64 - 1))
content_says line name number h = content_words line h.no_comment ∙ ap words_content h.words_are ∙ ap (stated name) (decimal_found number h.decimal)

limit_small : (o : Object) → limit o ≤ 4096
limit_small Packet = omega arith
limit_small OutOfBand = omega arith
limit_small Buffer = omega arith
limit_small Block = omega arith

pub content_states : (line : List ℕ) (i n : ℕ) → States line i n → line_content line ≡ Offset i n
content_states line i n (lt, (number, says, is), inside) =
    let most = limit_small (row i).object in
    let same : min (decimal_value number) (2 ^ 64 - 1) ≡ n = omega (arith, is, inside, most) in
    content_says line (row i).name number says ∙ ap (λ (o : Option ℕ). placed o (min (decimal_value number) (2 ^ 64 - 1))) (name_at i lt) ∙ ap (placed (Some i)) same
    ∙ ap (λ (b : Bool). cond b (Offset i n) Bad) (le-leb (n + (row i).width) (limit (row i).object) inside)

pub content_nothing : (line : List ℕ) → SaysNothing line → line_content line ≡ Skipped
content_nothing line (inl comment) = content_comment line comment
content_nothing line (inr blank) = elim (cases_Bool (eqb (get_or line 0 0) 35)) [
  | inl on ↦ content_comment line (comment_yes line on)
  | inr off ↦ content_words line (comment_no line off) ∙ ap words_content blank
]

pub content_unknown : (line : List ℕ) → NamesNoField line → line_content line ≡ Unknown
content_unknown line (name, number, says, none) =
    content_says line name number says ∙ ap (λ (o : Option ℕ). placed o (min (decimal_value number) (2 ^ 64 - 1))) (no_name name (place_of name) refl none)

-- ---- from what is read to what the line says

abbrev pub Holds : List ℕ → Content → Type 0
Holds line Skipped = SaysNothing line
Holds line Bad = IsBad line
Holds line Unknown = NamesNoField line
Holds line (Offset i n) = States line i n

bad_line : (line : List ℕ) → line_content line ≡ Bad → IsBad line
bad_line line h = record {
  not_nothing = λ nothing. let e = content_nothing line nothing in absurd cc;
  no_offset = λ i n states. let e = content_states line i n states in absurd cc;
  no_unknown = λ unknown. let e = content_unknown line unknown in absurd cc;
}

holds_bad : (line : List ℕ) (c : Content) → line_content line ≡ c → c ≡ Bad → Holds line c
holds_bad line c is bad = subst (Holds line) (sym bad) (bad_line line (is ∙ bad))

placed_holds : (line name number : List ℕ) (o : Option ℕ) (v : ℕ) → line_content line ≡ placed o v → Says line name number → v ≡ min (decimal_value number) (2 ^ 64 - 1) → place_of name ≡ o → Holds line (placed o v)
placed_holds line name number None v is says at name_is = (name, number, says, unnamed name name_is)
placed_holds line name number (Some i) v is says at name_is = elim (cases_Bool (leb (v + (row i).width) (limit (row i).object))) [
  | inl on ↦
      let p = named name i name_is in
      let inside = leb-true (v + (row i).width) (limit (row i).object) on in
      let most = limit_small (row i).object in
      let same : v ≡ decimal_value number = omega (arith, at, inside, most) in
      let e : placed (Some i) v ≡ Offset i v = ap (λ (b : Bool). cond b (Offset i v) Bad) on in
      subst (Holds line) (sym e) (p.0, (number, subst (λ (s : List ℕ). Says line s number) p.1 says, same), inside)
  | inr off ↦
      let e : placed (Some i) v ≡ Bad = ap (λ (b : Bool). cond b (Offset i v) Bad) off in
      holds_bad line (placed (Some i) v) is e
]

stated_holds : (line name number : List ℕ) (o : Option ℕ) → line_content line ≡ stated name o → (IsComment line → ⊥) → words line ≡ name ∷ codes "=" ∷ number ∷ [] → saturated (decimal_of number) ≡ o → Holds line (stated name o)
stated_holds line name number None is plain ws at = bad_line line is
stated_holds line name number (Some v) is plain ws at =
    let d = is_decimal number v at in
    let e = decimal_found number d in
    let same : v ≡ min (decimal_value number) (2 ^ 64 - 1) = cc in
    placed_holds line name number (place_of name) v is (record { no_comment = plain; words_are = ws; decimal = d }) same refl

three_hold : (line name equals number : List ℕ) (b : Bool) → bytes_eq equals (codes "=") ≡ b → line_content line ≡ cond b (stated name (saturated (decimal_of number))) Bad → (IsComment line → ⊥) → words line ≡ name ∷ equals ∷ number ∷ [] → Holds line (cond b (stated name (saturated (decimal_of number))) Bad)
three_hold line name equals number true e is plain ws = stated_holds line name number (saturated (decimal_of number)) is plain (subst (λ (s : List ℕ). words line ≡ name ∷ s ∷ number ∷ []) (same_bytes equals (codes "=") e) ws) refl
three_hold line name equals number false e is plain ws = bad_line line is

words_hold : (line : List ℕ) (ws : List (List ℕ)) → line_content line ≡ words_content ws → (IsComment line → ⊥) → words line ≡ ws → Holds line (words_content ws)
words_hold line [] is plain e = inr e
words_hold line (a ∷ []) is plain e = bad_line line is
words_hold line (a ∷ b ∷ []) is plain e = bad_line line is
words_hold line (name ∷ equals ∷ number ∷ []) is plain e = three_hold line name equals number (bytes_eq equals (codes "=")) refl is plain e
words_hold line (a ∷ b ∷ c ∷ d ∷ ws) is plain e = bad_line line is

pub holds : (line : List ℕ) → Holds line (line_content line)
holds line = elim (cases_Bool (eqb (get_or line 0 0) 35)) [
  | inl on ↦ let comment = comment_yes line on in subst (Holds line) (sym (content_comment line comment)) (inl comment)
  | inr off ↦
      let plain = comment_no line off in
      let is = content_words line plain in
      subst (Holds line) (sym is) (words_hold line (words line) is plain refl)
]

pub content_bad : (line : List ℕ) (c : Content) → line_content line ≡ c → Holds line c → IsBad line → c ≡ Bad
content_bad line Skipped is h bad = absurd (bad.not_nothing h)
content_bad line Bad is h bad = refl
content_bad line Unknown is h bad = absurd (bad.no_unknown h)
content_bad line (Offset i n) is h bad = absurd (bad.no_offset i n h)
