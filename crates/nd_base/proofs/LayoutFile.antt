-- The reading of a layout file is what the grammar says.
use Rattle.std.proofs.Common.{◌≡◌, ℕ, ◌<◌, ◌≤◌, Bool, true, false, not, cond, ltb, List, length, get_or, Option, Some, None, Result, Ok, Err, refl, sym, ap, subst, ◌∙◌, inl, inr, ◌⊎◌, arith}
use Rattle.std.specs.List.{position, position_or_len}
use Rattle.std.specs.Str.Lines.{lines}
use Rattle.std.proofs.lemmas.Bool.{cases_Bool, cases_lt, cases_order, le-ltb, lt-ltb, not-true, not-false, ltb-false}
use Rattle.std.proofs.lemmas.List.{ext_get_or}
use Rattle.std.proofs.lemmas.List.Quantifiers.{position-Some}
use Rattle.std.proofs.lemmas.List.Sums.{fails_before_first}
use Rattle.nd_base.specs.declared.layout_field.Field.{Field}
use Rattle.nd_base.specs.declared.layout.LayoutRefusal.{LayoutRefusal}
use Rattle.nd_base.specs.declared.layout.LayoutRefusal.TheVariants.{TooLong, Line, UnknownName, Repeated, Missing, Overlap}
use Rattle.nd_base.specs.declared.layout.Offsets.{Offsets}
use Rattle.nd_base.specs.Layout.{row}
use Rattle.nd_base.specs.LayoutFile.{IsStated, AreGood, LinesState, AreApart, IsLayout, IsFirstPair, IsMissing, AreRefused, IsRefused}
use Rattle.nd_base.specs.Results.{◌>>=◌}
use Rattle.nd_base.specs.LayoutReading.{behind_lines, nothing, accepted, complete, reading}
use Rattle.nd_base.proofs.LayoutFronts.{Knows, Outcome, walked, all_good, line_again}
use Rattle.nd_base.proofs.LayoutPairs.{NoPair, FoundPair, overlaps, one_pair, no_pair}

-- ---- all lines are good

none_passes : (p : Bool → Bool) (xs : List Bool) → position p xs ≡ None → (k : ℕ) → k < length xs → p (get_or xs k false) ≡ false
none_passes p xs h k lt = elim (cases_Bool (ltb (position_or_len p xs) (length xs))) [
  | inl on ↦ let e : Some (position_or_len p xs) ≡ None = rw on at h in absurd cc
  | inr off ↦ let le = ltb-false (position_or_len p xs) (length xs) off in fails_before_first p xs k false (omega arith)
]

record Gap (ls : List (List ℕ)) (known : Offsets) : Type 0 where
  place : ℕ
  missing : IsMissing ls place
  found : position not known.given ≡ Some place

record NoGap (ls : List (List ℕ)) (known : Offsets) : Type 0 where
  state : LinesState ls known.offsets
  none : position not known.given ≡ None

by_place : (ls : List (List ℕ)) (known : Offsets) (x : Option ℕ) → Knows ls (length ls) known → position not known.given ≡ x → NoGap ls known ⊎ Gap ls known
by_place ls known None kn h =
    let given : (i : ℕ) → i < 31 → get_or known.given i false ≡ true = λ i lt. not-false (get_or known.given i false) (none_passes not known.given h i (omega (arith, kn.given_len))) in
    inl (record { state = record { good = kn.good; fields = kn.offsets_len; stated = λ i lt. kn.stated i lt (given i lt) }; none = h })
by_place ls known (Some i) kn h =
    let p = position-Some not known.given i false h in
    let small : i < 31 = omega (arith, p.0, kn.given_len) in
    let off = not-true (get_or known.given i false) p.1 in
    let first : (j : ℕ) → j < i → (n : ℕ) × IsStated ls (length ls) j n = λ j lt. (get_or known.offsets j 0, kn.stated j (omega arith) (not-false (get_or known.given j false) (p.2 j lt))) in
    let missing : (n : ℕ) → IsStated ls (length ls) i n → ⊥ = λ n s. let on = (kn.known_all i n s).0 in let e : true ≡ false = sym on ∙ off in absurd cc in
    inr (record { place = i; missing = record { good = kn.good; small = small; missing = missing; first = first }; found = h })

gaps : (ls : List (List ℕ)) (known : Offsets) → Knows ls (length ls) known → NoGap ls known ⊎ Gap ls known
gaps ls known kn = by_place ls known (position not known.given) kn refl

one_missing : (ls : List (List ℕ)) (i j : ℕ) → IsMissing ls i → IsMissing ls j → i ≡ j
one_missing ls i j p q = elim (cases_order i j) [
  | inl same ↦ same
  | inr (inl less) ↦ let s = q.first i less in absurd (p.missing s.0 s.1)
  | inr (inr more) ↦ let s = p.first j more in absurd (q.missing s.0 s.1)
]

none_missing : (ls : List (List ℕ)) (o : List ℕ) (i : ℕ) → LinesState ls o → IsMissing ls i → ⊥
none_missing ls o i st m = m.missing (get_or o i 0) (st.stated i m.small)

same_offsets : (ls : List (List ℕ)) (known : Offsets) (o : List ℕ) → Knows ls (length ls) known → LinesState ls o → known.offsets ≡ o
same_offsets ls known o kn st = ext_get_or 0 known.offsets o (kn.offsets_len ∙ sym st.fields) (λ i lt. (kn.known_all i (get_or o i 0) (st.stated i (omega (arith, kn.offsets_len)))).1)

abbrev IsRead : List (List ℕ) → Result (List ℕ) LayoutRefusal → Type 0
IsRead ls (Ok o) = LinesState ls o × AreApart o
IsRead ls (Err e) = AreRefused ls e

abbrev last : Offsets → Result (List ℕ) LayoutRefusal
last known = complete known (position not known.given)

last_gap : (ls : List (List ℕ)) (known : Offsets) (g : Gap ls known) → last known ≡ Err (Missing (row g.place).field)
last_gap ls known g = ap (complete known) g.found

last_pair : (ls : List (List ℕ)) (known : Offsets) (n : NoGap ls known) (p : FoundPair known.offsets) → last known ≡ Err (Overlap (row p.first).field (row p.second).field)
last_pair ls known n p = ap (complete known) n.none ∙ ap (accepted known.offsets) p.found

last_good : (ls : List (List ℕ)) (known : Offsets) (n : NoGap ls known) (p : NoPair known.offsets) → last known ≡ Ok known.offsets
last_good ls known n p = ap (complete known) n.none ∙ ap (accepted known.offsets) p.none

last_is_read : (ls : List (List ℕ)) (known : Offsets) → Knows ls (length ls) known → IsRead ls (last known)
last_is_read ls known kn = elim (gaps ls known kn) [
  | inl n ↦ elim (overlaps known.offsets) [
    | inl p ↦ subst (IsRead ls) (sym (last_good ls known n p)) (n.state, p.apart)
    | inr p ↦ subst (IsRead ls) (sym (last_pair ls known n p)) (known.offsets, p.first, p.second, refl, refl, n.state, p.is_first)
  ]
  | inr g ↦ subst (IsRead ls) (sym (last_gap ls known g)) (g.place, refl, g.missing)
]

last_of_state : (ls : List (List ℕ)) (known : Offsets) (o : List ℕ) → Knows ls (length ls) known → LinesState ls o → AreApart o → last known ≡ Ok o
last_of_state ls known o kn st apart = elim (gaps ls known kn) [
  | inl n ↦
      let same = same_offsets ls known o kn st in
      elim (overlaps known.offsets) [
        | inl p ↦ last_good ls known n p ∙ ap (λ (x : List ℕ). Ok x) same
        | inr p ↦ absurd (no_pair o p.first p.second apart (subst (λ (x : List ℕ). IsFirstPair x p.first p.second) same p.is_first))
      ]
  | inr g ↦ absurd (none_missing ls o g.place st g.missing)
]

last_of_missing : (ls : List (List ℕ)) (known : Offsets) (i : ℕ) → Knows ls (length ls) known → IsMissing ls i → last known ≡ Err (Missing (row i).field)
last_of_missing ls known i kn m = elim (gaps ls known kn) [
  | inl n ↦ absurd (none_missing ls known.offsets i n.state m)
  | inr g ↦ last_gap ls known g ∙ ap (λ (x : ℕ). Err (Missing (row x).field)) (one_missing ls g.place i g.missing m)
]

last_of_pair : (ls : List (List ℕ)) (known : Offsets) (o : List ℕ) (i j : ℕ) → Knows ls (length ls) known → LinesState ls o → IsFirstPair o i j → last known ≡ Err (Overlap (row i).field (row j).field)
last_of_pair ls known o i j kn st pair = elim (gaps ls known kn) [
  | inl n ↦
      let same = same_offsets ls known o kn st in
      let here = subst (λ (x : List ℕ). IsFirstPair x i j) (sym same) pair in
      elim (overlaps known.offsets) [
        | inl p ↦ absurd (no_pair known.offsets i j p.apart here)
        | inr p ↦
            let q = one_pair known.offsets p.first p.second i j p.is_first here in
            last_pair ls known n p ∙ ap (λ (x : ℕ). Err (Overlap (row x).field (row p.second).field)) q.0 ∙ ap (λ (x : ℕ). Err (Overlap (row i).field (row x).field)) q.1
      ]
  | inr g ↦ absurd (none_missing ls o g.place st g.missing)
]

-- ---- the text

abbrev read_lines : List (List ℕ) → Result (List ℕ) LayoutRefusal
read_lines ls = behind_lines 1 nothing ls >>= (λ found. complete found (position not found.given))

by_outcome : (ls : List (List ℕ)) (r : Result Offsets LayoutRefusal) → Outcome ls r → IsRead ls (r >>= (λ found. complete found (position not found.given)))
by_outcome ls (Ok known) kn = last_is_read ls known kn
by_outcome ls (Err e) h = h

lines_are_read : (ls : List (List ℕ)) → IsRead ls (read_lines ls)
lines_are_read ls = by_outcome ls (behind_lines 1 nothing ls) (walked ls)

last_again : (ls : List (List ℕ)) (r : Result (List ℕ) LayoutRefusal) → AreGood ls (length ls) → ((known : Offsets) → Knows ls (length ls) known → last known ≡ r) → read_lines ls ≡ r
last_again ls r good h = let a = all_good ls good in ap (λ (x : Result Offsets LayoutRefusal). x >>= (λ found. complete found (position not found.given))) a.2 ∙ h a.0 a.1

fault_again : (ls : List (List ℕ)) (e : LayoutRefusal) → behind_lines 1 nothing ls ≡ Err e → read_lines ls ≡ Err e
fault_again ls e h = ap (λ (x : Result Offsets LayoutRefusal). x >>= (λ found. complete found (position not found.given))) h

lines_again : (ls : List (List ℕ)) (r : Result (List ℕ) LayoutRefusal) → IsRead ls r → read_lines ls ≡ r
lines_again ls (Ok o) (st, apart) = last_again ls (Ok o) st.good (λ known kn. last_of_state ls known o kn st apart)
lines_again ls (Err TooLong) h = absurd h
lines_again ls (Err (Line number)) h = fault_again ls (Line number) (line_again ls (Line number) tt h)
lines_again ls (Err (UnknownName number)) h = fault_again ls (UnknownName number) (line_again ls (UnknownName number) tt h)
lines_again ls (Err (Repeated number)) h = fault_again ls (Repeated number) (line_again ls (Repeated number) tt h)
lines_again ls (Err (Missing field)) (i, is, m) = last_again ls (Err (Missing field)) m.good (λ known kn. last_of_missing ls known i kn m ∙ ap (λ (f : Field). Err (Missing f)) (sym is))
lines_again ls (Err (Overlap first second)) (o, i, j, is, also, st, pair) =
    last_again ls (Err (Overlap first second)) st.good (λ known kn. last_of_pair ls known o i j kn st pair ∙ rw (is, also) refl)

-- what a text is read as
abbrev IsReading : List ℕ → Result (List ℕ) LayoutRefusal → Type 0
IsReading text (Ok o) = IsLayout text o
IsReading text (Err e) = IsRefused text e

of_lines : (text : List ℕ) (r : Result (List ℕ) LayoutRefusal) → length text ≤ 65536 → IsRead (lines text) r → IsReading text r
of_lines text (Ok o) le h = (le, h.0, h.1)
of_lines text (Err TooLong) le h = absurd h
of_lines text (Err (Line number)) le h = (le, h)
of_lines text (Err (UnknownName number)) le h = (le, h)
of_lines text (Err (Repeated number)) le h = (le, h)
of_lines text (Err (Missing field)) le h = (le, h)
of_lines text (Err (Overlap first second)) le h = (le, h)

reading_long : (text : List ℕ) → 65536 < length text → reading text ≡ Err TooLong
unfolding reading
reading_long text lt = ap (λ (b : Bool). cond b (Err TooLong) (read_lines (lines text))) (lt-ltb 65536 (length text) lt)

reading_short : (text : List ℕ) → length text ≤ 65536 → reading text ≡ read_lines (lines text)
unfolding reading
reading_short text le = ap (λ (b : Bool). cond b (Err TooLong) (read_lines (lines text))) (le-ltb 65536 (length text) le)

is_read : (text : List ℕ) → IsReading text (reading text)
is_read text = elim (cases_lt 65536 (length text)) [
  | inl long ↦ subst (IsReading text) (sym (reading_long text long)) long
  | inr short ↦ subst (IsReading text) (sym (reading_short text short)) (of_lines text (read_lines (lines text)) short (lines_are_read (lines text)))
]

short_again : (text : List ℕ) (r : Result (List ℕ) LayoutRefusal) → length text ≤ 65536 → IsRead (lines text) r → reading text ≡ r
short_again text r le h = reading_short text le ∙ lines_again (lines text) r h

read_again : (text : List ℕ) (r : Result (List ℕ) LayoutRefusal) → IsReading text r → reading text ≡ r
read_again text (Ok o) (le, st, apart) = short_again text (Ok o) le (st, apart)
read_again text (Err TooLong) h = reading_long text h
read_again text (Err (Line number)) (le, h) = short_again text (Err (Line number)) le h
read_again text (Err (UnknownName number)) (le, h) = short_again text (Err (UnknownName number)) le h
read_again text (Err (Repeated number)) (le, h) = short_again text (Err (Repeated number)) le h
read_again text (Err (Missing field)) (le, h) = short_again text (Err (Missing field)) le h
read_again text (Err (Overlap first second)) (le, h) = short_again text (Err (Overlap first second)) le h

pub found : (text o : List ℕ) → reading text ≡ Ok o → IsLayout text o
found text o is = subst (IsReading text) is (is_read text)

pub refused : (text : List ℕ) (e : LayoutRefusal) → reading text ≡ Err e → IsRefused text e
refused text e is = subst (IsReading text) is (is_read text)

pub found_again : (text o : List ℕ) → IsLayout text o → reading text ≡ Ok o
found_again text o h = read_again text (Ok o) h

pub refused_again : (text : List ℕ) (e : LayoutRefusal) → IsRefused text e → reading text ≡ Err e
refused_again text e h = read_again text (Err e) h

pub only_found : (text o others : List ℕ) → reading text ≡ Ok o → IsLayout text others → o ≡ others
only_found text o others is h = let again = found_again text others h in let e : Ok o ≡ Ok others = sym is ∙ again in cc

pub not_refused : (text o : List ℕ) (e : LayoutRefusal) → reading text ≡ Ok o → IsRefused text e → ⊥
not_refused text o e is h = let again = refused_again text e h in let k : Ok o ≡ Err e = sym is ∙ again in absurd cc

pub not_found : (text o : List ℕ) (e : LayoutRefusal) → reading text ≡ Err e → IsLayout text o → ⊥
not_found text o e is h = let again = found_again text o h in let k : Ok o ≡ Err e = sym again ∙ is in absurd cc

pub only_refused : (text : List ℕ) (d e : LayoutRefusal) → reading text ≡ Err d → IsRefused text e → d ≡ e
only_refused text d e is h = let again = refused_again text e h in let k : Err d ≡ Err e = sym is ∙ again in cc
