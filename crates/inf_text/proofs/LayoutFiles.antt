-- A file says what its lines were written to say.
use Rattle.std.proofs.Common.{◌≡◌, ◌≢◌, ◌⊎◌, ℕ, suc, ◌-◌, false, eqb, Ok, Err, Result, List, [], ◌∷◌, ◌++◌, length, take, refl, sym, ap, ◌∙◌, subst, inl, inr, arith, append_assoc, ◌+◌, ◌≤◌, Bool, true, ltb, Option, Some, None, map, drop, length-append}
use Rattle.std.specs.Prelude.{slice_index}
use Rattle.std.specs.List.{slice_split, onto_first, AllByRecursion}
use Rattle.std.specs.Str.Lines.{lines, lines_of_parts, strip_carriage_return}
use Rattle.std.proofs.lemmas.Bool.{cases_Bool, eqb-true, ne_eqb}
use Rattle.std.proofs.lemmas.Bool.Decides.{nat_tests}
use Rattle.std.proofs.lemmas.List.{append-nil}
use Rattle.std.proofs.lemmas.List.Splits.{slice_split-cons_no}
use Rattle.inf_text.specs.declared.joining.Joined.{Joined}
use Rattle.inf_text.specs.declared.refusal.InfRefusal.{InfRefusal}
use Rattle.nd_base.specs.Results.{◌>>=◌}
use Rattle.inf_text.specs.Quotes.{is_open, front_len, trimmed_start, trimmed_end, is_blank, is_mark, turned, resolved_behind, value, cut, key_cut, parts, values}
use Rattle.inf_text.specs.Joining.{said, last_of, goes_on, joined}
use Rattle.inf_text.specs.Reading.{Front, with_joined, with_all, header, entry, statement, at_first, with_statement, with_statements, all_sections, collected, sections_of_lines, sections_of}
use Rattle.inf_text.specs.Layout.{HasNoFeed, doubled, quoted, KeyHasNoFeed, Setting, AreBlanks, IsWord, IsSetting, Layout, IsLayout, spelled, spaced, spaced_values, behind_key, laid, ended, laid_out, CanSay, AreLaidOut, IsTextOf}
use Rattle.inf_text.proofs.LayoutLines.{feed_no, last_more, feeds-append, strip_other, whole_line, fits_all, first_word, Starts, starts_append, IsText, text_append, text_one, front_at, parts_at, blank, blanks_open, text_blanks, ArePlain, plain_not, lacks_equals, no_blank_is, last_apart, text_free, text_spaced, starts_spaced, text_values, starts_values, text_ignored, IsBlank, rest_of, end_blanks, broken_read}
use Rattle.std.proofs.lemmas.List.Sums.{fold-append}
use Rattle.std.proofs.Math.Seq.{take-append_seam, take-append-add, drop-append-add}
use Rattle.inf_text.specs.declared.statement.Statement.{Statement}
use Rattle.inf_text.specs.declared.statement.Statement.TheVariants.{Nothing, Header, Entry}
use Rattle.inf_text.specs.Sections.{Line}
use Rattle.inf_text.specs.Characters.{characters}
use Rattle.inf_text.proofs.LineLoops.{read_on}

-- ---- without its last line feed a text says the same

split_none : (xs : List ℕ) → HasNoFeed xs → slice_split (λ b. eqb b 10) xs ≡ xs ∷ []
split_none [] h = refl
split_none (x ∷ xs) h = slice_split-cons_no (λ b. eqb b 10) x xs (ne_eqb x 10 h.0) ∙ ap (onto_first x) (split_none xs h.1)

alone : (c : ℕ) (cs : List ℕ) → HasNoFeed (c ∷ cs) → lines (c ∷ cs) ≡ (c ∷ cs) ∷ []
alone c cs h = let off : eqb (suc (length cs)) 0 ≡ false = search (arith, nat_tests) in ap lines_of_parts (split_none (c ∷ cs) h) ∙ rw off refl

-- a line feed more ends the last line, or is an empty line
Ending : List ℕ → Type 0
Ending t = (lines (t ++ 10 ∷ []) ≡ lines t) ⊎ (lines (t ++ 10 ∷ []) ≡ lines t ++ [] ∷ [])

ending_on : (x t : List ℕ) → HasNoFeed x → Ending t → Ending (x ++ 10 ∷ t)
unfolding Ending
ending_on x t h e =
    let line = strip_carriage_return x in
    let more : lines ((x ++ 10 ∷ t) ++ 10 ∷ []) ≡ line ∷ lines (t ++ 10 ∷ []) = ap lines (append_assoc x (10 ∷ t) (10 ∷ [])) ∙ whole_line x (t ++ 10 ∷ []) h in
    let less : lines (x ++ 10 ∷ t) ≡ line ∷ lines t = whole_line x t h in
    elim e [
      | inl same ↦ inl (more ∙ ap (λ (ls : List (List ℕ)). line ∷ ls) same ∙ sym less)
      | inr empty ↦ inr (more ∙ ap (λ (ls : List (List ℕ)). line ∷ ls) empty ∙ sym (ap (λ (ls : List (List ℕ)). ls ++ [] ∷ []) less))
    ]

ending_last : (x : List ℕ) → HasNoFeed x → eqb (last_of x) 13 ≡ false → Ending x
unfolding Ending
ending_last [] h e = inr (whole_line [] [] tt)
ending_last (c ∷ cs) h e = inl (whole_line (c ∷ cs) [] h ∙ ap (λ (l : List ℕ). l ∷ []) (strip_other (c ∷ cs) e) ∙ sym (alone c cs h))

return_behind : (xs ys : List ℕ) → eqb (last_of (xs ++ ys)) 13 ≡ false → eqb (last_of ys) 13 ≡ false
return_behind [] ys h = h
return_behind (x ∷ xs) ys h = return_behind xs ys (go (xs ++ ys) h) where
  go : (cs : List ℕ) → eqb (last_of (x ∷ cs)) 13 ≡ false → eqb (last_of cs) 13 ≡ false
  go [] k = refl
  go (c ∷ cs) k = ap (λ (d : ℕ). eqb d 13) (sym (last_more x c cs)) ∙ k

ending : (t x : List ℕ) → HasNoFeed x → eqb (last_of (x ++ t)) 13 ≡ false → Ending (x ++ t)
ending [] x h e = subst (λ (cs : List ℕ). Ending cs) (sym (append-nil x)) (ending_last x h (ap (λ (cs : List ℕ). eqb (last_of cs) 13) (sym (append-nil x)) ∙ e))
ending (c ∷ t) x h e =
    let more = append_assoc x (c ∷ []) t in
    elim (cases_Bool (eqb c 10)) [
      | inl on ↦
          let inner = ending t [] tt (return_behind (x ++ c ∷ []) t (ap (λ (cs : List ℕ). eqb (last_of cs) 13) more ∙ e)) in
          subst (λ (d : ℕ). Ending (x ++ d ∷ t)) (sym (eqb-true c 10 on)) (ending_on x t h inner)
      | inr off ↦
          subst (λ (cs : List ℕ). Ending cs) more (ending t (x ++ c ∷ []) (feeds-append x (c ∷ []) h (feed_no c off, tt)) (ap (λ (cs : List ℕ). eqb (last_of cs) 13) more ∙ e))
    ]

-- an empty line more, or none
joined_more : (ls : List (List ℕ)) (first n : ℕ) (front : List ℕ) → (k : ℕ) × (joined first n front (ls ++ [] ∷ []) ≡ joined first n front ls ++ record { number = k; text = [] } ∷ [])
unfolding joined front_len trimmed_end
joined_more [] first n front = (suc n, ap (λ (cs : List ℕ). record { number = first; text = cs } ∷ record { number = suc n; text = [] } ∷ []) (append-nil front))
joined_more (line ∷ ls) first n front =
    let words = said (is_open false front) line in
    elim (cases_Bool (goes_on words)) [
      | inl on ↦ let r = joined_more ls first (suc n) (front ++ take (length (trimmed_end words) - 1) (trimmed_end words)) in (r.0, rw on r.1)
      | inr off ↦ let r = joined_more ls (suc n) (suc n) [] in (r.0, rw off (ap (λ (js : List Joined). record { number = first; text = front ++ words } ∷ js) r.1))
    ]

taken_more : (js : List Joined) (front : Front) (k : ℕ) → with_all front (js ++ record { number = k; text = [] } ∷ []) ≡ with_all front js
unfolding with_all trimmed_start
taken_more [] front k = refl
taken_more (j ∷ js) front k = go (with_joined front j) (λ next. taken_more js next k) where
  go : (r : Result Front InfRefusal) → ((next : Front) → with_all next (js ++ record { number = k; text = [] } ∷ []) ≡ with_all next js) → (r >>= λ next. with_all next (js ++ record { number = k; text = [] } ∷ [])) ≡ (r >>= λ next. with_all next js)
  go (Ok next) f = f next
  go (Err e) f = refl

all_same : (front : Front) (t : List ℕ) → Ending t → with_all front (joined 1 1 [] (lines (t ++ 10 ∷ []))) ≡ with_all front (joined 1 1 [] (lines t))
unfolding Ending
all_same front t (inl same) = ap (λ (ls : List (List ℕ)). with_all front (joined 1 1 [] ls)) same
all_same front t (inr empty) =
    let r = joined_more (lines t) 1 1 [] in
    ap (λ (ls : List (List ℕ)). with_all front (joined 1 1 [] ls)) empty ∙ ap (with_all front) r.1 ∙ taken_more (joined 1 1 [] (lines t)) front r.0

pub end_lacks : (front : Front) (text : List ℕ) → slice_index text (length text - 1) ≢ 13 → with_all front (joined 1 1 [] (lines (text ++ 10 ∷ []))) ≡ with_all front (joined 1 1 [] (lines text))
end_lacks front text no_return = all_same front text (ending text [] tt (ne_eqb (last_of text) 13 no_return))

-- ---- a file says what its lines were written to say

start_blanks : (bs more : List ℕ) → AreBlanks bs → trimmed_start (bs ++ more) ≡ trimmed_start more
unfolding trimmed_start
start_blanks [] more h = refl
start_blanks (b ∷ bs) more h = rw (blank b h.0) (start_blanks bs more h.1)

no_start : (bs : List ℕ) → AreBlanks bs → trimmed_start bs ≡ []
unfolding trimmed_start
no_start bs h = ap trimmed_start (sym (append-nil bs)) ∙ start_blanks bs [] h

first_stays : (c : ℕ) (cs : List ℕ) → is_blank c ≡ false → trimmed_start (c ∷ cs) ≡ c ∷ cs
unfolding trimmed_start
first_stays c cs h = rw h refl

-- blanks around a text that begins and ends with none
value_between : (bs ds front : List ℕ) (c : ℕ) (cs : List ℕ) (l : ℕ) → AreBlanks bs → AreBlanks ds → is_blank c ≡ false → is_blank l ≡ false → c ∷ cs ≡ front ++ l ∷ [] → value (bs ++ (c ∷ cs ++ ds)) ≡ resolved_behind 0 false (c ∷ cs)
value_between bs ds front c cs l hb hd nc nl e =
    ap (λ (xs : List ℕ). resolved_behind 0 false (trimmed_end xs)) (start_blanks bs (c ∷ cs ++ ds) hb ∙ first_stays c (cs ++ ds) nc ∙ ap (λ (xs : List ℕ). xs ++ ds) e ∙ append_assoc front (l ∷ []) ds)
    ∙ ap (resolved_behind 0 false) (end_blanks front l ds nl hd ∙ sym e)

resolved_doubled : (before : ℕ) (v : List ℕ) → resolved_behind before true (doubled v ++ 34 ∷ []) ≡ v
unfolding resolved_behind doubled
resolved_doubled before [] = refl
resolved_doubled before (c ∷ cs) = elim (cases_Bool (eqb c 34)) [
  | inl on ↦ let e : c ≡ 34 = eqb-true c 34 on in rw e (ap (λ (xs : List ℕ). 34 ∷ xs) (resolved_doubled 34 cs))
  | inr off ↦ rw off (rw off (ap (λ (xs : List ℕ). c ∷ xs) (resolved_doubled c cs)))
]

resolved_quoted : (v : List ℕ) → resolved_behind 0 false (quoted v) ≡ v
unfolding resolved_behind
resolved_quoted v = resolved_doubled 34 v

resolved_word : (before : ℕ) (v : List ℕ) → ArePlain v → resolved_behind before false v ≡ v
unfolding resolved_behind
resolved_word before [] h = refl
resolved_word before (c ∷ cs) h = rw (plain_not c 34 h.0 refl) (ap (λ (xs : List ℕ). c ∷ xs) (resolved_word c cs h.1))

value_none : (bs ds : List ℕ) → AreBlanks bs → AreBlanks ds → value (bs ++ ds) ≡ []
unfolding trimmed_end resolved_behind
value_none bs ds hb hd = ap (λ (xs : List ℕ). resolved_behind 0 false (trimmed_end xs)) (start_blanks bs ds hb ∙ no_start ds hd)

value_spelled : (v : List ℕ) (bare : Bool) (bs ds : List ℕ) → (bare ≡ true → IsWord v) → AreBlanks bs → AreBlanks ds → value (bs ++ (spelled bare v ++ ds)) ≡ v
value_spelled v false bs ds word hb hd = value_between bs ds (34 ∷ doubled v) 34 (doubled v ++ 34 ∷ []) 34 hb hd refl refl refl ∙ resolved_quoted v
value_spelled [] true bs ds word hb hd = value_none bs ds hb hd
value_spelled (c ∷ cs) true bs ds word hb hd =
    let w = word refl in
    let r = last_apart c cs in
    value_between bs ds r.0 c cs (last_of (c ∷ cs)) hb hd (no_blank_is c w.begins) (no_blank_is (last_of (c ∷ cs)) w.ends) r.1 ∙ resolved_word 0 (c ∷ cs) w.plain

value_spaced : (s : Setting) → IsSetting s → (v : List ℕ) → value (spaced s v) ≡ v
value_spaced s is v = value_spelled v (s.bare v) s.before s.behind (is.bare v) is.before is.behind

no_parts : parts false [] ≡ [] ∷ []
unfolding parts
no_parts = refl

parts_comma : (rest : List ℕ) → parts false (44 ∷ rest) ≡ [] ∷ parts false rest
unfolding parts
parts_comma rest = refl

module _ (settings : ℕ → Setting) (are : (n : ℕ) → IsSetting (settings n)) where
  one_value : (n : ℕ) (v more : List ℕ) (ps : List (List ℕ)) → HasNoFeed v → parts false more ≡ [] ∷ ps → values (spaced (settings n) v ++ more) ≡ v ∷ map value ps
  one_value n v more ps h e =
      let s = settings n in
      ap (map value) (parts_at (spaced s v) more [] ps (text_spaced s (are n) v 44 refl refl refl h) e)
      ∙ ap (λ (x : List ℕ). value x ∷ map value ps) (append-nil (spaced s v)) ∙ ap (λ (x : List ℕ). x ∷ map value ps) (value_spaced s (are n) v)

  values_spaced : (vs : List (List ℕ)) (n : ℕ) → vs ≢ [] → AllByRecursion HasNoFeed vs → values (spaced_values settings n vs) ≡ vs
  unfolding spaced_values
  values_spaced [] n h f = absurd (h refl)
  values_spaced (v ∷ []) n h f = ap values (sym (append-nil (spaced (settings n) v))) ∙ one_value n v [] [] f.0 no_parts
  values_spaced (v ∷ w ∷ vs) n h f =
      one_value n v (44 ∷ spaced_values settings (n + 1) (w ∷ vs)) (parts false (spaced_values settings (n + 1) (w ∷ vs))) f.0 (parts_comma (spaced_values settings (n + 1) (w ∷ vs)))
      ∙ ap (λ (xs : List (List ℕ)). v ∷ xs) (values_spaced (w ∷ vs) (n + 1) (λ e. cc) f.1)

-- ---- blanks in front of a line change nothing

some_parts : (inside : Bool) (cs : List ℕ) → (p : List ℕ) × (ps : List (List ℕ)) × (parts inside cs ≡ p ∷ ps)
unfolding parts
some_parts inside [] = ([], [], refl)
some_parts inside (c ∷ cs) = elim (cases_Bool (is_mark 44 inside c)) [
  | inl on ↦ ([], parts false cs, rw on refl)
  | inr off ↦ let r = some_parts (turned inside c) cs in (c ∷ r.0, r.1, rw off (ap (onto_first c) r.2))
]

value_blanks : (bs cs : List ℕ) → AreBlanks bs → value (bs ++ cs) ≡ value cs
value_blanks bs cs h = ap (λ (xs : List ℕ). resolved_behind 0 false (trimmed_end xs)) (start_blanks bs cs h)

values_blanks : (bs cs : List ℕ) → AreBlanks bs → values (bs ++ cs) ≡ values cs
values_blanks bs cs h =
    let r = some_parts false cs in
    ap (map value) (parts_at bs cs r.0 r.1 (text_blanks 44 bs refl h) r.2) ∙ ap (λ (v : List ℕ). v ∷ map value r.1) (value_blanks bs r.0 h) ∙ ap (map value) (sym r.2)

entry_blanks : (n : ℕ) (bs cs : List ℕ) → AreBlanks bs → entry n (bs ++ cs) (key_cut (bs ++ cs)) ≡ entry n cs (key_cut cs)
entry_blanks n bs cs h =
    let at = front_len 61 false cs in
    let comma = front_len 44 false cs in
    let front : front_len 61 false (bs ++ cs) ≡ length bs + at = front_at 61 bs cs (text_blanks 61 bs refl h) in
    let commas : front_len 44 false (bs ++ cs) ≡ length bs + comma = front_at 44 bs cs (text_blanks 44 bs refl h) in
    elim (cases_Bool (ltb at comma)) [
      | inl on ↦
          let lt : ltb (length bs + at) (length bs + comma) ≡ true = grind (arith, nat_tests) in
          let e : length bs + at + 1 ≡ length bs + (at + 1) = omega arith in
          rw (front, commas) (rw (lt, on) (ap (λ (k : List ℕ). record { number = n; key = Some k; values = values (drop (length bs + at + 1) (bs ++ cs)) }) (ap (λ (xs : List ℕ). value xs) (take-append-add bs cs at) ∙ value_blanks bs (take at cs) h)
          ∙ ap (λ (xs : List ℕ). record { number = n; key = Some (value (take at cs)); values = values xs }) (ap (λ (m : ℕ). drop m (bs ++ cs)) e ∙ drop-append-add bs cs (at + 1))))
      | inr off ↦
          let ge : ltb (length bs + at) (length bs + comma) ≡ false = grind (arith, nat_tests) in
          rw (front, commas) (rw (ge, off) (ap (λ (xs : List (List ℕ)). record { number = n; key = None; values = xs }) (values_blanks bs cs h)))
    ]

blank_is : (c : ℕ) → is_blank c ≡ true → IsBlank c
blank_is c h = elim (cases_Bool (eqb c 32)) [ inl on ↦ inl (eqb-true c 32 on) | inr off ↦ let tab = rw off at h in inr (eqb-true c 9 tab) ]

-- a text is blanks and what is behind them
apart : (cs : List ℕ) → (bs : List ℕ) × AreBlanks bs × (cs ≡ bs ++ trimmed_start cs)
unfolding trimmed_start
apart [] = ([], tt, refl)
apart (c ∷ cs) = elim (cases_Bool (is_blank c)) [
  | inl on ↦ let r = apart cs in (c ∷ r.0, (blank_is c on, r.1), rw on (ap (λ (xs : List ℕ). c ∷ xs) r.2))
  | inr off ↦ ([], tt, rw off refl)
]

first_is : (cs : List ℕ) (c : ℕ) (ds : List ℕ) → trimmed_start cs ≡ c ∷ ds → first_word cs 0 ≡ c
unfolding trimmed_start
first_is [] c ds e = absurd cc
first_is (x ∷ xs) c ds e = elim (cases_Bool (is_blank x)) [ inl on ↦ let k = rw on at e in rw on (first_is xs c ds k) | inr off ↦ let k = rw off at e in rw off cc ]

-- ---- headers and lines

first_mark : (mark : ℕ) (rest : List ℕ) → front_len mark false (mark ∷ rest) ≡ 0
unfolding front_len
first_mark mark rest = let e : eqb mark mark ≡ true = search (arith, nat_tests) in rw e refl

cut_there : (mark : ℕ) (front behind : List ℕ) → IsText mark front → cut mark (front ++ mark ∷ behind) ≡ Some (front, behind)
cut_there mark front behind t =
    let h : front_len mark false (front ++ mark ∷ behind) ≡ length front = front_at mark front (mark ∷ behind) t ∙ omega (arith, first_mark mark behind) in
    let lt : ltb (length front) (length (front ++ mark ∷ behind)) ≡ true = simp length-append (search (arith, nat_tests)) in
    rw h (rw (lt, take-append_seam, drop-append-add) refl)

key_there : (key behind : List ℕ) → IsText 61 key → IsText 44 key → key_cut (key ++ 61 ∷ behind) ≡ Some (key, behind)
unfolding front_len
key_there key behind t u =
    let h : front_len 61 false (key ++ 61 ∷ behind) ≡ length key = front_at 61 key (61 ∷ behind) t ∙ omega (arith, first_mark 61 behind) in
    let more : front_len 44 false (key ++ 61 ∷ behind) ≡ length key + suc (front_len 44 false behind) = front_at 44 key (61 ∷ behind) u in
    let lt : ltb (length key) (front_len 44 false (key ++ 61 ∷ behind)) ≡ true = search (arith, nat_tests) in
    rw h (rw (lt, take-append_seam, drop-append-add) refl)

key_nowhere : (cs : List ℕ) → front_len 44 false cs ≤ front_len 61 false cs → key_cut cs ≡ None
key_nowhere cs h = let ge : ltb (front_len 61 false cs) (front_len 44 false cs) ≡ false = search (arith, nat_tests) in rw ge refl

module _ (l : Layout) (is : IsLayout l) where
  header_text : (name : List ℕ) → HasNoFeed name → IsText 59 (spaced (l.settings 0) name ++ 93 ∷ l.ignored)
  header_text name h =
      text_append 59 (spaced (l.settings 0) name) (93 ∷ l.ignored) (text_spaced (l.settings 0) (is.settings 0) name 59 refl refl refl h) (text_append 59 (93 ∷ []) l.ignored (text_one 59 93 refl refl refl refl) (text_ignored l.ignored is.ignored))

  header_said : (n : ℕ) (name : List ℕ) → HasNoFeed name → statement n (trimmed_start (laid l (Header name))) ≡ Ok (Header name)
  unfolding trimmed_start
  header_said n name h =
      let s = l.settings 0 in
      let behind = spaced s name ++ 93 ∷ l.ignored in
      ap (statement n) (start_blanks l.indent (91 ∷ behind) is.indent)
      ∙ rw (header_text name h).closed (ap (header n) (cut_there 93 (spaced s name) l.ignored (text_spaced s (is.settings 0) name 93 refl refl refl h)) ∙ ap (λ (m : List ℕ). Ok (Header m)) (value_spaced s (is.settings 0) name))

  commas : (v : List ℕ) → HasNoFeed v → IsText 44 (spaced (l.settings 1) v)
  commas v h = text_spaced (l.settings 1) (is.settings 1) v 44 refl refl refl h

  equals : (v : List ℕ) → HasNoFeed v → IsText 61 (spaced (l.settings 1) v)
  equals v h = text_free (l.settings 1) (is.settings 1) v 61 refl refl (λ b. lacks_equals v (is.equals 1 (omega arith) v b)) h

  -- an `=` in a later value stands behind a comma
  equals_behind : (vs : List (List ℕ)) → AllByRecursion HasNoFeed vs → front_len 44 false (spaced_values l.settings 1 vs) ≤ front_len 61 false (spaced_values l.settings 1 vs)
  unfolding spaced_values front_len
  equals_behind [] h = omega arith
  equals_behind (v ∷ []) h = omega (arith, fits_all 44 false (spaced (l.settings 1) v) (commas v h.0).fits, fits_all 61 false (spaced (l.settings 1) v) (equals v h.0).fits)
  equals_behind (v ∷ w ∷ vs) h =
      let rest = spaced_values l.settings (1 + 1) (w ∷ vs) in
      omega (arith, front_at 44 (spaced (l.settings 1) v) (44 ∷ rest) (commas v h.0), front_at 61 (spaced (l.settings 1) v) (44 ∷ rest) (equals v h.0), first_mark 44 rest)

  entry_said : (n : ℕ) (key : Option (List ℕ)) (vs : List (List ℕ)) → vs ≢ [] → KeyHasNoFeed key → AllByRecursion HasNoFeed vs
      → entry n (behind_key (l.settings 0) key (spaced_values l.settings 1 vs)) (key_cut (behind_key (l.settings 0) key (spaced_values l.settings 1 vs))) ≡ record { number = n; key = key; values = vs }
  entry_said n None vs some k f =
      ap (entry n (spaced_values l.settings 1 vs)) (key_nowhere (spaced_values l.settings 1 vs) (equals_behind vs f))
      ∙ ap (λ (xs : List (List ℕ)). record { number = n; key = None; values = xs }) (values_spaced l.settings is.settings vs 1 some f)
  entry_said n (Some key) vs some k f =
      let s = l.settings 0 in
      let rest = spaced_values l.settings 1 vs in
      ap (entry n (spaced s key ++ 61 ∷ rest)) (key_there (spaced s key) rest (text_free s (is.settings 0) key 61 refl refl (λ b. lacks_equals key (is.equals 0 (omega arith) key b)) k) (text_spaced s (is.settings 0) key 44 refl refl refl k))
      ∙ ap (λ (m : List ℕ). record { number = n; key = Some m; values = values rest }) (value_spaced s (is.settings 0) key)
      ∙ ap (λ (xs : List (List ℕ)). record { number = n; key = Some key; values = xs }) (values_spaced l.settings is.settings vs 1 some f)

  entry_text : (key : Option (List ℕ)) (vs : List (List ℕ)) → KeyHasNoFeed key → AllByRecursion HasNoFeed vs → IsText 59 (behind_key (l.settings 0) key (spaced_values l.settings 1 vs))
  entry_text None vs k f = text_values l.settings is.settings vs 1 f
  entry_text (Some key) vs k f =
      text_append 59 (spaced (l.settings 0) key) (61 ∷ spaced_values l.settings 1 vs) (text_spaced (l.settings 0) (is.settings 0) key 59 refl refl refl k)
      (text_append 59 (61 ∷ []) (spaced_values l.settings 1 vs) (text_one 59 61 refl refl refl refl) (text_values l.settings is.settings vs 1 f))

  entry_starts : (key : Option (List ℕ)) (vs : List (List ℕ)) → Starts (behind_key (l.settings 0) key (spaced_values l.settings 1 vs))
  entry_starts None vs = starts_values l.settings is.settings vs 1
  entry_starts (Some key) vs = starts_append (spaced (l.settings 0) key) (61 ∷ spaced_values l.settings 1 vs) (starts_spaced (l.settings 0) (is.settings 0) key) (record { first = λ d e. refl })

open_behind : (bs cs : List ℕ) → AreBlanks bs → is_open false (bs ++ cs) ≡ is_open false cs
open_behind bs cs h = fold-append turned false bs cs ∙ ap (λ (now : Bool). is_open now cs) (blanks_open false bs h)

-- a line that is not blanks alone and begins with no bracket
line_said : (n : ℕ) (text : List ℕ) → is_open false text ≡ false → Starts text → (AreBlanks text → ⊥) → statement n (trimmed_start text) ≡ Ok (Entry (entry n text (key_cut text)))
line_said n text closed starts some =
    let r = apart text in
    go r.0 (trimmed_start text) r.1 r.2 refl where
      go : (bs t : List ℕ) → AreBlanks bs → text ≡ bs ++ t → trimmed_start text ≡ t → statement n t ≡ Ok (Entry (entry n text (key_cut text)))
      go bs [] are e is = absurd (some (subst (λ (cs : List ℕ). AreBlanks cs) (sym (e ∙ append-nil bs)) are))
      go bs (c ∷ cs) are e is =
          let inner : is_open false (c ∷ cs) ≡ false = sym (open_behind bs (c ∷ cs) are) ∙ ap (is_open false) (sym e) ∙ closed in
          let no_header : eqb c 91 ≡ false = ap (λ (d : ℕ). eqb d 91) (sym (first_is text c cs is)) ∙ starts.first 0 refl in
          rw (inner, no_header) (ap (λ (line : Line). Ok (Entry line)) (sym (entry_blanks n bs (c ∷ cs) are) ∙ ap (λ (xs : List ℕ). entry n xs (key_cut xs)) (sym e)))

module _ (l : Layout) (is : IsLayout l) (n : ℕ) where
  laid_text : (s : Statement) → CanSay n l s → IsText 59 (laid l s)
  laid_text Nothing h = text_blanks 59 l.indent refl is.indent
  laid_text (Header name) h =
      let behind = spaced (l.settings 0) name ++ 93 ∷ l.ignored in
      text_append 59 l.indent (91 ∷ behind) (text_blanks 59 l.indent refl is.indent) (text_append 59 (91 ∷ []) behind (text_one 59 91 refl refl refl refl) (header_text l is name h))
  laid_text (Entry line) h = entry_text l is line.key line.values h.1.key h.1.values

  laid_said : (s : Statement) → CanSay n l s → statement n (trimmed_start (laid l s)) ≡ Ok s
  laid_said Nothing h = ap (statement n) (no_start l.indent is.indent)
  laid_said (Header name) h = header_said l is n name h
  laid_said (Entry line) h =
      line_said n (laid l (Entry line)) (laid_text (Entry line) h).closed (entry_starts l is line.key line.values) h.2
      ∙ ap (λ (x : Line). Ok (Entry x)) (entry_said l is n line.key line.values h.1.some_value h.1.key h.1.values)
      ∙ ap (λ (m : ℕ). Ok (Entry (record { number = m; key = line.key; values = line.values }))) (sym h.0)

  line_read : (s : Statement) (front : Front) (rest : List ℕ) → CanSay n l s
      → with_all front (joined n n [] (lines (ended l (laid l s) ++ rest))) ≡ (with_statement front s >>= λ next. with_all next (joined (n + length l.breaks + 1) (n + length l.breaks + 1) [] (lines rest)))
  unfolding with_all
  line_read s front rest h =
      let js = joined (n + length l.breaks + 1) (n + length l.breaks + 1) [] (lines rest) in
      ap (with_all front) (broken_read l.comment l.with_return is.comment l.breaks false n n [] (laid l s) rest is.breaks refl (rest_of (laid l s) (laid_text s h)))
      ∙ ap (λ (r : Result Statement InfRefusal). (r >>= λ said. with_statement front said) >>= λ next. with_all next js) (laid_said s h)

-- ---- a file

on_front : (js : List Joined) (ss : List Statement) → ((next : Front) → all_sections (with_all next js) ≡ all_sections (with_statements next ss)) → (r : Result Front InfRefusal) → all_sections (r >>= λ next. with_all next js) ≡ all_sections (r >>= λ next. with_statements next ss)
on_front js ss f (Ok next) = f next
on_front js ss f (Err e) = refl

all_read : (ws : List (Layout × Statement)) (n : ℕ) (front : Front) → AreLaidOut n ws → all_sections (with_all front (joined n n [] (lines (laid_out ws)))) ≡ all_sections (with_statements front (map (λ w. w.1) ws))
unfolding laid_out with_all with_statements joined trimmed_start
all_read [] n front h = refl
all_read (w ∷ ws) n front h =
    let m = n + length w.0.breaks + 1 in
    ap all_sections (line_read w.0 h.0 n w.1 front (laid_out ws) h.1) ∙ on_front (joined m m [] (lines (laid_out ws))) (map (λ v. v.1) ws) (λ next. all_read ws m next h.2) (with_statement front w.1)

text_read : (ws : List (Layout × Statement)) (text : List ℕ) → AreLaidOut 1 ws → IsTextOf (laid_out ws) text → sections_of_lines (joined 1 1 [] (lines text)) ≡ collected (map (λ w. w.1) ws)
text_read ws text are (inl whole) = ap (λ (cs : List ℕ). sections_of_lines (joined 1 1 [] (lines cs))) whole ∙ all_read ws 1 at_first are
text_read ws text are (inr lacks) = sym (ap all_sections (end_lacks at_first text lacks.1)) ∙ ap (λ (cs : List ℕ). sections_of_lines (joined 1 1 [] (lines cs))) lacks.0 ∙ all_read ws 1 at_first are

pub laid_out_is_read : (ws : List (Layout × Statement)) (bytes text : List ℕ) → AreLaidOut 1 ws → length bytes ≤ 1048576 → characters bytes ≡ Ok text → IsTextOf (laid_out ws) text → sections_of bytes ≡ collected (map (λ w. w.1) ws)
laid_out_is_read ws bytes text are h is laid = read_on bytes text h is ∙ text_read ws text are laid
