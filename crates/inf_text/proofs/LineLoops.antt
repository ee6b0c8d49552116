-- Lines, one after the other, and the sections that they make.
use Rattle.std.proofs.Common.{◌≡◌, ℕ, ◌+◌, ◌<◌, Bool, true, false, eqb, List, [], ◌∷◌, ◌++◌, length, refl, sym, ap, ◌∙◌, inl, inr, arith, append_assoc, add-one, ◌≢◌, suc, ◌≤◌, ltb, drop, get_or, Option, None, Some, Result, Ok, Err, subst, drop-cons}
use Rattle.std.specs.List.{slice_split, onto_first}
use Rattle.std.specs.Str.Lines.{lines, lines_of_parts, strip_carriage_return}
use Rattle.std.proofs.lemmas.List.Splits.{slice_split-cons_no, slice_split-cons_yes}
use Rattle.std.proofs.lemmas.Bool.{cases_Bool}
use Rattle.std.proofs.lemmas.Bool.Decides.{nat_tests}
use Rattle.inf_text.specs.declared.joining.Joined.{Joined}
use Rattle.inf_text.specs.Quotes.{is_open}
use Rattle.inf_text.proofs.Loops.{open_append}
use Rattle.inf_text.specs.Joining.{said, goes_on, kept, joined}
use Rattle.std.proofs.Math.ListN.{drop_of_length-le}
use Rattle.inf_text.specs.declared.refusal.InfRefusal.{InfRefusal}
use Rattle.inf_text.specs.declared.refusal.InfRefusal.TheVariants.{OutOfMemory, TooLong, BadText}
use Rattle.nd_base.specs.Results.{Gives}
use Rattle.inf_text.specs.Characters.{bad_byte, text_of, unless_bad, characters}
use Rattle.inf_text.specs.Sections.{Section}
use Rattle.inf_text.specs.Reading.{Front, with_joined, with_all, all_sections, sections_of_lines, sections_of}

-- ---- lines, one after the other

onto_more : (x : List ℕ) (b : ℕ) (parts : List (List ℕ)) → lines_of_parts (x ∷ onto_first b parts) ≡ strip_carriage_return x ∷ lines_of_parts (onto_first b parts)
onto_more x b [] = refl
onto_more x b (part ∷ parts) = refl

pub parts_more : (p : ℕ → Bool) (x bs : List ℕ) → lines_of_parts (x ∷ slice_split p bs) ≡ strip_carriage_return x ∷ lines_of_parts (slice_split p bs)
parts_more p x [] = refl
parts_more p x (b ∷ bs) = elim (cases_Bool (p b)) [
  | inl on ↦ rw (slice_split-cons_yes p b bs on) refl
  | inr off ↦ rw (slice_split-cons_no p b bs off) (onto_more x b (slice_split p bs))
]

pub line_some : (bs part line rest : List ℕ) → slice_split (λ b. eqb b 10) bs ≡ part ∷ slice_split (λ b. eqb b 10) rest → line ≡ strip_carriage_return part → lines bs ≡ line ∷ lines rest
line_some bs part line rest h l = ap lines_of_parts h ∙ parts_more (λ b. eqb b 10) part rest ∙ rw l refl

pub line_none : (bs : List ℕ) → 0 < length bs → slice_split (λ b. eqb b 10) bs ≡ bs ∷ [] → lines bs ≡ bs ∷ lines []
line_none bs lt h = let off : eqb (length bs) 0 ≡ false = search (arith, nat_tests) in ap lines_of_parts h ∙ rw off refl

pub joined_end : (first n : ℕ) (front bs : List ℕ) → length bs ≡ 0 → joined first n front (lines bs) ≡ record { number = first; text = front } ∷ []
unfolding joined
joined_end first n front [] h = refl
joined_end first n front (b ∷ bs) h = absurd (omega arith)

pub joined_on : (first n : ℕ) (front bs line rest : List ℕ) → lines bs ≡ line ∷ lines rest → goes_on (said (is_open false front) line) ≡ true
    → joined first n front (lines bs) ≡ joined first (n + 1) (front ++ kept (said (is_open false front) line)) (lines rest)
unfolding joined
joined_on first n front bs line rest h on = ap (joined first n front) h ∙ rw (on, add-one) refl

pub joined_off : (first n : ℕ) (front bs line rest : List ℕ) → lines bs ≡ line ∷ lines rest → goes_on (said (is_open false front) line) ≡ false
    → joined first n front (lines bs) ≡ record { number = first; text = front ++ kept (said (is_open false front) line) } ∷ joined (n + 1) (n + 1) [] (lines rest)
unfolding joined
joined_off first n front bs line rest h off = ap (joined first n front) h ∙ rw (off, add-one) refl

pub same_quotes : (front next kept_part : List ℕ) (inside now : Bool) → inside ≡ is_open false front → now ≡ is_open inside kept_part → next ≡ front ++ kept_part → now ≡ is_open false next
same_quotes front next kept_part inside now q p is = rw (is, open_append, p, q) refl

words_are : (front line words : List ℕ) (inside : Bool) → inside ≡ is_open false front → words ≡ said inside line → words ≡ said (is_open false front) line
words_are front line words inside q w = w ∙ ap (λ (b : Bool). said b line) q

pub goes : (found all : List Joined) (first n : ℕ) (front next bs line rest words kept_part : List ℕ) (inside on : Bool) → lines bs ≡ line ∷ lines rest → inside ≡ is_open false front → words ≡ said inside line
    → kept_part ≡ kept words → on ≡ goes_on words → on ≡ true → next ≡ front ++ kept_part → found ++ joined first n front (lines bs) ≡ all → found ++ joined first (n + 1) next (lines rest) ≡ all
goes found all first n front next bs line rest words kept_part inside on h q w k o t is so_far =
    let same = words_are front line words inside q w in
    let next_is = is ∙ ap (λ (xs : List ℕ). front ++ xs) (k ∙ ap kept same) in
    let on_is : goes_on (said (is_open false front) line) ≡ true = ap goes_on (sym same) ∙ sym o ∙ t in
    ap (λ (xs : List ℕ). found ++ joined first (n + 1) xs (lines rest)) next_is ∙ ap (λ (js : List Joined). found ++ js) (sym (joined_on first n front bs line rest h on_is)) ∙ so_far

pub stops : (found all more : List Joined) (first n : ℕ) (front next begun bs line rest words kept_part : List ℕ) (inside on : Bool) → lines bs ≡ line ∷ lines rest → inside ≡ is_open false front → words ≡ said inside line
    → kept_part ≡ kept words → on ≡ goes_on words → on ≡ false → next ≡ front ++ kept_part → more ≡ found ++ record { number = first; text = next } ∷ [] → begun ≡ []
    → found ++ joined first n front (lines bs) ≡ all → more ++ joined (n + 1) (n + 1) begun (lines rest) ≡ all
stops found all more first n front next begun bs line rest words kept_part inside on h q w k o t is push b so_far =
    let same = words_are front line words inside q w in
    let next_is = is ∙ ap (λ (xs : List ℕ). front ++ xs) (k ∙ ap kept same) in
    let off : goes_on (said (is_open false front) line) ≡ false = ap goes_on (sym same) ∙ sym o ∙ t in
    rw (push, b, append_assoc) (ap (λ (xs : List ℕ). found ++ record { number = first; text = xs } ∷ joined (n + 1) (n + 1) [] (lines rest)) next_is ∙ ap (λ (js : List Joined). found ++ js) (sym (joined_off first n front bs line rest h off)) ∙ so_far)

pub all_read : (found all more : List Joined) (first n : ℕ) (front bs : List ℕ) → length bs ≡ 0 → more ≡ found ++ record { number = first; text = front } ∷ [] → found ++ joined first n front (lines bs) ≡ all → more ≡ all
all_read found all more first n front bs none push so_far = push ∙ ap (λ (js : List Joined). found ++ js) (sym (joined_end first n front bs none)) ∙ so_far

-- ---- joined lines, one after the other

line_here : (ls : List Joined) (i : ℕ) (line : Joined) → i < length ls → line ≡ get_or ls i line → drop i ls ≡ line ∷ drop (i + 1) ls
line_here ls i line h is = rw (add-one, drop-cons ls i line) (ap (λ (x : Joined). x ∷ drop (suc i) ls) (sym is))

pub line_on : (front next : Front) (ls : List Joined) (i : ℕ) (line : Joined) → i < length ls → line ≡ get_or ls i line → with_joined front line ≡ Ok next → with_all front (drop i ls) ≡ with_all next (drop (i + 1) ls)
unfolding with_all
line_on front next ls i line h is one = ap (with_all front) (line_here ls i line h is) ∙ rw one refl

pub line_bad : (front : Front) (ls : List Joined) (i : ℕ) (line : Joined) (e : InfRefusal) → i < length ls → line ≡ get_or ls i line → with_joined front line ≡ Err e → with_all front (drop i ls) ≡ Err e
unfolding with_all
line_bad front ls i line e h is one = ap (with_all front) (line_here ls i line h is) ∙ rw one refl

pub lines_end : (front : Front) (ls : List Joined) (i : ℕ) → length ls ≤ i → with_all front (drop i ls) ≡ Ok front
unfolding with_all
lines_end front ls i h = ap (with_all front) (drop_of_length-le ls h)

pub bad_line : (e : InfRefusal) (front : Front) (ls : List Joined) (i : ℕ) (line : Joined) → i < length ls → line ≡ get_or ls i line → (e ≢ OutOfMemory → with_joined front line ≡ Err e)
    → with_all front (drop i ls) ≡ with_all (record { sections = []; place = None }) ls → e ≢ OutOfMemory → sections_of_lines ls ≡ Err e
bad_line e front ls i line h is fails so_far no_want = ap all_sections (sym so_far ∙ line_bad front ls i line e h is (fails no_want))

pub all_taken : (front : Front) (ls : List Joined) (i : ℕ) → length ls ≤ i → with_all front (drop i ls) ≡ with_all (record { sections = []; place = None }) ls → sections_of_lines ls ≡ Ok front.sections
all_taken front ls i h so_far = ap all_sections (sym so_far ∙ lines_end front ls i h)

pub too_long : (bytes : List ℕ) → 1048576 < length bytes → sections_of bytes ≡ Err TooLong
unfolding sections_of
too_long bytes h = let on : ltb 1048576 (length bytes) ≡ true = search (arith, nat_tests) in rw on refl

bad_text : (bytes : List ℕ) (e : InfRefusal) → length bytes ≤ 1048576 → characters bytes ≡ Err e → sections_of bytes ≡ Err e
unfolding sections_of
bad_text bytes e h bad = let off : ltb 1048576 (length bytes) ≡ false = search (arith, nat_tests) in rw (off, bad) refl

pub read_on : (bytes text : List ℕ) → length bytes ≤ 1048576 → characters bytes ≡ Ok text → sections_of bytes ≡ sections_of_lines (joined 1 1 [] (lines text))
unfolding sections_of
read_on bytes text h good = let off : ltb 1048576 (length bytes) ≡ false = search (arith, nat_tests) in rw (off, good) refl

pub bad_byte_there : (bytes : List ℕ) (at : ℕ) → length bytes ≤ 1048576 → Some at ≡ bad_byte bytes → sections_of bytes ≡ Err (BadText at)
bad_byte_there bytes at h is = bad_text bytes (BadText at) h (ap (λ (o : Option ℕ). unless_bad o (text_of bytes)) (sym is))

pub all_good : (bytes : List ℕ) → None ≡ bad_byte bytes → characters bytes ≡ Ok (text_of bytes)
all_good bytes is = ap (λ (o : Option ℕ). unless_bad o (text_of bytes)) (sym is)

pub all_given : (bytes text read : List ℕ) (ls given : List Joined) (r : Result (List Section) InfRefusal) → length bytes ≤ 1048576 → characters bytes ≡ Ok text → read ≡ text → ls ≡ joined 1 1 [] (lines read) → given ≡ ls
    → Gives OutOfMemory (λ i. i) r (sections_of_lines given) → Gives OutOfMemory (λ i. i) r (sections_of bytes)
all_given bytes text read ls given r h good same is all gives =
    let e : sections_of_lines given ≡ sections_of bytes = ap sections_of_lines (all ∙ is ∙ ap (λ (cs : List ℕ). joined 1 1 [] (lines cs)) same) ∙ sym (read_on bytes text h good) in
    subst (λ (s : Result (List Section) InfRefusal). Gives OutOfMemory (λ i. i) r s) e gives
