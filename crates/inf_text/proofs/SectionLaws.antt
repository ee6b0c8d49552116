-- Sections in their table, each name once, and in pieces.
use Rattle.std.proofs.Common.{inl, inr, ◌≡◌, ℕ, zero, suc, ◌<◌, ◌≤◌, Bool, true, false, ltb, Vec, List, [], ◌∷◌, ◌++◌, length, None, Some, refl, sym, ap, ◌∙◌, arith, ◌+◌, Ok, map, Option, append_assoc, Result, Err, subst}
use Rattle.std.specs.Prelude.{slice_get, if◌then◌else◌}
use Rattle.std.specs.List.{position, position_or_len, list_any, IsDistinct}
use Rattle.std.specs.Map.{keys_of, values_of}
use Rattle.std.specs.declared.alloc.Global.{Global}
use Rattle.std.proofs.lemmas.Bool.{cases_Bool}
use Rattle.std.proofs.lemmas.Bool.Decides.{nat_tests}
use Rattle.std.proofs.lemmas.Option.{cond_some, same_Some}
use Rattle.indexmap.specs.IndexMap.{insert_entry}
use Rattle.indexmap.specs.Layout.{set_value_at}
use Rattle.inf_text.specs.Names.{is_same, same_laws}
use Rattle.inf_text.specs.Sections.{Section, Line, is_named, place_named, place_of, lines_named, with_section, with_line}
use Rattle.inf_text.specs.Entries.{section_in, sections_in}
use Rattle.std.proofs.lemmas.List.{append-nil}
use Rattle.std.proofs.lemmas.List.Concat.{flat_map-cons}
use Rattle.inf_text.specs.declared.statement.Statement.{Statement}
use Rattle.inf_text.specs.declared.statement.Statement.TheVariants.{Entry, Nothing, Header}
use Rattle.inf_text.specs.Reading.{Front, with_statements, all_sections, collected, piece, pieces_said, with_piece, gathered, at_first, with_entry, with_statement, statement_of, with_joined, with_all, sections_of_lines, sections_of}
use Rattle.std.specs.Str.Lines.{lines}
use Rattle.std.proofs.lemmas.Map.Keys.{IsDistinct-push}
use Rattle.inf_text.specs.declared.joining.Joined.{Joined}
use Rattle.inf_text.specs.declared.refusal.InfRefusal.{InfRefusal}
use Rattle.inf_text.specs.declared.refusal.InfRefusal.TheVariants.{TooLong}
use Rattle.nd_base.specs.Results.{◌>>=◌}
use Rattle.inf_text.specs.Characters.{characters}
use Rattle.inf_text.specs.Joining.{joined}

-- ---- headers and lines put into sections

no_place : {X : Type 0} (p : X → Bool) (xs : List X) → position p xs ≡ None → length xs ≤ position_or_len p xs
no_place p xs h = elim (cases_Bool (ltb (position_or_len p xs) (length xs))) [
  | inl on ↦ let k : Some (position_or_len p xs) ≡ None = rw on at h in absurd (cc)
  | inr off ↦ grind (arith, nat_tests)
]

a_place : {X : Type 0} (p : X → Bool) (xs : List X) (i : ℕ) → position p xs ≡ Some i → (position_or_len p xs < length xs) × (position_or_len p xs ≡ i)
a_place p xs i h =
    let k = cond_some (ltb (position_or_len p xs) (length xs)) (position_or_len p xs) i h in
    let within : ltb (position_or_len p xs) (length xs) ≡ true = k.0 in
    (grind (arith, nat_tests), k.1)

abbrev pub Entries : Type 0
Entries = List (List ℕ × Vec Line Global)

pub length-sections : (es : Entries) → length (sections_in es) ≡ length es
length-sections [] = refl
length-sections (e ∷ es) = ap suc (length-sections es)

same_length : (es : Entries) → length (keys_of es) ≡ length (sections_in es)
same_length [] = refl
same_length (e ∷ es) = ap suc (same_length es)

pub place-sections : (name : List ℕ) (es : Entries) → position_or_len (is_same name) (keys_of es) ≡ place_of name (sections_in es)
place-sections name [] = refl
place-sections name (e ∷ es) = rw (place-sections name es) refl

pub position-sections : (name : List ℕ) (es : Entries) → position (is_same name) (keys_of es) ≡ place_named name (sections_in es)
unfolding place_named
position-sections name es = rw (place-sections name es, same_length es) refl

-- a section that is there goes on
old_section : (name : List ℕ) (ss : List Section) → place_of name ss < length ss → with_section name ss ≡ ss
unfolding with_section
old_section name [] h = absurd (omega arith)
old_section name (s ∷ ss) h = elim (cases_Bool (is_named name s)) [
  | inl on ↦ rw on refl
  | inr off ↦ let h2 = rw off at h in rw off (ap (λ (rest : List Section). s ∷ rest) (old_section name ss (omega arith)))
]

pub section-old : (name : List ℕ) (es : Entries) (i : ℕ) → position (is_same name) (keys_of es) ≡ Some i → (i ≡ place_of name (sections_in es)) × (i < length (sections_in es)) × (sections_in es ≡ with_section name (sections_in es))
section-old name es i h =
    let r = a_place (is_same name) (keys_of es) i h in
    let e = place-sections name es in
    let n = same_length es in
    (omega (arith, r.1), omega (arith, r.0, r.1), sym (old_section name (sections_in es) (omega (arith, r.0, r.1))))

-- a new section stands last
new_section : (name : List ℕ) (es : Entries) (v : Vec Line Global) → length (keys_of es) ≤ position_or_len (is_same name) (keys_of es) → v.items ≡ [] → sections_in (insert_entry is_same es name v) ≡ with_section name (sections_in es)
unfolding with_section
new_section name [] v h e = ap (λ (ls : List Line). record { name = name; lines = ls } ∷ []) e
new_section name (x ∷ es) v h e = elim (cases_Bool (is_same name x.0)) [
  | inl on ↦ let h2 = rw on at h in absurd (omega arith)
  | inr off ↦ let h2 = rw off at h in rw off (ap (λ (rest : List Section). section_in x ∷ rest) (new_section name es v (omega arith) e))
]

pub section-new : (name : List ℕ) (es : Entries) (v : Vec Line Global) → position (is_same name) (keys_of es) ≡ None → v.items ≡ [] → sections_in (insert_entry is_same es name v) ≡ with_section name (sections_in es)
section-new name es v h e = new_section name es v (no_place (is_same name) (keys_of es) h) e

-- a section written back with one line more
pub line-set : (es : Entries) (place : ℕ) (line : Line) (v w : Vec Line Global) → slice_get (values_of es) place ≡ Some v → w.items ≡ v.items ++ line ∷ [] → sections_in (set_value_at es place w) ≡ with_line place line (sections_in es)
unfolding with_line
line-set [] place line v w h e = refl
line-set (x ∷ es) zero line v w h e = ap (λ (ls : List Line). record { name = x.0; lines = ls } ∷ sections_in es) (e ∙ ap (λ (u : Vec Line Global). u.items ++ line ∷ []) (sym (same_Some x.1 v h)))
line-set (x ∷ es) (suc place) line v w h e = ap (λ (rest : List Section). section_in x ∷ rest) (line-set es place line v w h e)

pub length-with_line : (place : ℕ) (line : Line) (ss : List Section) → length (with_line place line ss) ≡ length ss
unfolding with_line
length-with_line place line [] = refl
length-with_line zero line (s ∷ ss) = refl
length-with_line (suc place) line (s ∷ ss) = ap suc (length-with_line place line ss)

-- the section of a name among sections
pub named-here : (name : List ℕ) (s : Section) (ss : List Section) → is_named name s ≡ true → lines_named name (s ∷ ss) ≡ s.lines
named-here name s ss on = rw on refl

pub named-further : (name : List ℕ) (s : Section) (ss : List Section) → is_named name s ≡ false → lines_named name (s ∷ ss) ≡ lines_named name ss
named-further name s ss off = rw off refl

-- ---- pieces of sections are gathered

with_lines : ℕ → List Line → List Section → List Section
with_lines place [] ss = ss
with_lines place (line ∷ ls) ss = with_lines place ls (with_line place line ss)

lines_here : (name : List ℕ) (before ls : List Line) (ss : List Section) → with_lines 0 ls (record { name = name; lines = before } ∷ ss) ≡ record { name = name; lines = before ++ ls } ∷ ss
unfolding with_lines with_line
lines_here name before [] ss = ap (λ (xs : List Line). record { name = name; lines = xs } ∷ ss) (sym (append-nil before))
lines_here name before (line ∷ ls) ss = lines_here name (before ++ line ∷ []) ls ss ∙ ap (λ (xs : List Line). record { name = name; lines = xs } ∷ ss) (append_assoc before (line ∷ []) ls)

lines_there : (place : ℕ) (ls : List Line) (s : Section) (ss : List Section) → with_lines (suc place) ls (s ∷ ss) ≡ s ∷ with_lines place ls ss
unfolding with_lines with_line
lines_there place [] s ss = refl
lines_there place (line ∷ ls) s ss = lines_there place ls s (with_line place line ss)

piece_read : (p : Section) (ss : List Section) → with_lines (place_of p.name ss) p.lines (with_section p.name ss) ≡ with_piece p ss
unfolding with_section with_piece
piece_read p [] = lines_here p.name [] p.lines []
piece_read p (s ∷ ss) = elim (cases_Bool (is_named p.name s)) [
  | inl on ↦ rw on (lines_here s.name s.lines p.lines ss)
  | inr off ↦
      let e : 1 + place_of p.name ss ≡ suc (place_of p.name ss) = omega arith in
      rw off (rw e (lines_there (place_of p.name ss) p.lines s (with_section p.name ss) ∙ ap (λ (xs : List Section). s ∷ xs) (piece_read p ss)))
]

entries_read : (ls : List Line) (place : ℕ) (ss : List Section) (more : List Statement)
    → with_statements (record { sections = ss; place = Some place }) (map Entry ls ++ more) ≡ with_statements (record { sections = with_lines place ls ss; place = Some place }) more
unfolding with_statements with_lines
entries_read [] place ss more = refl
entries_read (line ∷ ls) place ss more = entries_read ls place (with_line place line ss) more

pieces_read : (ps ss : List Section) (place : Option ℕ) → all_sections (with_statements (record { sections = ss; place = place }) (pieces_said ps)) ≡ Ok (gathered ss ps)
unfolding with_statements gathered
pieces_read [] ss place = refl
pieces_read (p ∷ ps) ss place =
    let front : Front = record { sections = ss; place = place } in
    ap (λ (xs : List Statement). all_sections (with_statements front xs)) (flat_map-cons piece p ps)
    ∙ ap all_sections (entries_read p.lines (place_of p.name ss) (with_section p.name ss) (pieces_said ps))
    ∙ ap (λ (xs : List Section). all_sections (with_statements (record { sections = xs; place = Some (place_of p.name ss) }) (pieces_said ps))) (piece_read p ss)
    ∙ pieces_read ps (with_piece p ss) (Some (place_of p.name ss))

pub pieces_are_gathered : (pieces : List Section) → collected (pieces_said pieces) ≡ Ok (gathered [] pieces)
pieces_are_gathered pieces = pieces_read pieces [] None

-- ---- each section comes once

abbrev names : List Section → List (List ℕ)
names ss = map (λ s. s.name) ss

abbrev Apart : List Section → Type 0
Apart ss = IsDistinct is_same (names ss)

name_behind : (m n : List ℕ) (ms : List (List ℕ)) → m ∷ (if list_any (is_same n) ms then ms else ms ++ n ∷ []) ≡ (if list_any (is_same n) ms then m ∷ ms else m ∷ (ms ++ n ∷ []))
name_behind m n ms = elim (cases_Bool (list_any (is_same n) ms)) [ inl on ↦ rw on refl | inr off ↦ rw off refl ]

names-section : (name : List ℕ) (ss : List Section) → names (with_section name ss) ≡ (if list_any (is_same name) (names ss) then names ss else names ss ++ name ∷ [])
unfolding with_section
names-section name [] = refl
names-section name (s ∷ ss) = elim (cases_Bool (is_named name s)) [
  | inl on ↦ rw on refl
  | inr off ↦ rw off (ap (λ (ns : List (List ℕ)). s.name ∷ ns) (names-section name ss) ∙ name_behind s.name name (names ss))
]

section_apart : (name : List ℕ) (ss : List Section) → Apart ss → Apart (with_section name ss)
section_apart name ss h = subst (λ (ns : List (List ℕ)). IsDistinct is_same ns) (sym (names-section name ss)) (elim (cases_Bool (list_any (is_same name) (names ss))) [
  | inl on ↦ rw on h
  | inr off ↦ rw off (IsDistinct-push same_laws (names ss) name h off)
])

names-line : (place : ℕ) (line : Line) (ss : List Section) → names (with_line place line ss) ≡ names ss
unfolding with_line
names-line place line [] = refl
names-line zero line (s ∷ ss) = refl
names-line (suc place) line (s ∷ ss) = ap (λ (ns : List (List ℕ)). s.name ∷ ns) (names-line place line ss)

ok_of : {A B : Type 0} (r : Result A InfRefusal) (f : A → Result B InfRefusal) (y : B) → (r >>= f) ≡ Ok y → (x : A) × (r ≡ Ok x) × (f x ≡ Ok y)
ok_of (Ok x) f y h = (x, refl, h)
ok_of (Err e) f y h = absurd (cc)

entry_apart : (line : Line) (ss : List Section) (place : Option ℕ) (next : Front) → with_entry line ss place ≡ Ok next → Apart ss → Apart next.sections
entry_apart line ss None next e h = absurd (cc)
entry_apart line ss (Some place) next e h = let same : with_line place line ss ≡ next.sections = cc in subst Apart same (subst (λ (ns : List (List ℕ)). IsDistinct is_same ns) (sym (names-line place line ss)) h)

statement_apart : (front next : Front) (said : Statement) → with_statement front said ≡ Ok next → Apart front.sections → Apart next.sections
statement_apart front next Nothing e h = let same : front.sections ≡ next.sections = cc in subst Apart same h
statement_apart front next (Header name) e h = let same : with_section name front.sections ≡ next.sections = cc in subst Apart same (section_apart name front.sections h)
statement_apart front next (Entry line) e h = entry_apart line front.sections front.place next e h

all_apart : (ls : List Joined) (front next : Front) → with_all front ls ≡ Ok next → Apart front.sections → Apart next.sections
unfolding with_all
all_apart [] front next e h = let same : front.sections ≡ next.sections = cc in subst Apart same h
all_apart (line ∷ ls) front next e h =
    let one = ok_of (with_joined front line) (λ (f : Front). with_all f ls) next e in
    let said = ok_of (statement_of line) (with_statement front) one.0 one.1 in
    all_apart ls one.0 next one.2 (statement_apart front one.0 said.0 said.2 h)

pub sections_apart : (bytes : List ℕ) (ss : List Section) → sections_of bytes ≡ Ok ss → IsDistinct is_same (map (λ s. s.name) ss)
unfolding sections_of IsDistinct
sections_apart bytes ss h = elim (cases_Bool (ltb 1048576 (length bytes))) [
  | inl on ↦ let long : ◌≡◌ {A = Result (List Section) InfRefusal} (Err TooLong) (Ok ss) = rw on at h in absurd (cc)
  | inr off ↦
      let short = rw off at h in
      let text = ok_of (characters bytes) (λ (t : List ℕ). sections_of_lines (joined 1 1 [] (lines t))) ss short in
      let front = ok_of (with_all at_first (joined 1 1 [] (lines text.0))) (λ (f : Front). Ok f.sections) ss text.2 in
      let same : front.0.sections ≡ ss = cc (front.2) in
      subst Apart same (all_apart (joined 1 1 [] (lines text.0)) at_first front.0 front.1 tt)
]
