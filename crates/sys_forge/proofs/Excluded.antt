-- What has bytes behind lines is not refused there.
use Rattle.std.proofs.Common.{◌≡◌, ℕ, ◌+◌, ◌<◌, ◌≤◌, true, List, [], ◌∷◌, length, Option, None, Some, refl, sym, ap, subst, ◌∙◌, ⊎_elim, arith}
use Rattle.std.proofs.lemmas.Bool.{false≢true, or_cases}
use Rattle.std.proofs.lemmas.Slice.Eq.{bytes_eq-Decides}
use Rattle.asm_lines.specs.Lines.{Content, Nothing, Label, Octets, Word, Import, Instruction, line_content}
use Rattle.line_bytes.specs.Tables.{row_of}
use Rattle.line_bytes.specs.Pieces.{IsPiece, IsLine}
use Rattle.line_bytes.specs.Refusals.{IsBadContent, IsBadIn}
use Rattle.line_bytes.specs.Excluding.{BytesExcludeRefusal}
use Rattle.line_bytes.specs.declared.piece.Tables.{Tables}
use Rattle.line_bytes.specs.declared.piece.Met.{Met}
use Rattle.line_bytes.specs.declared.refused.Refused.{Refused}
use Rattle.line_bytes.specs.declared.refused.Refused.TheVariants as refused
use Rattle.sys_forge.specs.Standing.{is_label, has_label}
use Rattle.sys_forge.specs.Assembly.{PutsBy, Puts, none_met, IsRepeated, IsWanting}

-- ---- labels that were met

piece-grows : (t : Tables) (met : Met) (at : ℕ) (content : Content) (piece : List ℕ) (next : Met) → IsPiece t met at content piece next → met.labels ≤ next.labels
piece-grows t met at Nothing piece next h = omega (arith, ap (λ (m : Met). m.labels) h.1)
piece-grows t met at (Label name) piece next h = omega (arith, h.labels)
piece-grows t met at (Octets bytes) piece next h = omega (arith, ap (λ (m : Met). m.labels) h.1)
piece-grows t met at (Word value) piece next h = omega (arith, ap (λ (m : Met). m.labels) h.1)
piece-grows t met at (Import name) piece next h = omega (arith, h.1)
piece-grows t met at (Instruction s) piece next h = omega (arith, ap (λ (m : Met). m.labels) h.1)

grows : (t : Tables) (done : ℕ) (met : Met) (ls : List (List ℕ)) (bytes : List ℕ) (last : Met) → Puts t done met ls bytes last → met.labels ≤ last.labels
unfolding PutsBy
grows t done met [] bytes last h = omega (arith, ap (λ (m : Met). m.labels) h.1)
grows t done met (line ∷ ls) bytes last h =
    let here = piece-grows t met (0x80101000 + done) h.3.content h.0 h.2 h.3.is in
    let later = grows t (done + length h.0) h.2 ls h.1 last h.4 in
    omega (arith, here, later)

-- a label in front of those that come next
record IsBefore (t : Tables) (count : ℕ) (name : List ℕ) : Type 0 where
  place : ℕ
  at : ℕ
  row : row_of t.labels name ≡ Some (place, at)
  low : place < count

label-here : (t : Tables) (met : Met) (at : ℕ) (content : Content) (piece : List ℕ) (next : Met) (name : List ℕ) → IsPiece t met at content piece next → is_label name (Some content) ≡ true → IsBefore t next.labels name
label-here t met at Nothing piece next name h e = absurd (false≢true e)
label-here t met at (Label other) piece next name h e =
    let same : name ≡ other = (bytes_eq-Decides name other).0 e in
    record { place = met.labels; at = at; row = ap (λ (n : List ℕ). row_of t.labels n) same ∙ h.row; low = omega (arith, h.labels) }
label-here t met at (Octets bytes) piece next name h e = absurd (false≢true e)
label-here t met at (Word value) piece next name h e = absurd (false≢true e)
label-here t met at (Import other) piece next name h e = absurd (false≢true e)
label-here t met at (Instruction s) piece next name h e = absurd (false≢true e)

before-later : (t : Tables) (count most : ℕ) (name : List ℕ) → IsBefore t count name → count ≤ most → IsBefore t most name
before-later t count most name b h = record { place = b.place; at = b.at; row = b.row; low = omega (arith, b.low, h) }

label-before : (t : Tables) (done : ℕ) (met : Met) (ls : List (List ℕ)) (bytes : List ℕ) (last : Met) (name : List ℕ) → Puts t done met ls bytes last → has_label name ls ≡ true → IsBefore t last.labels name
unfolding PutsBy has_label
label-before t done met [] bytes last name h e = absurd (false≢true e)
label-before t done met (line ∷ ls) bytes last name h e =
    ⊎_elim
    (λ l. before-later t h.2.labels last.labels name (label-here t met (0x80101000 + done) h.3.content h.0 h.2 name h.3.is (ap (is_label name) (sym h.3.says) ∙ l)) (grows t (done + length h.0) h.2 ls h.1 last h.4))
    (λ r. label-before t (done + length h.0) h.2 ls h.1 last name h.4 r)
    (or_cases (is_label name (line_content line)) (has_label name ls) e)

abbrev place_in : Option (ℕ × ℕ) → ℕ
place_in None = 0
place_in (Some r) = r.0

not-before : (t : Tables) (count at : ℕ) (name : List ℕ) → row_of t.labels name ≡ Some (count, at) → IsBefore t count name → ⊥
not-before t count at name row b =
    let same : count ≡ b.place = ap place_in (sym row ∙ b.row) in
    omega (arith, same, b.low)

-- ---- the line

content-not : BytesExcludeRefusal → (t : Tables) (front : List (List ℕ)) (bytes : List ℕ) (met : Met) (at : ℕ) (content : Content) (piece : List ℕ) (next : Met) (why : Refused)
    → Puts t 0 none_met front bytes met → IsPiece t met at content piece next → IsBadContent (IsRepeated front) IsWanting t at content why → why ≡ refused.OutOfMemory
content-not law t front bytes met at content piece next refused.OutOfMemory p is h = refl
content-not law t front bytes met at Nothing piece next refused.Line p is h = absurd h
content-not law t front bytes met at Nothing piece next refused.Range p is h = absurd h
content-not law t front bytes met at (Octets bs) piece next refused.Line p is h = absurd h
content-not law t front bytes met at (Octets bs) piece next refused.Range p is h = absurd h
content-not law t front bytes met at (Label name) piece next refused.Line p is h = absurd (not-before t met.labels at name is.row (label-before t 0 none_met front bytes met name p h))
content-not law t front bytes met at (Label name) piece next refused.Range p is h = absurd h
content-not law t front bytes met at (Import name) piece next refused.Line p is h = absurd h
content-not law t front bytes met at (Import name) piece next refused.Range p is h = absurd h
content-not law t front bytes met at (Word value) piece next refused.Line p is h = law t met at (Word value) piece next refused.Line is h
content-not law t front bytes met at (Word value) piece next refused.Range p is h = law t met at (Word value) piece next refused.Range is h
content-not law t front bytes met at (Instruction s) piece next refused.Line p is h = law t met at (Instruction s) piece next refused.Line is h
content-not law t front bytes met at (Instruction s) piece next refused.Range p is h = law t met at (Instruction s) piece next refused.Range is h

some-not : (front : List (List ℕ)) (t : Tables) (at : ℕ) (content : Content) (why : Refused) → IsBadIn (IsRepeated front) IsWanting t at (Some content) why → IsBadContent (IsRepeated front) IsWanting t at content why
some-not front t at content why h = h

pub lines_exclude : BytesExcludeRefusal → (t : Tables) (front : List (List ℕ)) (bytes : List ℕ) (met : Met) (line piece : List ℕ) (next : Met) (why : Refused)
    → Puts t 0 none_met front bytes met → IsLine t met (0x80101000 + length bytes) line piece next → IsBadIn (IsRepeated front) IsWanting t (0x80101000 + length bytes) (line_content line) why → why ≡ refused.OutOfMemory
lines_exclude law t front bytes met line piece next why p l h =
    content-not law t front bytes met (0x80101000 + length bytes) l.content piece next why p l.is (some-not front t (0x80101000 + length bytes) l.content why (subst (λ c. IsBadIn (IsRepeated front) IsWanting t (0x80101000 + length bytes) c why) l.says h))
