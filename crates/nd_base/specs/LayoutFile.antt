-- What a layout file says, and what its first fault is. It is text of at most 65,536 bytes in lines that end with LF or CRLF. A line
-- of blanks, or one that begins with #, says nothing. Each other line is `name = number`: it states where a field begins, in bytes
-- from its object's start. Each of the 31 fields is stated once, lies in its object, and shares no byte with another one there.
-- A field is named by its place in the table of specs/Layout.antt, from 0. (The format is this project's own; the objects and fields
-- are those of ndis.h and, for buffers, of the MDL of wdm.h in the Windows DDK.)
use Rattle.std.specs.Prelude.{codes, ◌≡◌, ◌≢◌, ℕ, ◌+◌, ◌<◌, ◌≤◌, List, [], ◌∷◌, ◌++◌, length, slice_index, slice_index_or, ◌⊎◌}
use Rattle.std.specs.List.{flat_map}
use Rattle.std.specs.Fmt.{decimal}
use Rattle.std.specs.Str.Lines.{lines}
use Rattle.nd_base.specs.declared.layout.LayoutRefusal.{LayoutRefusal}
use Rattle.nd_base.specs.declared.layout.LayoutRefusal.TheVariants.{TooLong, Line, UnknownName, Repeated, Missing, Overlap}
use Rattle.nd_base.specs.Layout.{limit, row, rows, Row}
use Rattle.nd_base.specs.Words.{words, IsComment, SaysNothing, IsDecimal, decimal_value}

-- three words: a name, = and a decimal number
pub record Says (line name number : List ℕ) : Type 0 where
  pub no_comment : IsComment line → ⊥
  pub words_are : words line ≡ name ∷ codes "=" ∷ number ∷ []
  pub decimal : IsDecimal number

-- the line states that the field at place i begins at byte n, and with its width the field lies in its object
abbrev pub States : List ℕ → ℕ → ℕ → Type 0
States line i n = (i < 31) × ((number : List ℕ) × Says line (row i).name number × (n ≡ decimal_value number)) × (n + (row i).width ≤ limit (row i).object)

abbrev pub NamesNoField : List ℕ → Type 0
NamesNoField line = (name : List ℕ) × (number : List ℕ) × Says line name number × ((i : ℕ) → i < 31 → name ≢ (row i).name)

-- the form or the number is wrong: the line is none of those above
pub record IsBad (line : List ℕ) : Type 0 where
  pub not_nothing : SaysNothing line → ⊥
  pub no_offset : (i n : ℕ) → States line i n → ⊥
  pub no_unknown : NamesNoField line → ⊥

-- the line at a place, from 0
abbrev pub line_at : List (List ℕ) → ℕ → List ℕ
line_at ls k = slice_index_or ls k []

-- one of the first k lines states the field at place i
abbrev pub IsStated : List (List ℕ) → ℕ → ℕ → ℕ → Type 0
IsStated ls k i n = (j : ℕ) × (j < k) × States (line_at ls j) i n

-- the line at place k says nothing, or states a field that no line in front of it states
abbrev pub IsGood : List (List ℕ) → ℕ → Type 0
IsGood ls k = SaysNothing (line_at ls k) ⊎ ((i : ℕ) × (n : ℕ) × States (line_at ls k) i n × ((m : ℕ) → IsStated ls k i m → ⊥))

-- the first k lines
abbrev pub AreGood : List (List ℕ) → ℕ → Type 0
AreGood ls k = (j : ℕ) → j < k → IsGood ls j

-- the lines state these offsets, in the order of the fields
pub record LinesState (ls : List (List ℕ)) (offsets : List ℕ) : Type 0 where
  pub good : AreGood ls (length ls)
  pub fields : length offsets ≡ 31
  pub stated : (i : ℕ) → i < 31 → IsStated ls (length ls) i (slice_index offsets i)

abbrev pub IsByteOf : List ℕ → ℕ → ℕ → Type 0
IsByteOf offsets i b = (slice_index offsets i ≤ b) × (b < slice_index offsets i + (row i).width)

-- two fields of one object
abbrev pub ShareAByte : List ℕ → ℕ → ℕ → Type 0
ShareAByte offsets i j = ((row i).object ≡ (row j).object) × ((b : ℕ) × IsByteOf offsets i b × IsByteOf offsets j b)

abbrev pub AreApart : List ℕ → Type 0
AreApart offsets = (i j : ℕ) → i < j → j < 31 → ShareAByte offsets i j → ⊥

-- each field lies in its object, and shares no byte with another one there
pub record AreSound (offsets : List ℕ) : Type 0 where
  pub fields : length offsets ≡ 31
  pub inside : (i : ℕ) → i < 31 → slice_index offsets i + (row i).width ≤ limit (row i).object
  pub apart : AreApart offsets

-- the text is a layout file of these offsets
abbrev pub IsLayout : List ℕ → List ℕ → Type 0
IsLayout text offsets = (length text ≤ 65536) × LinesState (lines text) offsets × AreApart offsets

-- of the pairs that share a byte the one whose first field is earliest, and then its second
pub record IsFirstPair (offsets : List ℕ) (i j : ℕ) : Type 0 where
  pub ordered : i < j
  pub small : j < 31
  pub shared : ShareAByte offsets i j
  pub first : (a b : ℕ) → a < b → b < 31 → ShareAByte offsets a b → (i < a) ⊎ ((i ≡ a) × (j ≤ b))

-- all lines are good, and the field at place i is the first that none states
pub record IsMissing (ls : List (List ℕ)) (i : ℕ) : Type 0 where
  pub good : AreGood ls (length ls)
  pub small : i < 31
  pub missing : (n : ℕ) → IsStated ls (length ls) i n → ⊥
  pub first : (j : ℕ) → j < i → (n : ℕ) × IsStated ls (length ls) j n

-- the line of this number, from 1, is at fault as Fault says, and all lines in front of it are good
abbrev pub FaultAt : List (List ℕ) → ℕ → (ℕ → Type 0) → Type 0
FaultAt ls number Fault = (k : ℕ) × (number ≡ k + 1) × (k < length ls) × AreGood ls k × Fault k

-- the first fault of the lines
abbrev pub AreRefused : List (List ℕ) → LayoutRefusal → Type 0
AreRefused ls TooLong = ⊥
AreRefused ls (Line number) = FaultAt ls number (λ k. IsBad (line_at ls k))
AreRefused ls (UnknownName number) = FaultAt ls number (λ k. NamesNoField (line_at ls k))
AreRefused ls (Repeated number) = FaultAt ls number (λ k. (i : ℕ) × (n : ℕ) × (m : ℕ) × States (line_at ls k) i n × IsStated ls k i m)
AreRefused ls (Missing field) = (i : ℕ) × (field ≡ (row i).field) × IsMissing ls i
AreRefused ls (Overlap first second) = (offsets : List ℕ) × (i : ℕ) × (j : ℕ) × (first ≡ (row i).field) × (second ≡ (row j).field) × LinesState ls offsets × IsFirstPair offsets i j

-- the first fault of the text
abbrev pub IsRefused : List ℕ → LayoutRefusal → Type 0
IsRefused text TooLong = 65536 < length text
IsRefused text e = (length text ≤ 65536) × AreRefused (lines text) e

-- the usual offsets as a file, a line for each field in their order
unfoldable pub usual_text : List ℕ
usual_text = flat_map (λ (r : Row). r.name ++ (codes " = " ++ (decimal r.offset ++ (10 ∷ [])))) rows
