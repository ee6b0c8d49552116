-- An INF file as its sections (Windows Driver Kit, "General Syntax Rules for INF Files", "INF File Sections and Directives").
-- A text is the list of its UTF-16 units.
use Rattle.std.specs.Prelude.{ℕ, zero, suc, Bool, false, List, [], ◌∷◌, ◌++◌, Option, None, Some, slice_get, slice_index_or, if◌then◌else◌}
use Rattle.std.specs.List.{find, position, position_or_len}
use Rattle.std.specs.Option.{option_map_or}
use Rattle.inf_text.specs.Names.{is_same}

-- a line: its number in the file (that of its first line, from 1), what stands before `=`, and the values parted by commas
pub record Line : Type 0 where
  pub number : ℕ
  pub key : Option (List ℕ)
  pub values : List (List ℕ)

pub record Section : Type 0 where
  pub name : List ℕ
  pub lines : List Line

abbrev pub is_named : List ℕ → Section → Bool
is_named name s = is_same name s.name

-- the place of the section of a name, from 0
unfoldable pub place_named : List ℕ → List Section → Option ℕ
place_named name sections = position (is_named name) sections

abbrev pub lines_of : Option Section → List Line
lines_of None = []
lines_of (Some s) = s.lines

-- the lines of the section at a place
unfoldable pub lines_at : List Section → ℕ → List Line
lines_at sections place = lines_of (slice_get sections place)

-- the lines of the section of a name, none where there is no such section
abbrev pub lines_named : List ℕ → List Section → List Line
lines_named name sections = lines_of (find (is_named name) sections)

-- whether a line has a key
unfoldable pub has_key : List ℕ → Line → Bool
has_key key line = option_map_or (is_same key) line.key false

-- a value of a line, from 0, empty where there is none
unfoldable pub value_at : ℕ → Line → List ℕ
value_at n line = slice_index_or line.values n []

-- the place of a section, or that behind the last section where there is none
abbrev pub place_of : List ℕ → List Section → ℕ
place_of name sections = position_or_len (is_named name) sections

-- a header: a section that is there goes on, and a new one stands last
unfoldable pub with_section : List ℕ → List Section → List Section
with_section name [] = record { name = name; lines = [] } ∷ []
with_section name (s ∷ ss) = if is_named name s then s ∷ ss else s ∷ with_section name ss

abbrev pub with_last_line : Line → Section → Section
with_last_line line s = record { name = s.name; lines = s.lines ++ line ∷ [] }

-- a line more in the section at a place
unfoldable pub with_line : ℕ → Line → List Section → List Section
with_line place line [] = []
with_line zero line (s ∷ ss) = with_last_line line s ∷ ss
with_line (suc place) line (s ∷ ss) = s ∷ with_line place line ss
