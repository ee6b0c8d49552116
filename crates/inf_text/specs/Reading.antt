-- What the bytes of an INF file say (Windows Driver Kit, "General Syntax Rules for INF Files"): its sections, or its first fault.
use Rattle.std.specs.Prelude.{ℕ, ◌<◌, ◌==◌, nat_lt, false, List, [], ◌∷◌, ◌++◌, length, map, Option, Some, None, Result, Ok, Err, if◌then◌else◌}
use Rattle.std.specs.Str.Lines.{lines}
use Rattle.std.specs.List.{flat_map}
use Rattle.inf_text.specs.declared.joining.Joined.{Joined}
use Rattle.inf_text.specs.declared.statement.Statement.{Statement}
use Rattle.inf_text.specs.declared.statement.Statement.TheVariants.{Nothing, Header, Entry}
use Rattle.inf_text.specs.declared.refusal.InfRefusal.{InfRefusal}
use Rattle.inf_text.specs.declared.refusal.InfRefusal.TheVariants.{TooLong, Line as BadLine}
use Rattle.nd_base.specs.Results.{◌>>=◌}
use Rattle.inf_text.specs.Sections.{Line, Section, is_named, place_of, with_section, with_line}
use Rattle.inf_text.specs.Characters.{characters}
use Rattle.inf_text.specs.Quotes.{is_open, trimmed_start, value, cut, key_cut, values}
use Rattle.inf_text.specs.Joining.{joined}

-- ---- what each line says

-- a header with what stands in front of its `]` and behind it
abbrev pub header : ℕ → Option (List ℕ × List ℕ) → Result Statement InfRefusal
header n None = Err (BadLine n)
header n (Some x) = Ok (Header (value x.0))

-- the line of characters, of which an `=` may part a key
abbrev pub entry : ℕ → List ℕ → Option (List ℕ × List ℕ) → Line
entry n cs None = record { number = n; key = None; values = values cs }
entry n cs (Some x) = record { number = n; key = Some (value x.0); values = values x.1 }

-- a line of the number n without the blanks in front: one of blanks alone says nothing, and quotes that stay open are a fault of any other
abbrev pub statement : ℕ → List ℕ → Result Statement InfRefusal
statement n [] = Ok Nothing
statement n (c ∷ cs) =
    if is_open false (c ∷ cs) then Err (BadLine n)
    else if c == 91 then header n (cut 93 cs)
    else Ok (Entry (entry n (c ∷ cs) (key_cut (c ∷ cs))))

abbrev pub statement_of : Joined → Result Statement InfRefusal
statement_of line = statement line.number (trimmed_start line.text)

-- ---- the sections that lines make

-- the sections of the lines so far, and the place of the one whose header came last
pub record Front : Type 0 where
  pub sections : List Section
  pub place : Option ℕ

abbrev pub at_first : Front
at_first = record { sections = []; place = None }

-- a line belongs to the section of the last header
abbrev pub with_entry : Line → List Section → Option ℕ → Result Front InfRefusal
with_entry line sections None = Err (BadLine line.number)
with_entry line sections (Some place) = Ok (record { sections = with_line place line sections; place = Some place })

abbrev pub with_statement : Front → Statement → Result Front InfRefusal
with_statement front Nothing = Ok front
with_statement front (Header name) = Ok (record { sections = with_section name front.sections; place = Some (place_of name front.sections) })
with_statement front (Entry line) = with_entry line front.sections front.place

unfoldable pub with_statements : Front → List Statement → Result Front InfRefusal
with_statements front [] = Ok front
with_statements front (s ∷ ss) = do
  next ← with_statement front s
  with_statements next ss

abbrev pub all_sections : Result Front InfRefusal → Result (List Section) InfRefusal
all_sections r = r >>= λ front. Ok front.sections

-- the sections that statements make
abbrev pub collected : List Statement → Result (List Section) InfRefusal
collected ss = all_sections (with_statements at_first ss)

-- the sections of pieces, of which several may have one name: the lines of a piece stand behind those of the section of its name, and
-- a new section stands last
unfoldable pub with_piece : Section → List Section → List Section
with_piece p [] = p ∷ []
with_piece p (s ∷ ss) = if is_named p.name s then record { name = s.name; lines = s.lines ++ p.lines } ∷ ss else s ∷ with_piece p ss

unfoldable pub gathered : List Section → List Section → List Section
gathered ss [] = ss
gathered ss (p ∷ ps) = gathered (with_piece p ss) ps

-- what the lines of pieces say
abbrev pub piece : Section → List Statement
piece p = Header p.name ∷ map Entry p.lines

abbrev pub pieces_said : List Section → List Statement
pieces_said ps = flat_map piece ps

-- ---- the bytes of a file

abbrev pub with_joined : Front → Joined → Result Front InfRefusal
with_joined front line = do
  said ← statement_of line
  with_statement front said

-- the first bad line decides
unfoldable pub with_all : Front → List Joined → Result Front InfRefusal
with_all front [] = Ok front
with_all front (line ∷ ls) = do
  next ← with_joined front line
  with_all next ls

abbrev pub sections_of_lines : List Joined → Result (List Section) InfRefusal
sections_of_lines ls = all_sections (with_all at_first ls)

unfoldable pub sections_of : List ℕ → Result (List Section) InfRefusal
sections_of bytes = if nat_lt 1048576 (length bytes) then Err TooLong else do
  text ← characters bytes
  sections_of_lines (joined 1 1 [] (lines text))

-- the place is that of a section
abbrev pub IsWithin : Option ℕ → List Section → Type 0
IsWithin None sections = Unit {0}
IsWithin (Some place) sections = place < length sections
