-- Where the labels and the words of the imports of a source stand. (The project's own: docs/ASSEMBLER.md.)
use Rattle.std.specs.Prelude.{ℕ, ◌≡◌, ◌+◌, nat_le, Bool, false, ◌||◌, List, [], ◌∷◌, Option, Some, None, if◌then◌else◌}
use Rattle.std.specs.Str.{bytes_eq}
use Rattle.std.specs.Str.Lines.{lines}
use Rattle.asm_lines.specs.Lines.{Content, Nothing, Label, Octets, Word, Import, Instruction, line_content}
use Rattle.line_bytes.specs.Tables.{Rows, with_row}
use Rattle.line_bytes.specs.Made.{IsMadeIn, size_in}
use Rattle.line_bytes.specs.declared.made.Made.{Made}
use Rattle.line_bytes.specs.declared.piece.Tables.{Tables}

-- ---- labels

abbrev pub is_label : List ℕ → Option Content → Bool
is_label name None = false
is_label name (Some Nothing) = false
is_label name (Some (Label other)) = bytes_eq name other
is_label name (Some (Octets bytes)) = false
is_label name (Some (Word value)) = false
is_label name (Some (Import other)) = false
is_label name (Some (Instruction s)) = false

-- one of the lines is the label
unfoldable pub has_label : List ℕ → List (List ℕ) → Bool
has_label name [] = false
has_label name (line ∷ ls) = is_label name (line_content line) || has_label name ls

-- ---- what stands in front of a line

-- the label of a line stands at the address; one that is there keeps its own
unfoldable pub labels_with : Rows → ℕ → Option Content → Rows
labels_with rows at None = rows
labels_with rows at (Some Nothing) = rows
labels_with rows at (Some (Label name)) = with_row rows name at
labels_with rows at (Some (Octets bytes)) = rows
labels_with rows at (Some (Word value)) = rows
labels_with rows at (Some (Import name)) = rows
labels_with rows at (Some (Instruction s)) = rows

-- the imports in the order of first use
unfoldable pub imports_with : Rows → Option Content → Rows
imports_with rows None = rows
imports_with rows (Some Nothing) = rows
imports_with rows (Some (Label name)) = rows
imports_with rows (Some (Octets bytes)) = rows
imports_with rows (Some (Word value)) = rows
imports_with rows (Some (Import name)) = with_row rows name 0
imports_with rows (Some (Instruction s)) = rows

-- the address behind so many bytes; a line that takes the text past 0x3FF000 bytes is refused, and counts as none
unfoldable pub behind : ℕ → ℕ → ℕ
behind at size = if nat_le (at + size) 0x80500000 then at + size else at

-- what stands behind a line: its words would stand there
unfoldable pub past : Tables → Option Content → Option Made → Tables
past t content m = record {
  labels = labels_with t.labels t.words content;
  imports = imports_with t.imports content;
  words = behind t.words (size_in content m);
}

abbrev pub none_laid : Tables
none_laid = record { labels = []; imports = []; words = 0x80101000 }

-- one line behind the other
unfoldable pub laid : Tables → List (List ℕ) → List (Option Made) → Tables
laid t [] ms = t
laid t (line ∷ ls) [] = t
laid t (line ∷ ls) (m ∷ ms) = laid (past t (line_content line) m) ls ms

-- what the instructions of the lines are as bytes, wherever labels stand
unfoldable pub AreMade : List (List ℕ) → List (Option Made) → Type 0
AreMade [] [] = Unit {0}
AreMade [] (m ∷ ms) = ⊥
AreMade (line ∷ ls) [] = ⊥
AreMade (line ∷ ls) (m ∷ ms) = IsMadeIn (line_content line) m × AreMade ls ms

-- each label stands where the lines in front of it have so many bytes, and the words stand behind the last line
pub record IsSettled (text : List ℕ) (t : Tables) : Type 0 where
  pub made : List (Option Made)
  pub are : AreMade (lines text) made
  pub is : t ≡ laid none_laid (lines text) made
