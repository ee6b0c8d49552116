-- Lines of source. The project's own (docs/ASSEMBLER.md): blank, or a comment that begins with `#`; a label `NAME:`; data `db HEX` or
-- `dd VALUE`; `call @IMPORT`; or an instruction.
use Rattle.std.specs.Prelude.{ℕ, Bool, true, ◌&&◌, ◌==◌, List, [], ◌∷◌, Option, Some, None, if◌then◌else◌, codes, slice_index}
use Rattle.std.specs.Str.{bytes_eq}
use Rattle.nd_base.specs.Words.{words}
use Rattle.asm_lines.specs.Parts.{cut}
use Rattle.asm_lines.specs.Values.{Value, value_seen, value_of, is_label, is_name, are_octets, octets_of}
use Rattle.asm_lines.specs.Statements.{Statement, statement_seen, statement_of}
use Rattle.asm_lines.specs.declared.line.Content as content_code
use Rattle.asm_lines.specs.declared.line.Content.TheVariants as contents

pub data Content : Type 0 where
  Nothing : Content
  Label : List ℕ → Content
  Octets : List ℕ → Content
  Word : Value → Content
  Import : List ℕ → Content
  Instruction : Statement → Content

abbrev pub content_seen : content_code.Content → Content
content_seen contents.Nothing = Nothing
content_seen (contents.Label name) = Label name.now
content_seen (contents.Octets digits) = Octets (octets_of digits.now)
content_seen (contents.Word value) = Word (value_seen value)
content_seen (contents.Import name) = Import name.now
content_seen (contents.Instruction statement) = Instruction (statement_seen statement)

-- ---- labels, data and calls of imports

abbrev pub named : List ℕ × Option (List ℕ) → Option (List ℕ)
named (name, Some []) = if is_label name then Some name else None
named (name, behind) = None

unfoldable pub label_in : List ℕ → Option (List ℕ)
label_in word = named (cut 58 word)

unfoldable pub import_in : List ℕ → Option (List ℕ)
import_in [] = None
import_in (b ∷ bs) = if (b == 64) && is_name bs then Some bs else None

abbrev pub as_label : Option (List ℕ) → Option Content
as_label None = None
as_label (Some name) = Some (Label name)

abbrev pub as_word : Option Value → Option Content
as_word None = None
as_word (Some value) = Some (Word value)

abbrev pub as_import : Option (List ℕ) → Option Content
as_import None = None
as_import (Some name) = Some (Import name)

unfoldable pub two_words : List ℕ → List ℕ → Option Content
two_words first second =
    if bytes_eq first (codes "db") && are_octets second then Some (Octets (octets_of second))
    else (if bytes_eq first (codes "dd") then as_word (value_of second)
    else (if bytes_eq first (codes "call") then as_import (import_in second) else None))

unfoldable pub few_words : List (List ℕ) → Option Content
few_words (word ∷ []) = as_label (label_in word)
few_words (first ∷ second ∷ []) = two_words first second
few_words ws = None

-- ---- lines

abbrev pub as_instruction : Option Statement → Option Content
as_instruction None = None
as_instruction (Some statement) = Some (Instruction statement)

abbrev pub or_instruction : Option Content → Option Statement → Option Content
or_instruction (Some content) statement = Some content
or_instruction None statement = as_instruction statement

-- the words in front of the first comma, of which there are some, and what is behind it
unfoldable pub content_of : List (List ℕ) → Option (List ℕ) → Option Content
content_of ws None = or_instruction (few_words ws) (statement_of ws None)
content_of ws (Some text) = as_instruction (statement_of ws (Some text))

abbrev pub by_words : List (List ℕ) → Option (List ℕ) → Option Content
by_words [] None = Some Nothing
by_words [] (Some text) = None
by_words (word ∷ ws) behind = content_of (word ∷ ws) behind

-- what a line says: none where it is no line of source
unfoldable pub line_content : List ℕ → Option Content
line_content line = if slice_index line 0 == 35 then Some Nothing else by_words (words (cut 44 line).0) (cut 44 line).1
