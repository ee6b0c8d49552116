-- Which words of a text hold addresses: where each of these is moved by a distance, the bytes are those of the same lines that much
-- further on. (The project's own; that is what base relocations are for: Microsoft PE/COFF specification, "The .reloc Section".)
use Rattle.std.specs.Prelude.{ℕ, ◌≡◌, ◌+◌, ◌%◌, ◌^◌, Bool, true, false, ◌&&◌, List, [], ◌∷◌, ◌++◌, take, drop, Some, MatchBool}
use Rattle.std.specs.Int.{w32, to_le_bytes}
use Rattle.byteorder.specs.Endian.{little_number}
use Rattle.asm_lines.specs.Arguments.{Argument, Absent, InRegister, Plain, InMemory}
use Rattle.asm_lines.specs.Statements.{Statement}
use Rattle.asm_lines.specs.Lines.{Content, Nothing, Label, Octets, Word, Import, Instruction, line_content}
use Rattle.asm_lines.specs.declared.mnemonic.Mnemonic.{Mnemonic}
use Rattle.asm_lines.specs.declared.mnemonic.Mnemonic.TheVariants as mnemonics
use Rattle.line_bytes.specs.Pieces.{IsPiece}
use Rattle.sys_forge.specs.Assembly.{PutsBy, none_met}
use Rattle.line_bytes.specs.declared.piece.Tables.{Tables}
use Rattle.line_bytes.specs.declared.piece.Met.{Met}

-- ---- jumps

abbrev pub leads_on : Mnemonic → Bool
leads_on (mnemonics.Alone op width) = false
leads_on (mnemonics.On op) = false
leads_on (mnemonics.Shift op) = false
leads_on (mnemonics.DoubleShift by_counter by_number) = false
leads_on mnemonics.Multiply = false
leads_on (mnemonics.Extend from_byte from_word) = false
leads_on (mnemonics.To op) = true

abbrev pub is_plain : Argument → Bool
is_plain Absent = false
is_plain (InRegister r) = false
is_plain (Plain value) = true
is_plain (InMemory width place) = false

-- a jump or call of a value, which is counted from its end
abbrev pub leads : Statement → Bool
leads s = leads_on s.mnemonic && is_plain s.operands.first

abbrev pub is_jump : Content → Bool
is_jump Nothing = false
is_jump (Label name) = false
is_jump (Octets bytes) = false
is_jump (Word value) = false
is_jump (Import name) = false
is_jump (Instruction s) = leads s

-- ---- the same lines further on

-- the bytes of a line that is further on, where labels and words stand by other tables; a jump leads as far as before
abbrev pub IsMovedPiece : Tables → Tables → Met → ℕ → Content → List ℕ → Met → Type 0
IsMovedPiece t moved met at content piece next = MatchBool (is_jump content) (IsPiece t met at content piece next) (IsPiece moved met (at + 0x01010101) content piece next)

pub record IsMovedLine (t moved : Tables) (met : Met) (at : ℕ) (line piece : List ℕ) (next : Met) : Type 0 where
  pub content : Content
  pub says : line_content line ≡ Some content
  pub is : IsMovedPiece t moved met at content piece next

-- lines have bytes further on
pub record IsPutFurther (t moved : Tables) (ls : List (List ℕ)) (bytes : List ℕ) : Type 0 where
  pub met : Met
  pub put : PutsBy (IsMovedLine t moved) 0 none_met ls bytes met

-- ---- words that are moved

-- the first four bytes as a word, moved by the distance, modulo 2^32
abbrev pub word_moved : List ℕ → List ℕ
word_moved bytes = to_le_bytes w32 ((little_number 4 bytes + 0x01010101) % 2 ^ 32)

abbrev pub with_word : (place : ℕ) → List ℕ → List ℕ
with_word place bytes = take place bytes ++ (word_moved (drop place bytes) ++ drop (place + 4) bytes)

-- the words at these places moved
unfoldable pub with_words : (places : List ℕ) → List ℕ → List ℕ
with_words [] bytes = bytes
with_words (place ∷ places) bytes = with_words places (with_word place bytes)

-- the words at these places hold addresses, and no others do: moved, the bytes are those of the lines further on
pub record AreAddresses (t : Tables) (ls : List (List ℕ)) (bytes places : List ℕ) : Type 0 where
  pub moved : Tables
  pub words : moved.words ≡ t.words + 0x01010101
  pub further : IsPutFurther t moved ls (with_words places bytes)
