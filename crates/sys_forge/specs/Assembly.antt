-- What it is that bytes are those of a source. (The project's own: docs/ASSEMBLER.md.)
use Rattle.std.specs.Prelude.{ℕ, ◌≡◌, ◌+◌, ◌*◌, ◌≤◌, true, List, [], ◌∷◌, ◌++◌, length, replicate}
use Rattle.std.specs.Str.Lines.{lines}
use Rattle.line_bytes.specs.Pieces.{IsLine}
use Rattle.line_bytes.specs.Refusals.{Why, IsRefusal}
use Rattle.sys_forge.specs.Standing.{has_label, IsSettled}
use Rattle.line_bytes.specs.declared.piece.Tables.{Tables}
use Rattle.line_bytes.specs.declared.piece.Met.{Met}
use Rattle.line_bytes.specs.declared.refused.Refused.{Refused}
use Rattle.line_bytes.specs.declared.refused.Refused.TheVariants as refused
use Rattle.sys_forge.specs.declared.refusal.ForgeRefusal.{ForgeRefusal}
use Rattle.sys_forge.specs.declared.refusal.ForgeRefusal.TheVariants as refusals

abbrev pub none_met : Met
none_met = record { labels = 0; imports = 0 }

-- what it is that a line has its bytes at an address, where so much was met, and what is met behind it
abbrev pub Says : Type 1
Says = Met → ℕ → List ℕ → List ℕ → Met → Type 0

-- lines have bytes, one behind the other from 0x80101000 on, behind so many bytes and what was met
unfoldable pub PutsBy : Says → ℕ → Met → List (List ℕ) → List ℕ → Met → Type 0
PutsBy Line done met [] bytes last = (bytes ≡ []) × (last ≡ met)
PutsBy Line done met (line ∷ ls) bytes last = (piece : List ℕ) × (rest : List ℕ) × (next : Met) × Line met (0x80101000 + done) line piece next × PutsBy Line (done + length piece) next ls rest last × (bytes ≡ piece ++ rest)

abbrev pub Puts : Tables → ℕ → Met → List (List ℕ) → List ℕ → Met → Type 0
Puts t done met ls bytes last = PutsBy (IsLine t) done met ls bytes last

-- each label and each import of the tables was met, and the words stand behind the text
pub record IsWhole (t : Tables) (met : Met) (size : ℕ) : Type 0 where
  pub labels : met.labels ≡ length t.labels
  pub imports : met.imports ≡ length t.imports
  pub words : t.words ≡ 0x80101000 + size

-- the bytes are those of the lines, with the words of the imports behind them, and fit
pub record IsEmitted (t : Tables) (ls : List (List ℕ)) (bytes : List ℕ) : Type 0 where
  pub met : Met
  pub put : Puts t 0 none_met ls bytes met
  pub whole : IsWhole t met (length bytes)
  pub room : length bytes + 4 * length t.imports ≤ 0x3FF000

-- and behind them stands a zero word for each import
pub record IsAssembly (text out : List ℕ) : Type 0 where
  pub tables : Tables
  pub settled : IsSettled text tables
  pub bytes : List ℕ
  pub emitted : IsEmitted tables (lines text) bytes
  pub words : out ≡ bytes ++ replicate (4 * length tables.imports) 0

-- ---- why there are no such bytes

-- a label: a line in front is the same label
abbrev pub IsRepeated : List (List ℕ) → Why
IsRepeated front name refused.OutOfMemory = Unit {0}
IsRepeated front name refused.Line = has_label name front ≡ true
IsRepeated front name refused.Range = ⊥

-- the call of an import: never but for want of memory
abbrev pub IsWanting : Why
IsWanting name refused.OutOfMemory = Unit {0}
IsWanting name refused.Line = ⊥
IsWanting name refused.Range = ⊥

-- the lines in front have their bytes, which fit, and the line has none, where labels stand by the lines in front of them
pub record IsRefusedAt (text : List ℕ) (number : ℕ) (why : Refused) : Type 0 where
  pub tables : Tables
  pub settled : IsSettled text tables
  pub front : List (List ℕ)
  pub line : List ℕ
  pub back : List (List ℕ)
  pub parts : lines text ≡ front ++ line ∷ back
  pub place : number ≡ length front + 1
  pub bytes : List ℕ
  pub met : Met
  pub put : Puts tables 0 none_met front bytes met
  pub room : length bytes + 4 * met.imports ≤ 0x3FF000
  pub refused : IsRefusal (IsRepeated front) IsWanting tables met (length bytes) line why

abbrev pub IsRefusedText : List ℕ → ForgeRefusal → Type 0
IsRefusedText text refusals.OutOfMemory = Unit {0}
IsRefusedText text (refusals.Line n) = IsRefusedAt text n refused.Line
IsRefusedText text (refusals.Range n) = IsRefusedAt text n refused.Range
