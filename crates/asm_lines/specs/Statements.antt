-- Instructions in source: an optional prefix, a mnemonic, and operands parted by commas, in the order of Intel SDM volume 2. The
-- project's own (docs/ASSEMBLER.md).
use Rattle.std.specs.Prelude.{ℕ, Bool, true, false, List, [], ◌∷◌, Option, Some, None, if◌then◌else◌, codes}
use Rattle.std.specs.Str.{bytes_eq}
use Rattle.nd_base.specs.Words.{words}
use Rattle.ia32_decode.specs.declared.instruction.Repeat.TheVariants as repeats
use Rattle.asm_lines.specs.Parts.{cut}
use Rattle.asm_lines.specs.Mnemonics.{mnemonic_of}
use Rattle.asm_lines.specs.Arguments.{Argument, Absent, argument_seen, argument_of}
use Rattle.asm_lines.specs.declared.mnemonic.Mnemonic.{Mnemonic}
use Rattle.asm_lines.specs.declared.statement.Prefix.{Prefix}
use Rattle.asm_lines.specs.declared.statement.Operands as operands_code
use Rattle.asm_lines.specs.declared.statement.Statement as statement_code

pub record Operands : Type 0 where
  pub first : Argument
  pub second : Argument
  pub third : Argument

pub record Statement : Type 0 where
  pub prefix : Prefix
  pub mnemonic : Mnemonic
  pub operands : Operands

abbrev pub operands_seen : operands_code.Operands → Operands
operands_seen o = record { first = argument_seen o.first; second = argument_seen o.second; third = argument_seen o.third }

abbrev pub statement_seen : statement_code.Statement → Statement
statement_seen s = record { prefix = s.prefix; mnemonic = s.mnemonic; operands = operands_seen s.operands }

-- ---- prefixes

abbrev pub prefix_of : List ℕ → Option Prefix
prefix_of word =
    if bytes_eq word (codes "lock") then Some (record { lock = true; repeat = repeats.Absent })
    else (if bytes_eq word (codes "rep") then Some (record { lock = false; repeat = repeats.F3 })
    else (if bytes_eq word (codes "repne") then Some (record { lock = false; repeat = repeats.F2 }) else None))

-- ---- operands

abbrev pub three : Argument → Option Argument → Option Argument → Option Operands
three first (Some second) (Some third) = Some (record { first = first; second = second; third = third })
three first second third = None

-- the third, behind the second comma
abbrev pub last_argument : Option (List ℕ) → Option Argument
last_argument None = Some Absent
last_argument (Some text) = argument_of (words text)

-- those behind the first comma
unfoldable pub more_operands : Argument → List ℕ → Option Operands
more_operands first text = three first (argument_of (words (cut 44 text).0)) (last_argument (cut 44 text).1)

abbrev pub and_more : Option Argument → Option (List ℕ) → Option Operands
and_more None behind = None
and_more (Some first) None = three first (Some Absent) (Some Absent)
and_more (Some first) (Some text) = more_operands first text

-- the words behind the mnemonic, and what is behind the first comma
unfoldable pub operands_of : List (List ℕ) → Option (List ℕ) → Option Operands
operands_of [] None = three Absent (Some Absent) (Some Absent)
operands_of [] (Some text) = None
operands_of (word ∷ ws) behind = and_more (argument_of (word ∷ ws)) behind

-- ---- instructions

abbrev pub stated : Prefix → Option Mnemonic → Option Operands → Option Statement
stated prefix (Some mnemonic) (Some operands) = Some (record { prefix = prefix; mnemonic = mnemonic; operands = operands })
stated prefix mnemonic operands = None

unfoldable pub operation : Prefix → List ℕ → List (List ℕ) → Option (List ℕ) → Option Statement
operation prefix name ws behind = stated prefix (mnemonic_of name) (operands_of ws behind)

abbrev pub behind_prefix : Option Prefix → List ℕ → List (List ℕ) → Option (List ℕ) → Option Statement
behind_prefix None name ws behind = operation (record { lock = false; repeat = repeats.Absent }) name ws behind
behind_prefix (Some prefix) word [] behind = None
behind_prefix (Some prefix) word (name ∷ ws) behind = operation prefix name ws behind

-- the words in front of the first comma, and what is behind it
unfoldable pub statement_of : List (List ℕ) → Option (List ℕ) → Option Statement
statement_of [] behind = None
statement_of (word ∷ ws) behind = behind_prefix (prefix_of word) word ws behind
