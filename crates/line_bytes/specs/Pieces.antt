-- The bytes of lines. (The project's own: docs/ASSEMBLER.md.)
use Rattle.std.specs.Prelude.{ℕ, ◌≡◌, ◌+◌, ◌*◌, ◌≤◌, ◌<◌, ◌^◌, ◌==◌, true, false, List, [], ◌∷◌, length, MatchBool, ◌++◌, Some, if◌then◌else◌}
use Rattle.std.specs.Int.{w32, to_le_bytes}
use Rattle.asm_lines.specs.Values.{Value}
use Rattle.asm_lines.specs.Statements.{Statement}
use Rattle.asm_lines.specs.Lines.{Content, Nothing, Label, Octets, Word, Import, Instruction, line_content}
use Rattle.asm_encode.specs.Operations.{form_of, instruction_of}
use Rattle.asm_encode.specs.Jumps.{jump_of, jump_length, displacement, fits_in, jump_bytes}
use Rattle.asm_encode.specs.Templates.{AreWords, filled, IsChosenTemplate}
use Rattle.asm_encode.specs.declared.operation.Operation.{Operation}
use Rattle.asm_encode.specs.declared.forms.Form.{Form}
use Rattle.asm_encode.specs.declared.jumps.Jump.{Jump}
use Rattle.asm_encode.specs.declared.templates.Template.{Template}
use Rattle.ia32_decode.specs.Decoding.{Spells}
use Rattle.ia32_fields.specs.Calls.{call_through}
use Rattle.ia32_fields.specs.Jumps.{jump as jump_to}
use Rattle.line_bytes.specs.Tables.{Rows, row_of}
use Rattle.line_bytes.specs.Numbers.{Numbered, numbered, number_of, number_or_0, term_of}
use Rattle.line_bytes.specs.Made.{has_prefix}
use Rattle.line_bytes.specs.declared.piece.Tables.{Tables}
use Rattle.line_bytes.specs.declared.piece.Met.{Met}

-- something that is such was put behind the old bytes
pub record Adds (old new : List ℕ) (Is : List ℕ → Type 0) : Type 0 where
  pub piece : List ℕ
  pub parts : new ≡ old ++ piece
  pub is : Is piece

-- ---- the bytes of what a line says

-- a value of four bytes
pub record IsWord (labels : Rows) (value : Value) (piece : List ℕ) : Type 0 where
  pub number : ℕ
  pub is : number_of labels value ≡ Some number
  pub fits : number < 2 ^ 32
  pub bytes : piece ≡ to_le_bytes w32 number

-- the bytes of a jump at an address: its opcode and the displacement from its end, and they spell it
pub record IsJumped (o : Operation) (form : Form) (target at : ℕ) (piece : List ℕ) : Type 0 where
  pub jump : Jump
  pub is : jump_of form.op ≡ Some jump
  pub plain : has_prefix o.prefix ≡ false
  pub small : target < 2 ^ 32
  pub fits : fits_in jump (displacement target (at + jump_length jump)) ≡ true
  pub bytes : piece ≡ jump_bytes jump (displacement target (at + jump_length jump))
  pub spelled : Spells piece (jump_to form.op (displacement target (at + length piece)))

-- bytes that spell an operation of a form, with numbers of four bytes
pub record IsSpelled (o : Operation) (form : Form) (value offset : ℕ) (piece : List ℕ) : Type 0 where
  pub small : AreWords value offset
  pub spelled : Spells piece (instruction_of o form value offset)

-- the bytes of an operation of a form at an address
abbrev pub IsFormed : Operation → Form → ℕ → ℕ → ℕ → List ℕ → Type 0
IsFormed o form value offset at piece = MatchBool form.is_jump (IsJumped o form value at piece) (IsSpelled o form value offset piece)

-- no jump: they are those of its template
pub record IsFilled (n : Numbered) (form : Form) (value offset : ℕ) (piece : List ℕ) : Type 0 where
  pub template : Template
  pub chosen : IsChosenTemplate n.operation form (term_of n.value) (term_of n.offset) template
  pub bytes : piece ≡ filled template value offset

-- the bytes of an instruction at an address: they spell it, with the addresses of its labels
pub record IsStated (labels : Rows) (statement : Statement) (at : ℕ) (piece : List ℕ) : Type 0 where
  pub numbers : Numbered
  pub is : numbered statement ≡ Some numbers
  pub value : ℕ
  pub value_is : number_or_0 labels numbers.value ≡ Some value
  pub offset : ℕ
  pub offset_is : number_or_0 labels numbers.offset ≡ Some offset
  pub form : Form
  pub form_is : form_of numbers.operation ≡ Some form
  pub formed : IsFormed numbers.operation form value offset at piece
  pub filled : MatchBool form.is_jump (Unit {0}) (IsFilled numbers form value offset piece)

-- a call through the word of an import; a new import's word is behind those that were met
pub record IsCall (t : Tables) (met : ℕ) (name piece : List ℕ) (next : ℕ) : Type 0 where
  pub place : ℕ
  pub number : ℕ
  pub row : row_of t.imports name ≡ Some (place, number)
  pub known : place ≤ met
  pub bytes : piece ≡ 0xFF ∷ 0x15 ∷ to_le_bytes w32 (t.words + 4 * place)
  pub spelled : Spells piece (call_through (t.words + 4 * place))
  pub count : next ≡ (if place == met then met + 1 else met)

-- a label stands where the table says, and is the next one there: none before it has its name
pub record IsPlaced (t : Tables) (met : Met) (at : ℕ) (name piece : List ℕ) (next : Met) : Type 0 where
  pub none : piece ≡ []
  pub row : row_of t.labels name ≡ Some (met.labels, at)
  pub labels : next.labels ≡ met.labels + 1
  pub imports : next.imports ≡ met.imports

abbrev pub IsPiece : Tables → Met → ℕ → Content → List ℕ → Met → Type 0
IsPiece t met at Nothing piece next = (piece ≡ []) × (next ≡ met)
IsPiece t met at (Label name) piece next = IsPlaced t met at name piece next
IsPiece t met at (Octets bytes) piece next = (piece ≡ bytes) × (next ≡ met)
IsPiece t met at (Word value) piece next = IsWord t.labels value piece × (next ≡ met)
IsPiece t met at (Import name) piece next = IsCall t met.imports name piece next.imports × (next.labels ≡ met.labels)
IsPiece t met at (Instruction statement) piece next = IsStated t.labels statement at piece × (next ≡ met)

pub record IsLine (t : Tables) (met : Met) (at : ℕ) (line piece : List ℕ) (next : Met) : Type 0 where
  pub content : Content
  pub says : line_content line ≡ Some content
  pub is : IsPiece t met at content piece next
