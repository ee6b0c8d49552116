-- A spelling of an instruction by its parts, and which of its spellings is the chosen one: Intel SDM volume 2, figure 2-1, section 2.1
-- and appendix A. That it is a spelling is said by `Spells` alone, in the contract of `encode`.
use Rattle.std.specs.Prelude.{ℕ, ◌≡◌, ◌+◌, ◌*◌, ◌%◌, ◌^◌, ◌<◌, ◌&&◌, not, nat_lt, ◌==◌, Bool, true, false, List, [], ◌∷◌, ◌++◌, Option, Some, None, unwrap_or, option_to_list, slice_index_or, if◌then◌else◌}
use Rattle.std.specs.Int.{w16, w32, to_le_bytes}
use Rattle.ia32_decode.specs.Operands.{sign_extended}
use Rattle.ia32_decode.specs.Rows.{built, fits}
use Rattle.ia32_decode.specs.Opcodes.{rows_of, first_of, second_of}
use Rattle.ia32_decode.specs.declared.prefixes.Prefixes.{Prefixes}
use Rattle.ia32_decode.specs.declared.instruction.Instr.{Instr}
use Rattle.ia32_decode.specs.declared.instruction.Operand.{Operand}
use Rattle.ia32_decode.specs.declared.instruction.Operand.TheVariants as operands
use Rattle.ia32_decode.specs.declared.instruction.Repeat.{Repeat}
use Rattle.ia32_decode.specs.declared.instruction.Repeat.TheVariants as repeats
use Rattle.ia32_decode.specs.declared.forms.Addressing.{Addressing}
use Rattle.ia32_decode.specs.declared.forms.Addressing.TheVariants as addressings
use Rattle.ia32_decode.specs.declared.forms.Immediate.{Immediate}
use Rattle.ia32_decode.specs.declared.forms.Immediate.TheVariants as immediates
use Rattle.ia32_decode.specs.declared.forms.Source.{Source}
use Rattle.ia32_decode.specs.declared.forms.Source.TheVariants as sources
use Rattle.ia32_decode.specs.declared.forms.Form.{Form}
use Rattle.ia32_decode.specs.declared.rows.Row.{Row}
use Rattle.ia32_decode.specs.declared.rows.Entry.{Entry}
use Rattle.ia32_decode.specs.declared.rows.Entry.TheVariants as entries
use Rattle.ia32_decode.specs.declared.encoding.Number.{Number}
use Rattle.ia32_decode.specs.declared.encoding.Number.TheVariants as numbers
use Rattle.ia32_decode.specs.declared.encoding.Fields.{Fields}
use Rattle.ia32_decode.specs.declared.encoding.Based.{Based}
use Rattle.ia32_decode.specs.declared.encoding.Tail.{Tail}
use Rattle.ia32_decode.specs.declared.encoding.Format.{Format}

-- ---- the bytes of the parts

abbrev pub number_bytes : Number → List ℕ
number_bytes numbers.Absent = []
number_bytes (numbers.Byte n) = n ∷ []
number_bytes (numbers.Word n) = to_le_bytes w16 n
number_bytes (numbers.Doubleword n) = to_le_bytes w32 n

abbrev pub one_if : Bool → ℕ → List ℕ
one_if true b = b ∷ []
one_if false b = []

abbrev pub repeat_bytes : Repeat → List ℕ
repeat_bytes repeats.Absent = []
repeat_bytes repeats.F2 = 0xF2 ∷ []
repeat_bytes repeats.F3 = 0xF3 ∷ []

abbrev pub prefix_bytes : Prefixes → List ℕ
prefix_bytes prefixes = one_if prefixes.operand_size 0x66 ++ one_if prefixes.lock 0xF0 ++ repeat_bytes prefixes.repeat

abbrev pub tail_bytes : Tail → List ℕ
tail_bytes tail = option_to_list tail.fields.modrm ++ option_to_list tail.fields.sib ++ number_bytes tail.fields.displacement ++ number_bytes tail.immediate

abbrev pub bytes_of : Format → List ℕ
bytes_of format = prefix_bytes format.prefixes ++ (one_if format.second 0x0F ++ (format.opcode ∷ tail_bytes format.tail))

-- ---- the parts

-- the shortest immediate of the kind
unfoldable pub immediate_number : Immediate → Bool → ℕ → Option Number
immediate_number immediates.Absent short n = if n == 0 then Some numbers.Absent else None
immediate_number immediates.One short n = if n == 1 then Some numbers.Absent else None
immediate_number immediates.Byte short n = if nat_lt n (2 ^ 8) then Some (numbers.Byte n) else None
immediate_number immediates.SignedByte short n = if sign_extended (n % 2 ^ 8) == n then Some (numbers.Byte (n % 2 ^ 8)) else None
immediate_number immediates.Word short n = if nat_lt n (2 ^ 16) then Some (numbers.Word n) else None
immediate_number immediates.OperandSize short n = if short then (if nat_lt n (2 ^ 16) then Some (numbers.Word n) else None) else Some (numbers.Doubleword n)
immediate_number immediates.Doubleword short n = Some (numbers.Doubleword n)

-- bits 3 to 7 of a SIB byte: the index, and the scale's power of 2
abbrev pub scale_field : ℕ → ℕ → Option ℕ
scale_field index scale = if scale == 1 then Some index else (if scale == 2 then Some (8 + index) else (if scale == 4 then Some (16 + index) else (if scale == 8 then Some (24 + index) else None)))

unfoldable pub index_field : Option ℕ → ℕ → Option ℕ
index_field None scale = if scale == 1 then Some 4 else None
index_field (Some index) scale = if nat_lt index 8 && not (index == 4) then scale_field index scale else None

-- the mod and rm fields for a base, and the shortest displacement
abbrev pub mode_of : ℕ → ℕ → Based
mode_of base offset =
    if (offset == 0) && not (base == 5) then record { mode = 0; base = base; displacement = numbers.Absent }
    else (if sign_extended (offset % 2 ^ 8) == offset then record { mode = 1; base = base; displacement = numbers.Byte (offset % 2 ^ 8) }
    else record { mode = 2; base = base; displacement = numbers.Doubleword offset })

unfoldable pub base_field : Option ℕ → ℕ → Option Based
base_field None offset = Some (record { mode = 0; base = 5; displacement = numbers.Doubleword offset })
base_field (Some base) offset = if nat_lt base 8 then Some (mode_of base offset) else None

abbrev pub is_none : Option ℕ → Bool
is_none None = true
is_none (Some _) = false

-- ESP as a base, and every index, need a SIB byte
unfoldable pub joined : ℕ → Bool → ℕ → Based → Fields
joined reg plain index based =
    if plain && not (based.base == 4) then record { modrm = Some (64 * based.mode + 8 * reg + based.base); sib = None; displacement = based.displacement }
    else record { modrm = Some (64 * based.mode + 8 * reg + 4); sib = Some (8 * index + based.base); displacement = based.displacement }

abbrev pub both_fields : ℕ → Bool → Option ℕ → Option Based → Option Fields
both_fields reg plain (Some index) (Some based) = Some (joined reg plain index based)
both_fields reg plain (Some index) None = None
both_fields reg plain None based = None

unfoldable pub place_fields : Operand → ℕ → Option Fields
place_fields (operands.Reg r) reg = if nat_lt r 8 then Some (record { modrm = Some (192 + 8 * reg + r); sib = None; displacement = numbers.Absent }) else None
place_fields (operands.Place base index scale offset) reg = both_fields reg (is_none index) (index_field index scale) (base_field base offset)
place_fields operands.Absent reg = None
place_fields operands.Imm reg = None

unfoldable pub offset_fields : Operand → Option Fields
offset_fields (operands.Place None None scale offset) = if scale == 1 then Some (record { modrm = None; sib = None; displacement = numbers.Doubleword offset }) else None
offset_fields _ = None

abbrev pub fields_of : Addressing → Operand → ℕ → Option Fields
fields_of addressings.Absent rm reg = Some (record { modrm = None; sib = None; displacement = numbers.Absent })
fields_of addressings.Any rm reg = place_fields rm reg
fields_of addressings.Memory rm reg = place_fields rm reg
fields_of addressings.Offset rm reg = offset_fields rm

-- ---- a row's tail for an instruction

abbrev pub is_rm : Source → Bool
is_rm sources.Rm = true
is_rm sources.Absent = false
is_rm sources.Reg = false
is_rm sources.Opcode = false
is_rm sources.Accumulator = false
is_rm sources.Counter = false
is_rm sources.Immediate = false

abbrev pub is_reg : Source → Bool
is_reg sources.Reg = true
is_reg sources.Absent = false
is_reg sources.Rm = false
is_reg sources.Opcode = false
is_reg sources.Accumulator = false
is_reg sources.Counter = false
is_reg sources.Immediate = false

-- the operand that the addressing names, where the form has one
abbrev pub rm_among : Form → Operand → Operand → Operand
rm_among form first second = if is_rm form.first then first else (if is_rm form.second then second else operands.Place None None 1 0)

abbrev pub rm_at : Addressing → Form → Instr → Operand
rm_at addressings.Absent form v = operands.Absent
rm_at addressings.Any form v = rm_among form v.first v.second
rm_at addressings.Memory form v = rm_among form v.first v.second
rm_at addressings.Offset form v = rm_among form v.first v.second

unfoldable pub rm_of : Form → Instr → Operand
rm_of form v = rm_at form.addressing form v

abbrev pub register_of : Operand → ℕ
register_of (operands.Reg r) = r % 8
register_of operands.Absent = 0
register_of (operands.Place _ _ _ _) = 0
register_of operands.Imm = 0

unfoldable pub reg_of : Form → Instr → ℕ
reg_of form v = if is_reg form.first then register_of v.first else (if is_reg form.second then register_of v.second else 0)

-- the tail is that of the row, with this reg field, for the instruction
pub record IsTail (prefixes : Prefixes) (opcode : ℕ) (row : Row) (reg : ℕ) (v : Instr) (tail : Tail) : Type 0 where
  pub fields : fields_of row.form.addressing (rm_of row.form v) reg ≡ Some tail.fields
  pub number : immediate_number row.form.immediate prefixes.operand_size v.imm ≡ Some tail.immediate
  pub fits : fits prefixes row (unwrap_or tail.fields.modrm 0) ≡ true
  pub is : built prefixes opcode row (unwrap_or tail.fields.modrm 0) (rm_of row.form v) v.imm ≡ v

abbrev pub IsTailOf : Prefixes → ℕ → Option Row → ℕ → Instr → Tail → Type 0
IsTailOf prefixes opcode None reg v tail = ⊥
IsTailOf prefixes opcode (Some row) reg v tail = IsTail prefixes opcode row reg v tail

pub record IsGroupTail (prefixes : Prefixes) (opcode : ℕ) (rows : List (Option Row)) (v : Instr) (tail : Tail) : Type 0 where
  pub reg : ℕ
  pub within : reg < 8
  pub at : IsTailOf prefixes opcode (slice_index_or rows reg None) reg v tail

abbrev pub IsEntryTail : Prefixes → ℕ → Entry → Instr → Tail → Type 0
IsEntryTail prefixes opcode entries.Outside v tail = ⊥
IsEntryTail prefixes opcode entries.Escape v tail = ⊥
IsEntryTail prefixes opcode (entries.One row) v tail = IsTail prefixes opcode row (reg_of row.form v) v tail
IsEntryTail prefixes opcode (entries.Group group) v tail = IsGroupTail prefixes opcode (rows_of group) v tail

-- ---- an opcode for an instruction

abbrev pub entry_of : Bool → ℕ → Entry
entry_of true opcode = second_of opcode
entry_of false opcode = first_of opcode

abbrev pub IsFormat : Instr → Format → Type 0
IsFormat v format = IsEntryTail format.prefixes format.opcode (entry_of format.second format.opcode) v format.tail

-- the prefixes of an instruction, with 66 or without
abbrev pub prefixes_of : Instr → Bool → Prefixes
prefixes_of v short = record { operand_size = short; lock = v.lock; repeat = v.repeat }

-- ---- the chosen spelling: of all places in the opcode maps that spell the instruction the first, where no prefix 66 goes before 66, the
-- second map before the first, a lower opcode before a higher, and a lower reg field before a higher. (So immediates and jumps have the
-- widest form that there is.) Displacements of memory operands are as short as they can be (`mode_of`).

-- of a group's rows the one of the lowest reg field
pub record IsFirstGroupTail (prefixes : Prefixes) (opcode : ℕ) (rows : List (Option Row)) (v : Instr) (tail : Tail) : Type 0 where
  pub reg : ℕ
  pub within : reg < 8
  pub at : IsTailOf prefixes opcode (slice_index_or rows reg None) reg v tail
  pub before : (k : ℕ) → k < reg → (other : Tail) → IsTailOf prefixes opcode (slice_index_or rows k None) k v other → ⊥

abbrev pub IsFirstTail : Prefixes → ℕ → Entry → Instr → Tail → Type 0
IsFirstTail prefixes opcode entries.Outside v tail = ⊥
IsFirstTail prefixes opcode entries.Escape v tail = ⊥
IsFirstTail prefixes opcode (entries.One row) v tail = IsTail prefixes opcode row (reg_of row.form v) v tail
IsFirstTail prefixes opcode (entries.Group group) v tail = IsFirstGroupTail prefixes opcode (rows_of group) v tail

-- of a map's opcodes the lowest
pub record IsFirstIn (entry_at : ℕ → Entry) (prefixes : Prefixes) (v : Instr) (opcode : ℕ) (tail : Tail) : Type 0 where
  pub low : opcode < 2 ^ 8
  pub at : IsFirstTail prefixes opcode (entry_at opcode) v tail
  pub before : (k : ℕ) → k < opcode → (other : Tail) → IsEntryTail prefixes k (entry_at k) v other → ⊥

-- no opcode of the map spells it behind these prefixes
abbrev pub HasNone : (ℕ → Entry) → Prefixes → Instr → Type 0
HasNone entry_at prefixes v = (opcode : ℕ) → opcode < 2 ^ 8 → (tail : Tail) → IsEntryTail prefixes opcode (entry_at opcode) v tail → ⊥

pub record IsChosenFormat (v : Instr) (format : Format) : Type 0 where
  pub prefixes : format.prefixes ≡ prefixes_of v format.prefixes.operand_size
  pub first : IsFirstIn (entry_of format.second) format.prefixes v format.opcode format.tail
  pub no_second : format.second ≡ false → HasNone second_of format.prefixes v
  pub no_plain : format.prefixes.operand_size ≡ true → (second : Bool) → HasNone (entry_of second) (prefixes_of v false) v

pub record IsChosen (v : Instr) (bytes : List ℕ) : Type 0 where
  pub format : Format
  pub chosen : IsChosenFormat v format
  pub written : bytes ≡ bytes_of format

-- law: no instruction has two chosen spellings
abbrev pub ChosenIsOne : Type 0
ChosenIsOne = (v : Instr) (bytes others : List ℕ) → IsChosen v bytes → IsChosen v others → bytes ≡ others

-- ---- numbers of the parts are of their widths

abbrev pub IsLowNumber : Number → Type 0
IsLowNumber numbers.Absent = Unit {0}
IsLowNumber (numbers.Byte n) = n < 2 ^ 8
IsLowNumber (numbers.Word n) = n < 2 ^ 16
IsLowNumber (numbers.Doubleword n) = n < 2 ^ 32

abbrev pub IsLowByte : Option ℕ → Type 0
IsLowByte None = Unit {0}
IsLowByte (Some b) = b < 2 ^ 8

pub record IsLow (format : Format) : Type 0 where
  pub opcode : format.opcode < 2 ^ 8
  pub modrm : IsLowByte format.tail.fields.modrm
  pub sib : IsLowByte format.tail.fields.sib
  pub displacement : IsLowNumber format.tail.fields.displacement
  pub immediate : IsLowNumber format.tail.immediate
