-- The bytes of an operation whose numbers may be put in later, and why there are none.
use Rattle.std.specs.Prelude.{ℕ, ◌≡◌, ◌+◌, ◌-◌, ◌%◌, ◌^◌, ◌<◌, ◌≤◌, ◌⊎◌, ◌==◌, Bool, true, false, List, ◌++◌, length, take, drop, Option, Some, None, nat_lt, nat_le, if◌then◌else◌}
use Rattle.std.specs.Int.{w32, to_le_bytes}
use Rattle.std.specs.Str.{bytes_eq}
use Rattle.ia32_decode.specs.Decoding.{Spells}
use Rattle.ia32_decode.specs.Encoding.{IsChosen}
use Rattle.ia32_decode.specs.declared.instruction.Instr.{Instr}
use Rattle.ia32_fields.specs.Fields.{IsWide}
use Rattle.asm_encode.specs.Operations.{low, has_memory, instruction_of}
use Rattle.asm_encode.specs.declared.operation.Operation.{Operation}
use Rattle.asm_encode.specs.declared.forms.Form.{Form}
use Rattle.asm_encode.specs.declared.templates.Term.{Term}
use Rattle.asm_encode.specs.declared.templates.Term.TheVariants.{Known, Open}
use Rattle.asm_encode.specs.declared.templates.Template.{Template}
use Rattle.asm_encode.specs.declared.templates.Template.TheVariants.{Fixed, WithValue, WithOffset, WithBoth}
use Rattle.asm_encode.specs.declared.templates.Fault.{Fault}
use Rattle.asm_encode.specs.declared.templates.Fault.TheVariants.{NoForm, Range}

-- ---- numbers

-- a number that may stand for a term: the known one, or any of four bytes
abbrev pub IsNumberOf : Term → ℕ → Type 0
IsNumberOf (Known k) n = n ≡ k
IsNumberOf Open n = n < 2 ^ 32

-- the known one, or an address of a label, which needs four bytes
abbrev pub IsAddressOf : Term → ℕ → Type 0
IsAddressOf (Known k) n = n ≡ k
IsAddressOf Open n = IsWide n

-- the number that is spelled for a term, if it has four bytes
abbrev pub word_of : Term → ℕ → Option ℕ
word_of (Known k) filler = if nat_lt k (2 ^ 32) then Some k else None
word_of Open filler = Some filler

abbrev pub low_of : Term → ℕ → ℕ
low_of (Known k) filler = low k
low_of Open filler = filler

-- ---- templates

-- the four bytes of a number stand in front of the last so many
abbrev pub ends_behind : List ℕ → ℕ → ℕ → Bool
ends_behind bytes word behind = if nat_le (behind + 4) (length bytes) then bytes_eq (take 4 (drop (length bytes - (behind + 4)) bytes)) (to_le_bytes w32 word) else false

-- the bytes of a template with a value and an offset
abbrev pub filled : Template → ℕ → ℕ → List ℕ
filled (Fixed bytes) value offset = bytes
filled (WithValue bytes) value offset = take (length bytes - 4) bytes ++ to_le_bytes w32 value
filled (WithOffset bytes behind) value offset = take (length bytes - (behind + 4)) bytes ++ (to_le_bytes w32 offset ++ drop (length bytes - behind) bytes)
filled (WithBoth bytes) value offset = take (length bytes - 8) bytes ++ (to_le_bytes w32 offset ++ to_le_bytes w32 value)

abbrev pub bytes_in : Template → List ℕ
bytes_in (Fixed bytes) = bytes
bytes_in (WithValue bytes) = bytes
bytes_in (WithOffset bytes behind) = bytes
bytes_in (WithBoth bytes) = bytes

abbrev pub AreWords : ℕ → ℕ → Type 0
AreWords v m = (v < 2 ^ 32) × (m < 2 ^ 32)

-- with whatever numbers, the bytes spell the instruction with them, and are as many
pub record IsTemplate (o : Operation) (form : Form) (value offset : Term) (t : Template) : Type 0 where
  pub each : (v m : ℕ) → IsNumberOf value v → IsNumberOf offset m → Spells (filled t v m) (instruction_of o form v m)
  pub long : (v m : ℕ) → length (filled t v m) ≡ length (bytes_in t)
  pub small : (v m : ℕ) → IsNumberOf value v → IsNumberOf offset m → AreWords v m

-- ---- which template it is: its bytes are the chosen spelling of the instruction with such numbers in place of the open ones that they
-- need four bytes

-- what stands for an open offset beside a value
abbrev pub open_offset : ℕ → ℕ
open_offset value = if value == 0x40302010 then 0x43332313 else 0x40302010

-- the offset is put in later
abbrev pub is_put_in : Operation → Term → Bool
is_put_in o (Known k) = false
is_put_in o Open = has_memory o

-- how many bytes stand behind those of a number: the first of 0, 1, 2 and 4 that can be
abbrev pub behind_word : List ℕ → ℕ → ℕ
behind_word bytes word = if ends_behind bytes word 0 then 0 else (if ends_behind bytes word 1 then 1 else (if ends_behind bytes word 2 then 2 else 4))

-- the bytes as a template, for a value and with or without a place for the offset
abbrev pub template_in : Term → Bool → List ℕ → ℕ → Template
template_in (Known k) true bytes word = WithOffset bytes (behind_word bytes word)
template_in (Known k) false bytes word = Fixed bytes
template_in Open true bytes word = WithBoth bytes
template_in Open false bytes word = WithValue bytes

pub record IsChosenTemplate (o : Operation) (form : Form) (value offset : Term) (t : Template) : Type 0 where
  pub v : ℕ
  pub v_is : word_of value 0x44332211 ≡ Some v
  pub m : ℕ
  pub m_is : word_of offset (open_offset v) ≡ Some m
  pub bytes : List ℕ
  pub chosen : IsChosen (instruction_of o form v m) bytes
  pub is : t ≡ template_in value (is_put_in o offset) bytes (open_offset v)

-- law: an operation has one template at most
abbrev pub TemplateIsOne : Type 0
TemplateIsOne = (o : Operation) (form : Form) (value offset : Term) (t other : Template) → IsChosenTemplate o form value offset t → IsChosenTemplate o form value offset other → t ≡ other

-- ---- why there is none

abbrev pub NoBytes : Instr → Type 0
NoBytes v = (bytes : List ℕ) → Spells bytes v → ⊥

-- no bytes spell it: not with 0 for its value, and not with its own
pub record IsNoForm (o : Operation) (form : Form) (v m : ℕ) : Type 0 where
  pub zero : NoBytes (instruction_of o form 0 (low m))
  pub own : AreWords v m → NoBytes (instruction_of o form v m)

-- bytes spell it with 0 for its value, but not with its own, or a number is 2^32 and more
pub record IsTooGreat (o : Operation) (form : Form) (v m : ℕ) : Type 0 where
  pub front : List ℕ
  pub zero : Spells front (instruction_of o form 0 (low m))
  pub own : AreWords v m → NoBytes (instruction_of o form v m)

abbrev pub IsFaultWith : Operation → Form → ℕ → ℕ → Fault → Type 0
IsFaultWith o form v m NoForm = IsNoForm o form v m
IsFaultWith o form v m Range = IsTooGreat o form v m

-- wherever labels stand, that is why
abbrev pub IsFault : Operation → Form → Term → Term → Fault → Type 0
IsFault o form value offset fault = (v m : ℕ) → IsAddressOf value v → IsAddressOf offset m → IsFaultWith o form v m fault

-- ---- how templates are found

-- a wide offset stands in the bytes, and behind it the immediate, which is another number
pub record IsPlaced (bytes : List ℕ) (word imm : ℕ) (front back : List ℕ) : Type 0 where
  pub parts : bytes ≡ front ++ (to_le_bytes w32 word ++ back)
  pub behind : (length back ≤ 2) ⊎ (back ≡ to_le_bytes w32 imm)
  pub low : imm < 2 ^ 32
  pub other : imm ≡ word → ⊥

-- what stands for an open offset
abbrev pub IsOpenOffset : ℕ → Type 0
IsOpenOffset n = (n ≡ 0x40302010) ⊎ (n ≡ 0x43332313)

abbrev pub IsZeroFault : Operation → Form → ℕ → Fault → Type 0
IsZeroFault o form m NoForm = NoBytes (instruction_of o form 0 m)
IsZeroFault o form m Range = (front : List ℕ) × Spells front (instruction_of o form 0 m)
