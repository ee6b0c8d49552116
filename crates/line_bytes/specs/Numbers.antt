-- Instructions of source as operations, and their numbers where labels have addresses.
use Rattle.std.specs.Prelude.{ℕ, Bool, true, false, ◌&&◌, not, Option, Some, None, if◌then◌else◌}
use Rattle.asm_lines.specs.Values.{Value, Number, Address, value_seen}
use Rattle.asm_lines.specs.Arguments.{Argument, Absent, InRegister, Plain, InMemory}
use Rattle.asm_lines.specs.Statements.{Statement}
use Rattle.std.specs.Option.{option_map}
use Rattle.asm_encode.specs.declared.operation.Given.{Given}
use Rattle.asm_encode.specs.declared.operation.Given.TheVariants as given
use Rattle.asm_encode.specs.declared.operation.Operation.{Operation}
use Rattle.asm_encode.specs.declared.templates.Term.{Term}
use Rattle.asm_encode.specs.declared.templates.Term.TheVariants.{Known, Open}
use Rattle.line_bytes.specs.Tables.{Rows, row_of}
use Rattle.line_bytes.specs.declared.numbers.Numbered as code

-- ---- operations

-- an operation, and its numbers as they are written: a value, and the offset of memory
pub record Numbered : Type 0 where
  pub operation : Operation
  pub value : Option Value
  pub offset : Option Value

abbrev pub numbered_seen : code.Numbered → Numbered
numbered_seen n = record { operation = n.operation; value = option_map value_seen n.value; offset = option_map value_seen n.offset }

abbrev pub given_of : Argument → Given
given_of Absent = given.Absent
given_of (InRegister r) = given.Register r
given_of (Plain value) = given.Value
given_of (InMemory width place) = given.Memory width place.base place.index

abbrev pub value_in : Argument → Option Value
value_in Absent = None
value_in (InRegister r) = None
value_in (Plain value) = Some value
value_in (InMemory width place) = None

abbrev pub offset_in : Argument → Option Value
offset_in Absent = None
offset_in (InRegister r) = None
offset_in (Plain value) = None
offset_in (InMemory width place) = place.offset

abbrev pub is_value : Argument → Bool
is_value Absent = false
is_value (InRegister r) = false
is_value (Plain value) = true
is_value (InMemory width place) = false

abbrev pub is_memory : Argument → Bool
is_memory Absent = false
is_memory (InRegister r) = false
is_memory (Plain value) = false
is_memory (InMemory width place) = true

abbrev pub at_most_one : Bool → Bool → Bool → Bool
at_most_one a b c = not (a && b) && (not (a && c) && not (b && c))

abbrev pub first_of : Option Value → Option Value → Option Value
first_of (Some value) other = Some value
first_of None other = other

-- no instruction has two values, or two operands in memory
unfoldable pub is_single : Statement → Bool
is_single s = at_most_one (is_value s.operands.first) (is_value s.operands.second) (is_value s.operands.third)
    && at_most_one (is_memory s.operands.first) (is_memory s.operands.second) (is_memory s.operands.third)

unfoldable pub parted : Statement → Numbered
parted s = record {
  operation = record { prefix = s.prefix; mnemonic = s.mnemonic; first = given_of s.operands.first; second = given_of s.operands.second; third = given_of s.operands.third };
  value = first_of (value_in s.operands.first) (first_of (value_in s.operands.second) (value_in s.operands.third));
  offset = first_of (offset_in s.operands.first) (first_of (offset_in s.operands.second) (offset_in s.operands.third));
}

unfoldable pub numbered : Statement → Option Numbered
numbered s = if is_single s then Some (parted s) else None

-- ---- numbers

abbrev pub number_in : Option (ℕ × ℕ) → Option ℕ
number_in None = None
number_in (Some row) = Some row.1

-- a number is itself, and a label is its address: none where there is no such label
abbrev pub number_of : Rows → Value → Option ℕ
number_of labels (Number n) = Some n
number_of labels (Address name) = number_in (row_of labels name)

-- what is absent is 0
abbrev pub number_or_0 : Rows → Option Value → Option ℕ
number_or_0 labels None = Some 0
number_or_0 labels (Some value) = number_of labels value

-- a label's address is put in later
abbrev pub term_of : Option Value → Term
term_of None = Known 0
term_of (Some (Number n)) = Known n
term_of (Some (Address name)) = Open
