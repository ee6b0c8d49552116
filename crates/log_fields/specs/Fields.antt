-- The fields of a log's lines. The project's own (docs/LOG.md).
use Rattle.std.specs.Prelude.{ℕ, ◌-◌, ◌^◌, ◌≤◌, nat_le, Bool, true, false, List, [], ◌∷◌, ◌++◌, Some, codes}
use Rattle.log_fields.specs.Codes.{Code, Read, and_then, number, word, byte_string, named, such, behind, none, chosen, ◌▹◌}
use Rattle.log_fields.specs.Names.{handler_name, handlers_all, fault_name, faults_all, import_name, imports_all, cause_name, causes_all, what_name, whats_all}
use Rattle.log_fields.specs.declared.field_values.Question.{Question}
use Rattle.log_fields.specs.declared.field_values.Question.TheVariants as questions
use Rattle.log_fields.specs.declared.field_values.Cause.{Cause}
use Rattle.log_fields.specs.declared.field_values.Cause.TheVariants as causes
use Rattle.log_fields.specs.declared.field_values.Condition.{Condition}
use Rattle.log_fields.specs.declared.field_values.Condition.TheVariants as whats
use Rattle.log_fields.specs.declared.field_values.Direction.{Direction}
use Rattle.log_fields.specs.declared.field_values.Direction.TheVariants as directions
use Rattle.log_fields.specs.declared.field_values.Handler.{Handler}
use Rattle.log_fields.specs.declared.field_values.FaultKind.{FaultKind}
use Rattle.log_fields.specs.declared.write.Write.{Write}
use Rattle.log_fields.specs.declared.names.CauseKind.{CauseKind}
use Rattle.log_fields.specs.declared.names.CauseKind.TheVariants as cause_kinds
use Rattle.log_fields.specs.declared.names.ConditionKind.{ConditionKind}
use Rattle.log_fields.specs.declared.names.ConditionKind.TheVariants as what_kinds

-- ---- fields

unfoldable pub small : Code ℕ
small = number (2 ^ 8 - 1)

unfoldable pub medium : Code ℕ
medium = number (2 ^ 32 - 1)

unfoldable pub large : Code ℕ
large = number (2 ^ 64 - 1)

unfoldable pub flag : Code ℕ
flag = number 1

abbrev pub flag_of : Bool → ℕ
flag_of false = 0
flag_of true = 1

unfoldable pub width : Code ℕ
width = such (nat_le 1) (number 2)

unfoldable pub rule : Code ℕ
rule = such (nat_le 1) (number 14)

abbrev pub handler : Code Handler
handler = named handler_name handlers_all

abbrev pub fault_kind : Code FaultKind
fault_kind = named fault_name faults_all

abbrev pub import : Code ℕ
import = named import_name imports_all

abbrev pub direction_name : Direction → List ℕ
direction_name directions.In = codes "in"
direction_name directions.Out = codes "out"

abbrev pub direction : Code Direction
direction = named direction_name (directions.In ∷ directions.Out ∷ [])

abbrev pub write : Code (ℕ × List ℕ)
write = record {
  fits = λ w. word.fits w.0 × byte_string.fits w.1;
  text = λ w. word.text w.0 ++ (behind 58 byte_string).text w.1;
  read = (chosen word (λ _. List ℕ) (λ _. behind 58 byte_string)).read;
}

-- ---- fields of which the first is a word

-- a word, and what its kind has behind it
abbrev pub question_name : Bool → List ℕ
question_name true = codes "query"
question_name false = codes "set"

abbrev pub Asked : Bool → Type 0
Asked true = ℕ × ℕ
Asked false = ℕ × List ℕ

abbrev pub asked : (q : Bool) → Code (Asked q)
asked true = behind 32 (word ▹ medium)
asked false = behind 32 (word ▹ byte_string)

abbrev pub question : Code ((q : Bool) × Asked q)
question = chosen (named question_name (true ∷ false ∷ [])) Asked asked

abbrev pub question_of : Question → (q : Bool) × Asked q
question_of (questions.Query oid length) = (true, (oid, length))
question_of (questions.Set oid bytes) = (false, (oid, bytes))

abbrev pub Caused : CauseKind → Type 0
Caused cause_kinds.Breach = ℕ
Caused cause_kinds.Budget = Unit {0}
Caused cause_kinds.Memory = Unit {0}

abbrev pub caused : (k : CauseKind) → Code (Caused k)
caused cause_kinds.Breach = behind 32 rule
caused cause_kinds.Budget = none
caused cause_kinds.Memory = none

abbrev pub cause : Code ((k : CauseKind) × Caused k)
cause = chosen (named cause_name causes_all) Caused caused

abbrev pub read_caused : CauseKind → List ℕ → Read ((k : CauseKind) × Caused k)
read_caused k bytes = and_then ((caused k).read bytes) (λ y rest. Some ((k, y), rest))

abbrev pub cause_of : Cause → (k : CauseKind) × Caused k
cause_of (causes.Breach n) = (cause_kinds.Breach, n.0)
cause_of causes.Budget = (cause_kinds.Budget, tt)
cause_of causes.Memory = (cause_kinds.Memory, tt)

abbrev pub Awaited : ConditionKind → Type 0
Awaited what_kinds.Up = Unit {0}
Awaited what_kinds.Sent = Unit {0}
Awaited what_kinds.Replies = Unit {0}
Awaited what_kinds.Frames = ℕ
Awaited what_kinds.Room = Unit {0}
Awaited what_kinds.All = Unit {0}

abbrev pub awaited : (k : ConditionKind) → Code (Awaited k)
awaited what_kinds.Up = none
awaited what_kinds.Sent = none
awaited what_kinds.Replies = none
awaited what_kinds.Frames = behind 32 large
awaited what_kinds.Room = none
awaited what_kinds.All = none

abbrev pub what : Code ((k : ConditionKind) × Awaited k)
what = chosen (named what_name whats_all) Awaited awaited

abbrev pub read_awaited : ConditionKind → List ℕ → Read ((k : ConditionKind) × Awaited k)
read_awaited k bytes = and_then ((awaited k).read bytes) (λ y rest. Some ((k, y), rest))

abbrev pub what_of : Condition → (k : ConditionKind) × Awaited k
what_of whats.Up = (what_kinds.Up, tt)
what_of whats.Sent = (what_kinds.Sent, tt)
what_of whats.Replies = (what_kinds.Replies, tt)
what_of (whats.Frames n) = (what_kinds.Frames, n)
what_of whats.Room = (what_kinds.Room, tt)
what_of whats.All = (what_kinds.All, tt)

abbrev pub write_of : Write → ℕ × List ℕ
write_of w = (w.at.0, w.bytes)

-- a breach's rule is 1 to 14
abbrev pub HasRule : Cause → Type 0
HasRule (causes.Breach n) = (1 ≤ n.0) × (n.0 ≤ 14)
HasRule _ = Unit {0}
