-- A request that is handed to a miniport.
use Rattle.std.specs.Prelude.{◌≡◌, ◌==◌, if◌then◌else◌, ℕ, Bool, true, false, List, length, count_by, Option, Some, None}
use Rattle.log_fields.specs.declared.field_values.Handler.{Handler}
use Rattle.log_fields.specs.declared.field_values.Handler.TheVariants as handler
use Rattle.log_fields.specs.declared.field_values.Question.{Question}
use Rattle.log_fields.specs.declared.field_values.Question.TheVariants as question
use Rattle.owner_machine.specs.declared.rows.Request.{Request}
use Rattle.owner_machine.specs.Requests.{first_asked, handed_of, is_set}
use Rattle.owner_machine.specs.State.{Owner}
use Rattle.legal_run.specs.State.{State}
use Rattle.legal_run.specs.Owed.{to_hand}
use Rattle.legal_run.specs.Enters.{buffer_length, oid_of, set_bytes}
use Rattle.handler_words.specs.declared.requests.Asked.{Asked}

abbrev pub asking_handler : Bool → Handler
asking_handler true = handler.Set
asking_handler false = handler.Query

-- how many bytes the buffer of a question has, whose set hands these
abbrev pub length_by : Question → List ℕ → ℕ
length_by (question.Query oid n) bytes = n
length_by (question.Set oid own) bytes = length bytes

-- the request of a number, as it is handed
abbrev pub asked_as : State → (a number : ℕ) → Request → Asked
asked_as s a number r = record {
  number = number;
  is_set = is_set r.question;
  oid = oid_of r.question;
  length = buffer_length s a r;
  bytes = set_bytes s a r.driver.0 r.question;
}

-- it is the request that an adapter is to be handed
pub record IsAsked (s : State) (a : ℕ) (asked : Asked) : Type 0 where
  pub request : Request
  pub handed : to_hand s a ≡ Some request
  pub first : first_asked s.owner a ≡ Some asked.number
  pub told : asked ≡ asked_as s a asked.number request

-- the number of the least request that is asked, where none is handed
abbrev pub next_number : Owner → ℕ → Option ℕ
next_number o a = if count_by (handed_of a) o.requests == 0 then first_asked o a else None

-- or there is none
abbrev pub IsAskedOr : State → ℕ → Option Asked → Type 0
IsAskedOr s a None = to_hand s a ≡ None
IsAskedOr s a (Some asked) = IsAsked s a asked
