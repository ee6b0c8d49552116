-- What is read of guest memory where a call or a leave is judged can be read there.
use Rattle.std.specs.Prelude.{◌≡◌, ◌≤◌, ℕ, ⊤, None, Some}
use Rattle.nd_mem.specs.Space.{first_fault, Reading}
use Rattle.guest_map.specs.Regions.{request_bytes, request_count}
use Rattle.log_fields.specs.declared.field_values.Question.{Question}
use Rattle.log_fields.specs.declared.field_values.Question.TheVariants as question
use Rattle.legal_run.specs.State.{State, cells}
use Rattle.legal_run.specs.Calls.{slot_address, status_place}

-- so many bytes can be read
abbrev pub CanRead : State → (at count : ℕ) → Type 0
CanRead s at count = first_fault Reading (cells s) at count ≡ None

-- the status of the packet at an address
abbrev pub HasStatus : State → ℕ → Type 0
HasStatus s packet = CanRead s (status_place s packet) 4

-- the status of a packet, where it lies in a slot
abbrev pub HasSlotStatus : State → ℕ → Type 0
HasSlotStatus s k = (packet : ℕ) → slot_address s k ≡ Some packet → HasStatus s packet

-- how many bytes a query wrote, and as many as it was asked for
pub record HasAnswer (s : State) (a n : ℕ) : Type 0 where
  pub count : CanRead s (request_count a).first.0 4
  pub bytes : (m : ℕ) → m ≤ n → CanRead s (request_bytes a).first.0 m

-- what answers a question of an adapter
abbrev pub CanAnswer : State → ℕ → Question → Type 0
CanAnswer s a (question.Query oid n) = HasAnswer s a n
CanAnswer s a (question.Set oid bytes) = ⊤
