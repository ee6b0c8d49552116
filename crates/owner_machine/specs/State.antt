-- What the owner machine knows, and words that each subject uses. The number of a packet, loan, request, adapter, driver or context is its place
-- in its list, so a list of rows is a finite map from numbers. (Windows DDK, Network Devices and Protocols: who owns a packet, and until when.)
use Rattle.std.specs.Prelude.{ℕ, zero, suc, Bool, true, false, ◌==◌, not, List, [], ◌∷◌, Option, Some, None, slice_get}
use Rattle.std.specs.Option.{option_map_or}
use Rattle.nd_base.specs.declared.numbers.Phase.{Phase}
use Rattle.nd_base.specs.declared.numbers.Phase.TheVariants.{Running, Resetting, Stopped}
use Rattle.owner_machine.specs.declared.rows.Packet.{Packet}
use Rattle.owner_machine.specs.declared.rows.Loan.{Loan}
use Rattle.owner_machine.specs.declared.rows.Request.{Request}
use Rattle.owner_machine.specs.declared.rows.Adapter.{Adapter}
use Rattle.owner_machine.specs.declared.rows.Driver.{Driver}
use Rattle.owner_machine.specs.declared.rows.Context.{Context}
use Rattle.owner_machine.specs.declared.rows.Next.{Next}
use Rattle.owner_machine.specs.declared.rows.Binding.{Binding}
use Rattle.owner_machine.specs.declared.rows.Binding.TheVariants.{Unbound, Bound, HasBeen}

pub record Owner : Type 0 where
  pub packets : List Packet
  pub loans : List Loan
  pub requests : List Request
  pub adapters : List Adapter
  pub drivers : List Driver
  pub contexts : List Context
  -- whether the miniport has a MiniportCancelSendPackets, and a MiniportPnPEventNotify
  pub cancelsend : Bool
  pub pnpevent : Bool
  -- how many enters there were: each has a number
  pub enters : ℕ
  -- what stood directly before
  pub next : Next

-- ---- rows by number

-- whether the row of a number passes; where there is none, nothing does
abbrev pub at : {A : Type 0} → (A → Bool) → List A → ℕ → Bool
at test rows k = option_map_or test (slice_get rows k) false

-- the rows with the row of that number changed
abbrev pub change : {A : Type 0} → (A → A) → List A → ℕ → List A
change f [] k = []
change f (row ∷ rows) zero = f row ∷ rows
change f (row ∷ rows) (suc k) = row ∷ change f rows k

abbrev pub in_front : Bool → ℕ → List ℕ → List ℕ
in_front true n rest = n ∷ rest
in_front false n rest = rest

-- the numbers of the rows that pass, in rising order; the first row has the number n
abbrev pub numbers_from : {A : Type 0} → ℕ → (A → Bool) → List A → List ℕ
numbers_from n test [] = []
numbers_from n test (row ∷ rows) = in_front (test row) n (numbers_from (suc n) test rows)

abbrev pub is_number : Option ℕ → ℕ → Bool
is_number None k = false
is_number (Some n) k = n == k

abbrev pub implies : Bool → Bool → Bool
implies true b = b
implies false b = true

-- no rule where a need is met, else this one
abbrev pub unless : Bool → ℕ → Option ℕ
unless true rule = None
unless false rule = Some rule

-- ---- phases, bindings

abbrev pub is_running : Phase → Bool
is_running Running = true
is_running _ = false

abbrev pub is_resetting : Phase → Bool
is_resetting Resetting = true
is_resetting _ = false

abbrev pub is_stopped : Phase → Bool
is_stopped Stopped = true
is_stopped _ = false

abbrev pub is_bound : Binding → Bool
is_bound Bound = true
is_bound _ = false

abbrev pub is_unbound : Binding → Bool
is_unbound Unbound = true
is_unbound _ = false

abbrev pub has_been : Binding → Bool
has_been HasBeen = true
has_been _ = false

abbrev pub phase_is : (Phase → Bool) → Owner → ℕ → Bool
phase_is test o a = at (λ row. test row.phase) o.adapters a

-- the adapter is there, and not stopped
abbrev pub stands : Owner → ℕ → Bool
stands o a = at (λ row. not (is_stopped row.phase)) o.adapters a

abbrev pub bound : Owner → ℕ → Bool
bound o b = at (λ row. is_bound row.binding) o.drivers b

-- the number of no adapter: there are at most 4
abbrev pub no_adapter : ℕ
no_adapter = 255

-- a driver's adapter
abbrev pub adapter_of : Owner → ℕ → ℕ
adapter_of o b = option_map_or (λ row. row.adapter.0) (slice_get o.drivers b) no_adapter

-- ---- the DDK's statuses (ndis.h)

abbrev pub pending : ℕ
pending = 0x103

abbrev pub failure : ℕ
failure = 0xC0000001

abbrev pub closing : ℕ
closing = 0xC0010002

abbrev pub request_aborted : ℕ
request_aborted = 0xC001000C

abbrev pub reset_in_progress : ℕ
reset_in_progress = 0xC001000D

abbrev pub invalid_length : ℕ
invalid_length = 0xC0010014

abbrev pub invalid_data : ℕ
invalid_data = 0xC0010015
