-- Requests: what each driver asks, what refuses it, and what it learns. (DDK: NdisRequest, MiniportQueryInformation, MiniportSetInformation,
-- ProtocolRequestComplete.)
use Rattle.std.specs.Prelude.{ℕ, zero, ◌+◌, ◌*◌, ◌/◌, ◌%◌, Bool, true, false, ◌&&◌, ◌||◌, ◌==◌, cond, List, [], ◌∷◌, length, Option, Some, None, position, count_by, slice_get, nat_le}
use Rattle.std.specs.Option.{option_map_or}
use Rattle.nd_base.specs.declared.numbers.BindingNo.{BindingNo}
use Rattle.nd_base.specs.declared.numbers.Phase.{Phase}
use Rattle.nd_base.specs.declared.numbers.Phase.TheVariants.{Running, Resetting}
use Rattle.log_fields.specs.declared.field_values.Question.{Question}
use Rattle.log_fields.specs.declared.field_values.Question.TheVariants.{Query, Set}
use Rattle.owner_machine.specs.declared.rows.Request.{Request}
use Rattle.owner_machine.specs.declared.rows.RequestPlace.{RequestPlace}
use Rattle.owner_machine.specs.declared.rows.RequestPlace.TheVariants.{Asked, Handed, Answered, Refused}
use Rattle.owner_machine.specs.declared.rows.Driver.{Driver}
use Rattle.owner_machine.specs.declared.rows.Next.{Next}
use Rattle.owner_machine.specs.declared.rows.Next.TheVariants.{Free, Tail, HandingAsk, Left}
use Rattle.owner_machine.specs.State.{Owner, at, change, is_number, bound, adapter_of, no_adapter, closing, reset_in_progress, invalid_length, invalid_data}
use Rattle.owner_machine.specs.Contexts.{in_call, query_complete, set_complete}

-- ---- places

abbrev pub is_asked : RequestPlace → Bool
is_asked Asked = true
is_asked _ = false

abbrev pub is_handed : RequestPlace → Bool
is_handed Handed = true
is_handed _ = false

abbrev pub is_turned_away : RequestPlace → Bool
is_turned_away Refused = true
is_turned_away _ = false

abbrev pub is_open : RequestPlace → Bool
is_open Answered = false
is_open _ = true

abbrev pub asked_of : ℕ → Request → Bool
asked_of a r = is_asked r.place && (r.adapter.0 == a)

abbrev pub handed_of : ℕ → Request → Bool
handed_of a r = is_handed r.place && (r.adapter.0 == a)

abbrev pub open_of : ℕ → Request → Bool
open_of a r = is_open r.place && (r.adapter.0 == a)

abbrev pub asked_by : ℕ → Request → Bool
asked_by b r = is_open r.place && (r.driver.0 == b)

abbrev pub unanswered : Owner → ℕ → Bool
unanswered o r = at (λ q. is_open q.place) o.requests r

abbrev pub request_adapter : Owner → ℕ → ℕ
request_adapter o r = option_map_or (λ q. q.adapter.0) (slice_get o.requests r) no_adapter

abbrev pub first_asked : Owner → ℕ → Option ℕ
first_asked o a = position (asked_of a) o.requests

-- ---- questions

-- OIDs of the DDK's ntddndis.h
abbrev pub current_packet_filter : ℕ
current_packet_filter = 0x0001010E

abbrev pub current_lookahead : ℕ
current_lookahead = 0x0001010F

abbrev pub multicast_list : ℕ
multicast_list = 0x01010103

abbrev pub is_set : Question → Bool
is_set (Query _ _) = false
is_set (Set _ _) = true

-- the word that bytes make, the lowest first
abbrev pub little_endian : List ℕ → ℕ
little_endian [] = 0
little_endian (b ∷ bs) = b + 256 * little_endian bs

-- no bit but those of the five filters that there are
abbrev pub is_filter : ℕ → Bool
is_filter filter = (filter / 64 == 0) && ((filter / 16) % 2 == 0)

-- each address of the list is a group address
abbrev pub are_groups : List ℕ → Bool
are_groups (a ∷ b ∷ c ∷ d ∷ e ∷ f ∷ rest) = (a % 2 == 1) && are_groups rest
are_groups _ = true

abbrev pub has_length : (oid n : ℕ) → Bool
has_length oid n = cond ((oid == current_packet_filter) || (oid == current_lookahead)) (n == 4) (cond (oid == multicast_list) ((n % 6 == 0) && nat_le n 192) (nat_le n 4096))

abbrev pub has_data : (oid : ℕ) → List ℕ → Bool
has_data oid bytes = cond (oid == current_packet_filter) (is_filter (little_endian bytes)) (cond (oid == multicast_list) (are_groups bytes) true)

-- the status with which a question is refused for itself
abbrev pub wrong : Question → Option ℕ
wrong (Query oid n) = cond (nat_le n 4096) None (Some invalid_length)
wrong (Set oid bytes) = cond (has_length oid (length bytes)) (cond (has_data oid bytes) None (Some invalid_data)) (Some invalid_length)

-- the status with which an adapter in this phase refuses it
abbrev pub refusal : Option Phase → Question → Option ℕ
refusal (Some Running) question = wrong question
refusal (Some Resetting) question = Some reset_in_progress
refusal _ question = Some closing

abbrev pub phase_of : Owner → ℕ → Option Phase
phase_of o a = option_map_or (λ row. Some row.phase) (slice_get o.adapters a) None

abbrev pub refused_with : Owner → ℕ → Question → Option ℕ
refused_with o a question = refusal (phase_of o a) question

-- ---- what may stand

-- DDK, NdisRequest
abbrev pub may_ask : Owner → (b r : ℕ) → Bool
may_ask o b r = bound o b && (r == length o.requests)

abbrev pub hands_ask : Next → ℕ → Bool
hands_ask (HandingAsk adapter _) a = adapter.0 == a
hands_ask _ a = false

-- DDK, MiniportQueryInformation, MiniportSetInformation: the least one, one at a time, directly behind the handler's enter
abbrev pub may_hand_ask : Owner → ℕ → Bool
may_hand_ask o r = let a = request_adapter o r in hands_ask o.next a && (is_number (first_asked o a) r && (count_by (handed_of a) o.requests == 0))

-- its handler left just now
abbrev pub by_verdict : Next → Request → Bool
by_verdict (Left adapter _ enter _) r = is_handed r.place && ((r.adapter.0 == adapter.0) && (r.hand == enter))
by_verdict _ r = false

-- DDK, NdisMQueryInformationComplete, NdisMSetInformationComplete
abbrev pub by_call : Owner → Request → Bool
by_call o r = is_handed r.place && in_call o r.adapter.0 (cond (is_set r.question) set_complete query_complete)

abbrev pub by_stop : Next → Request → Bool
by_stop (Tail adapter) r = open_of adapter.0 r
by_stop _ r = false

abbrev pub may_end_ask : Owner → Request → Bool
may_end_ask o r = by_verdict o.next r || (by_call o r || (is_turned_away r.place || by_stop o.next r))

-- DDK, ProtocolRequestComplete
abbrev pub may_answer : Owner → ℕ → Bool
may_answer o r = at (may_end_ask o) o.requests r

-- ---- what becomes of a request

abbrev pub first_place : Option ℕ → RequestPlace
first_place None = Asked
first_place (Some _) = Refused

abbrev pub asked : Owner → BindingNo → Question → Request
asked o driver question = let a = adapter_of o driver.0 in record {
  driver = driver;
  adapter = record { 0 = a };
  question = question;
  place = first_place (refused_with o a question);
  hand = 0;
}

abbrev pub ask_enter : Next → ℕ
ask_enter (HandingAsk _ enter) = enter
ask_enter _ = 0

abbrev pub handed_ask : ℕ → Request → Request
handed_ask enter r = record r { place = Handed; hand = enter }

abbrev pub answered : Request → Request
answered r = record r { place = Answered }

-- ---- what a driver learns: its own filter and list are those that were set last with SUCCESS

abbrev pub with_filter : ℕ → Driver → Driver
with_filter filter d = record d { filter = filter }

abbrev pub with_list : List ℕ → Driver → Driver
with_list list d = record d { list = list }

abbrev pub set_by : (oid : ℕ) → List ℕ → Driver → Driver
set_by oid bytes d = cond (oid == current_packet_filter) (with_filter (little_endian bytes) d) (cond (oid == multicast_list) (with_list bytes d) d)

abbrev pub learnt : Question → Driver → Driver
learnt (Query _ _) d = d
learnt (Set oid bytes) d = set_by oid bytes d

abbrev pub learnt_at : (status : ℕ) → Option Request → List Driver → List Driver
learnt_at zero (Some r) drivers = change (learnt r.question) drivers r.driver.0
learnt_at _ _ drivers = drivers

abbrev pub behind_answer : Next → Next
behind_answer (Tail adapter) = Tail adapter
behind_answer _ = Free
