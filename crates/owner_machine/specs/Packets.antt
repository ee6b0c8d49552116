-- Packets: where each is, and what may end it. (DDK: NdisSend, NdisSendPackets, ProtocolSendComplete.)
use Rattle.std.specs.Prelude.{ℕ, ◌+◌, ◌-◌, Bool, true, false, ◌&&◌, ◌||◌, ◌==◌, not, cond, length, Option, position, count_by, slice_get, nat_lt, nat_le}
use Rattle.std.specs.Option.{option_map_or}
use Rattle.nd_base.specs.declared.numbers.BindingNo.{BindingNo}
use Rattle.owner_machine.specs.declared.rows.Packet.{Packet}
use Rattle.owner_machine.specs.declared.rows.Place.{Place}
use Rattle.owner_machine.specs.declared.rows.Place.TheVariants.{Queue, Miniport, Done, Aborted, Refused}
use Rattle.owner_machine.specs.declared.rows.Next.{Next}
use Rattle.owner_machine.specs.declared.rows.Next.TheVariants.{Free, Sent, Tail, Aborting, Cancelling, Handing, Left}
use Rattle.owner_machine.specs.State.{Owner, at, is_number, is_running, phase_is, bound, adapter_of, no_adapter}
use Rattle.owner_machine.specs.Contexts.{in_call, serialized, send_complete}

-- ---- places

abbrev pub is_queue : Place → Bool
is_queue Queue = true
is_queue _ = false

abbrev pub is_miniport : Place → Bool
is_miniport Miniport = true
is_miniport _ = false

abbrev pub is_refused : Place → Bool
is_refused Refused = true
is_refused _ = false

abbrev pub is_aborted : Place → Bool
is_aborted Aborted = true
is_aborted _ = false

-- not completed to its driver yet
abbrev pub is_out : Place → Bool
is_out Queue = true
is_out Miniport = true
is_out Refused = true
is_out _ = false

-- its send slot is in use: an aborted packet keeps it until its late completion
abbrev pub in_slot : Place → Bool
in_slot Done = false
in_slot _ = true

-- ---- packets of an adapter a, of a driver b

abbrev pub out_of : ℕ → Packet → Bool
out_of a p = is_out p.place && (p.adapter.0 == a)

abbrev pub queued_of : ℕ → Packet → Bool
queued_of a p = is_queue p.place && (p.adapter.0 == a)

abbrev pub held_of : ℕ → Packet → Bool
held_of a p = is_miniport p.place && (p.adapter.0 == a)

abbrev pub sent_by : ℕ → Packet → Bool
sent_by b p = is_out p.place && (p.driver.0 == b)

abbrev pub slot_of : ℕ → Packet → Bool
slot_of b p = in_slot p.place && (p.driver.0 == b)

-- the miniport holds it, and it has that id (MiniportCancelSendPackets)
abbrev pub held_with_id : (b id : ℕ) → Packet → Bool
held_with_id b id p = is_miniport p.place && ((p.driver.0 == b) && (p.id == id))

-- it is queued, and has that id (NdisCancelSendPackets)
abbrev pub queued_with_id : (b id : ℕ) → Packet → Bool
queued_with_id b id p = is_queue p.place && ((p.driver.0 == b) && (p.id == id))

abbrev pub out : Owner → ℕ → Bool
out o k = at (λ p. is_out p.place) o.packets k

abbrev pub at_miniport : Owner → ℕ → Bool
at_miniport o k = at (λ p. is_miniport p.place) o.packets k

abbrev pub packet_adapter : Owner → ℕ → ℕ
packet_adapter o k = option_map_or (λ p. p.adapter.0) (slice_get o.packets k) no_adapter

abbrev pub first_queued : Owner → ℕ → Option ℕ
first_queued o a = position (queued_of a) o.packets

-- ---- what may stand

-- DDK, NdisSend: of a driver that is bound, a frame of 14 to 1,514 bytes, in one of its 256 send slots
abbrev pub may_send : Owner → (b k bytes : ℕ) → Bool
may_send o b k bytes = bound o b && ((k == length o.packets) && (nat_le 14 bytes && (nat_le bytes 1514 && nat_lt (count_by (slot_of b) o.packets) 256)))

abbrev pub was_sent : Next → ℕ → Bool
was_sent (Sent packet) k = packet.0 == k
was_sent _ k = false

-- DDK, NDIS_SET_PACKET_CANCEL_ID: directly behind the packet's send
abbrev pub may_tag : Owner → (k id : ℕ) → Bool
may_tag o k id = was_sent o.next k && (nat_lt k (length o.packets) && not (id == 0))

abbrev pub hands : Next → ℕ → Bool
hands (Handing adapter _ left) a = (adapter.0 == a) && nat_lt 0 left
hands _ a = false

-- DDK, MiniportSend, MiniportSendPackets: the least packet in the queue, directly behind the handler's enter
abbrev pub may_hand : Owner → ℕ → Bool
may_hand o k = hands o.next (packet_adapter o k) && is_number (first_queued o (packet_adapter o k)) k

-- what was handed by the handler that left just now has its verdict, from that number on
abbrev pub has_verdict : Next → ℕ → Packet → Bool
has_verdict (Left adapter _ enter from) k p = (p.adapter.0 == adapter.0) && ((p.hand == enter) && nat_le from k)
has_verdict _ k p = false

-- DDK, MiniportSend: NDIS_STATUS_RESOURCES of a serialized miniport gives the packet back
abbrev pub may_requeue : Owner → ℕ → Bool
may_requeue o k = at (has_verdict o.next k) o.packets k && (at_miniport o k && serialized o (packet_adapter o k))

-- what ends packets beside their miniport: a stop, the end of a reset (DDK, MiniportReset), a cancel (DDK, NdisCancelSendPackets)
abbrev pub is_ending : Next → Packet → Bool
is_ending (Tail adapter) p = out_of adapter.0 p
is_ending (Aborting adapter) p = held_of adapter.0 p
is_ending (Cancelling driver id) p = queued_with_id driver.0 id p
is_ending _ p = false

-- the miniport ends it: by its handler's answer, or inside NdisMSendComplete
abbrev pub is_completed : Owner → ℕ → Packet → Bool
is_completed o k p = is_miniport p.place && (has_verdict o.next k p || in_call o p.adapter.0 send_complete)

abbrev pub may_end : Owner → ℕ → Packet → Bool
may_end o k p = is_ending o.next p || (is_refused p.place || is_completed o k p)

-- DDK, NdisMSendComplete, ProtocolSendComplete
abbrev pub may_complete : Owner → ℕ → Bool
may_complete o k = at (may_end o k) o.packets k

-- the one completion that a miniport makes of a packet that a reset aborted
abbrev pub may_be_late : Owner → ℕ → Bool
may_be_late o k = at (λ p. is_aborted p.place) o.packets k && in_call o (packet_adapter o k) send_complete

-- ---- what becomes of a packet

abbrev pub placed : Place → Packet → Packet
placed place p = record p { place = place }

abbrev pub handed : ℕ → Packet → Packet
handed enter p = record p { place = Miniport; hand = enter }

abbrev pub tagged : ℕ → Packet → Packet
tagged id p = record p { id = id }

-- a packet that is sent goes into the queue of its adapter where that runs
abbrev pub sent : Owner → BindingNo → Packet
sent o driver = let a = adapter_of o driver.0 in record {
  driver = driver;
  adapter = record { 0 = a };
  place = cond (phase_is is_running o a) Queue Refused;
  id = 0;
  hand = 0;
}

abbrev pub aborts : Next → Packet → Bool
aborts (Aborting adapter) p = held_of adapter.0 p
aborts _ p = false

abbrev pub completed : Next → Packet → Packet
completed next p = placed (cond (aborts next p) Aborted Done) p

abbrev pub enter_of : Next → ℕ
enter_of (Handing _ enter _) = enter
enter_of _ = 0

-- ---- what stands next

abbrev pub handed_one : Next → Next
handed_one (Handing adapter enter left) = Handing adapter enter (left - 1)
handed_one _ = Free

-- verdicts stand in rising order
abbrev pub behind_verdict : Next → ℕ → Next
behind_verdict (Left adapter handler enter _) k = Left adapter handler enter (k + 1)
behind_verdict next _ = next

-- a verdict goes on to the next one, an ending to the next ending
abbrev pub behind_complete : Owner → ℕ → Next
behind_complete o k = cond (at (λ p. has_verdict o.next k p || is_ending o.next p) o.packets k) (behind_verdict o.next k) Free
