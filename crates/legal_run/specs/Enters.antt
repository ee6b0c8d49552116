-- What an `enter` carries: the handler's level and address, its argument words, and what entering it writes beside its stack. What the library chooses
-- stands in the entry itself: the send slot of each packet, and which loan goes home. (Windows DDK, the reference page of each Miniport function; where
-- the answer places stand: docs/MEMORY.md.)
use Rattle.std.specs.Prelude.{ℕ, zero, suc, ◌+◌, ◌-◌, ◌/◌, Bool, true, false, ◌&&◌, ◌==◌, not, nat_le, nat_lt, if◌then◌else◌, List, [], ◌∷◌, ◌++◌, length, take, drop, filter, slice_get, slice_index_or, bit_or, count_by, Option, Some, None, is_some}
use Rattle.std.specs.Option.{option_map_or, option_and_then}
use Rattle.std.specs.List.{list_any, flat_map}
use Rattle.std.specs.Int.{w32, to_le_bytes, from_le_bytes}
use Rattle.std.specs.Str.{bytes_eq}
use Rattle.std.specs.FinMap as table
use Rattle.nd_base.specs.declared.layout_field.Field.{Field}
use Rattle.nd_base.specs.declared.layout_field.Field.TheVariants as field
use Rattle.nd_base.specs.declared.numbers.AdapterNo.{AdapterNo}
use Rattle.nd_base.specs.Layout.{offset_of}
use Rattle.guest_map.specs.Handles.{configuration_context}
use Rattle.guest_map.specs.Regions.{answer_area, adapter_block, request_bytes, request_count, request_needed, send_slot, slots}
use Rattle.packet_pool.specs.DescriptorBytes.{with_bytes, packet_bytes, buffer_bytes, out_of_band}
use Rattle.log_fields.specs.declared.write.Write.{Write}
use Rattle.log_fields.specs.declared.field_values.Handler.{Handler}
use Rattle.log_fields.specs.declared.field_values.Handler.TheVariants as handler
use Rattle.log_fields.specs.declared.field_values.Question.{Question}
use Rattle.log_fields.specs.declared.field_values.Question.TheVariants as question
use Rattle.guest_world.specs.declared.miniport.TimerFunction.{TimerFunction}
use Rattle.import_answers.specs.Statuses.{pending}
use Rattle.import_answers.specs.World.{word}
use Rattle.owner_machine.specs.declared.rows.Request.{Request}
use Rattle.owner_machine.specs.declared.waiting.Event.{Event}
use Rattle.owner_machine.specs.State.{numbers_from}
use Rattle.owner_machine.specs.Packets.{queued_of, slot_of}
use Rattle.owner_machine.specs.Loans.{due_of}
use Rattle.owner_machine.specs.Requests.{little_endian, current_packet_filter, multicast_list}
use Rattle.legal_run.specs.Guest.{put, entry_point, driver_entry_words}
use Rattle.legal_run.specs.Guest as guest
use Rattle.legal_run.specs.State.{Inputs, State, is_free, call_at, part_of, handler_address}
use Rattle.legal_run.specs.Owed.{first, frame_due, due_timer, to_hand, sync_caller, is_owed, owes_entry}
use Rattle.legal_run.specs.Calls.{slot_address, is_at}

-- ---- words of what the miniport gave

-- its own word for the adapter, which NdisMSetAttributesEx gave
abbrev pub context_word : State → ℕ → ℕ
context_word s a = option_map_or (λ part. option_map_or (λ given. given.context) part.attributes 0) (part_of s a) 0

-- word k, from 1, of the open call of a context
abbrev pub call_word : State → Option ℕ → ℕ → ℕ
call_word s None k = 0
call_word s (Some x) k = option_map_or (λ call. word call.words k) (call_at s x) 0

-- what was given of the timer that is due
abbrev pub timer_function : State → ℕ → Option TimerFunction
timer_function s a = option_and_then (λ t. table.get s.world.timers t.0) (due_timer s a)

abbrev pub oid_of : Question → ℕ
oid_of (question.Query oid n) = oid
oid_of (question.Set oid bytes) = oid

-- ---- level and address

-- the level of an adapter's interrupt line
abbrev pub device_level : Inputs → ℕ → ℕ
device_level c a = 27 - option_map_or (λ g. g.hardware.irq) (slice_get c.adapters a) 0

abbrev pub level_of : Inputs → ℕ → Handler → ℕ
level_of c a handler.DriverEntry = 0
level_of c a handler.Initialize = 0
level_of c a handler.Halt = 0
level_of c a handler.PnpEvent = 0
level_of c a handler.Shutdown = 0
level_of c a handler.Isr = device_level c a
level_of c a handler.DisableInterrupt = device_level c a
level_of c a handler.Sync = device_level c a
level_of c a _ = 2

abbrev pub address_of : Inputs → State → ℕ → Handler → ℕ
address_of c s a handler.DriverEntry = entry_point c.image
address_of c s a handler.Timer = option_map_or (λ f. f.function) (timer_function s a) 0
address_of c s a handler.Sync = call_word s (sync_caller s a) 2
address_of c s a h = handler_address s h

-- ---- the bytes that a set hands: filters are united, lists are joined (DDK, OID_GEN_CURRENT_PACKET_FILTER, OID_802_3_MULTICAST_LIST)

-- the adapter's drivers, by number
abbrev pub drivers_of_adapter : State → ℕ → List ℕ
drivers_of_adapter s a = numbers_from 0 (λ d. d.adapter.0 == a) s.owner.drivers

abbrev pub filter_of : State → ℕ → ℕ
filter_of s b = option_map_or (λ d. d.filter) (slice_get s.owner.drivers b) 0

abbrev pub list_of : State → ℕ → List ℕ
list_of s b = option_map_or (λ d. d.list) (slice_get s.owner.drivers b) []

unfoldable pub united : State → (b value : ℕ) → List ℕ → ℕ
united s b value [] = 0
united s b value (d ∷ ds) = bit_or (if d == b then value else filter_of s d) (united s b value ds)

-- a list's addresses, of six bytes each
unfoldable pub addresses_in : ℕ → List ℕ → List (List ℕ)
addresses_in zero bytes = []
addresses_in (suc n) bytes = take 6 bytes ∷ addresses_in n (drop 6 bytes)

abbrev pub addresses : List ℕ → List (List ℕ)
addresses bytes = addresses_in (length bytes / 6) bytes

-- each address once, where it stands first
unfoldable pub each_once : (seen : List (List ℕ)) → List (List ℕ) → List (List ℕ)
each_once seen [] = []
each_once seen (x ∷ xs) = if list_any (bytes_eq x) seen then each_once seen xs else x ∷ each_once (x ∷ seen) xs

abbrev pub joined_lists : State → ℕ → List ℕ → List ℕ → List ℕ
joined_lists s b list ds = flat_map (λ x. x) (each_once [] (flat_map (λ d. addresses (if d == b then list else list_of s d)) ds))

abbrev pub set_bytes : State → ℕ → ℕ → Question → List ℕ
set_bytes s a b (question.Query oid n) = []
set_bytes s a b (question.Set oid bytes) =
    if oid == current_packet_filter then to_le_bytes w32 (united s b (little_endian bytes) (drivers_of_adapter s a))
    else if oid == multicast_list then joined_lists s b bytes (drivers_of_adapter s a)
    else bytes

abbrev pub handed_bytes : State → ℕ → Option Request → List ℕ
handed_bytes s a None = []
handed_bytes s a (Some r) = set_bytes s a r.driver.0 r.question

abbrev pub buffer_length : State → ℕ → Request → ℕ
buffer_length s a r = length_of r.question
  where
    length_of : Question → ℕ
    length_of (question.Query oid n) = n
    length_of (question.Set oid bytes) = length (set_bytes s a r.driver.0 r.question)

-- ---- what the entry chooses

-- the words of an array of n
unfoldable pub words_in : ℕ → List ℕ → List ℕ
words_in zero bytes = []
words_in (suc n) bytes = from_le_bytes w32 (take 4 bytes) ∷ words_in n (drop 4 bytes)

abbrev pub array_bytes : List Write → List ℕ
array_bytes [] = []
array_bytes (write ∷ writes) = write.bytes

-- how many packets an array of MiniportSendPackets has
abbrev pub count_in : List ℕ → ℕ
count_in words = word words 3

-- the packets that it hands, and the descriptors that it names for them
abbrev pub handed_to : State → ℕ → Handler → List ℕ → List ℕ
handed_to s a handler.Send words = take 1 (numbers_from 0 (queued_of a) s.owner.packets)
handed_to s a handler.SendPackets words = take (count_in words) (numbers_from 0 (queued_of a) s.owner.packets)
handed_to s a _ words = []

abbrev pub named_in : Handler → List ℕ → List Write → List ℕ
named_in handler.Send words writes = word words 2 ∷ []
named_in handler.SendPackets words writes = words_in (count_in words) (array_bytes writes)
named_in _ words writes = []

-- the loan that goes home: the one that is due whose descriptor the words name
abbrev pub loan_named : State → ℕ → List ℕ → Option ℕ
loan_named s a words = first (filter (λ j. slice_index_or s.lent j 0 == word words 2) (numbers_from 0 (due_of a) s.owner.loans))

-- the slot of a driver at an address
abbrev pub slot_number : State → ℕ → ℕ → ℕ
slot_number s k a = (a - option_map_or (λ p. (send_slot p.driver.0 0).first.0) (slice_get s.owner.packets k) 0) / 0x800

abbrev pub is_slot_of : ℕ → ℕ → ℕ → Bool
is_slot_of b n a = nat_lt n slots && ((send_slot b n).first.0 == a)

-- another packet of the driver has that slot in use
abbrev pub is_taken : State → ℕ → ℕ → Bool
is_taken s b a = list_any (λ i. is_at a (slot_address s i)) (numbers_from 0 (slot_of b) s.owner.packets)

-- a packet keeps the slot that it has, else it gets one of its driver that is free
abbrev pub may_lie_at : State → ℕ → ℕ → Option ℕ → Bool
may_lie_at s k a (Some b) = b == a
may_lie_at s k a None = option_map_or (λ p. is_slot_of p.driver.0 (slot_number s k a) a && not (is_taken s p.driver.0 a)) (slice_get s.owner.packets k) false

unfoldable pub may_lie : State → List ℕ → List ℕ → Bool
may_lie s [] [] = true
may_lie s [] (a ∷ ats) = false
may_lie s (k ∷ ks) [] = false
may_lie s (k ∷ ks) (a ∷ ats) = may_lie_at s k a (slot_address s k) && (not (list_any (λ b. b == a) ats) && may_lie s ks ats)

-- ---- a packet in its slot: descriptor, buffer, bytes (DDK, NDIS_PACKET and NDIS_BUFFER; MDL)

abbrev pub with_word : List ℕ → Field → ℕ → List ℕ → List ℕ
with_word layout f value bytes = with_bytes bytes (offset_of layout f) (to_le_bytes w32 value)

abbrev pub with_byte : List ℕ → Field → ℕ → List ℕ → List ℕ
with_byte layout f value bytes = with_bytes bytes (offset_of layout f) (value ∷ [])

-- where the id stands by which a driver may cancel the packet: directly behind the out-of-band part; 0 is none (NDIS_SET_PACKET_CANCEL_ID)
abbrev pub id_place : ℕ
id_place = 112

-- one buffer, which is the first and the last; the flag says that the fields of the packet's buffers are allocated (fPACKET_ALLOCATED_BY_NDIS)
abbrev pub sent_packet : List ℕ → (buffer n id : ℕ) → List ℕ
sent_packet layout buffer n id =
    with_bytes
    (with_bytes
    (with_byte layout field.PacketNdisFlags 0x80
    (with_byte layout field.PacketValidCounts 1
    (with_word layout field.PacketCount 1
    (with_word layout field.PacketPhysicalCount 1
    (with_word layout field.PacketTotalLength n
    (with_word layout field.PacketTail buffer
    (with_word layout field.PacketHead buffer (packet_bytes layout))))))))
    (out_of_band + offset_of layout field.OobStatus) (to_le_bytes w32 pending))
    id_place (to_le_bytes w32 id)

-- what has no bytes makes no write
abbrev pub put_some : ℕ → List ℕ → List Write
put_some a [] = []
put_some a bytes = put a bytes ∷ []

abbrev pub slot_writes : List ℕ → (slot id : ℕ) → List ℕ → List Write
slot_writes layout slot id bytes =
    put slot (sent_packet layout (slot + 128) (length bytes) id) ∷ put (slot + 128) (buffer_bytes layout (slot + 512) (length bytes)) ∷ put_some (slot + 512) bytes

abbrev pub id_of : State → ℕ → ℕ
id_of s k = option_map_or (λ p. p.id) (slice_get s.owner.packets k) 0

unfoldable pub packet_writes : State → List ℕ → List ℕ → List Write
packet_writes s [] ats = []
packet_writes s (k ∷ ks) [] = []
packet_writes s (k ∷ ks) (a ∷ ats) = option_map_or (λ f. slot_writes s.world.layout a (id_of s k) f.bytes) (slice_get s.packets k) [] ++ packet_writes s ks ats

-- ---- words: a row for each handler that has more than its context

abbrev pub area : ℕ → ℕ
area x = (answer_area x).first.0

abbrev pub request_words : State → ℕ → Option Request → List ℕ
request_words s a None = []
request_words s a (Some r) =
    context_word s a ∷ oid_of r.question ∷ (request_bytes a).first.0 ∷ buffer_length s a r ∷ (request_count a).first.0 ∷ (request_needed a).first.0 ∷ []

abbrev pub event_place : ℕ → List ℕ → ℕ
event_place x [] = 0
event_place x bytes = area x

abbrev pub event_words : State → ℕ → ℕ → Option Event → List ℕ
event_words s a x None = []
event_words s a x (Some e) = context_word s a ∷ e.number ∷ event_place x e.bytes ∷ length e.bytes ∷ []

abbrev pub event_of : State → ℕ → Option Event
event_of s a = option_and_then (λ row. first row.events) (slice_get s.owner.adapters a)

abbrev pub cancel_of : State → ℕ → ℕ
cancel_of s a = option_map_or (λ row. slice_index_or row.cancels 0 0) (slice_get s.owner.adapters a) 0

abbrev pub words_of : State → ℕ → ℕ → Handler → List ℕ → List ℕ
words_of s a x handler.DriverEntry words = driver_entry_words
words_of s a x handler.Initialize words = area x ∷ (area x + 4) ∷ (area x + 8) ∷ 1 ∷ (adapter_block a).first.0 ∷ configuration_context a ∷ []
words_of s a x handler.Reset words = area x ∷ context_word s a ∷ []
words_of s a x handler.Isr words = area x ∷ (area x + 4) ∷ context_word s a ∷ []
words_of s a x handler.Timer words = 0 ∷ option_map_or (λ f. f.context) (timer_function s a) 0 ∷ 0 ∷ 0 ∷ []
words_of s a x handler.Sync words = call_word s (sync_caller s a) 3 ∷ []
words_of s a x handler.Send words = context_word s a ∷ word words 2 ∷ 0 ∷ []
words_of s a x handler.SendPackets words = context_word s a ∷ area x ∷ count_in words ∷ []
words_of s a x handler.ReturnPacket words = context_word s a ∷ word words 2 ∷ []
words_of s a x handler.Query words = request_words s a (to_hand s a)
words_of s a x handler.Set words = request_words s a (to_hand s a)
words_of s a x handler.CancelSend words = context_word s a ∷ cancel_of s a ∷ []
words_of s a x handler.PnpEvent words = event_words s a x (event_of s a)
words_of s a x _ words = context_word s a ∷ []

-- ---- writes: answer places as zeros, arrays, a set's bytes, packets

abbrev pub zero_at : ℕ → Write
zero_at a = guest.word a 0

abbrev pub writes_of : State → ℕ → ℕ → Handler → List ℕ → List Write → List Write
writes_of s a x handler.Initialize words writes = zero_at (area x) ∷ zero_at (area x + 4) ∷ zero_at (area x + 8) ∷ []
writes_of s a x handler.Reset words writes = zero_at (area x) ∷ []
writes_of s a x handler.Isr words writes = zero_at (area x) ∷ zero_at (area x + 4) ∷ []
writes_of s a x handler.Send words writes = packet_writes s (handed_to s a handler.Send words) (named_in handler.Send words writes)
writes_of s a x handler.SendPackets words writes =
    put_some (area x) (flat_map (to_le_bytes w32) (named_in handler.SendPackets words writes))
    ++ packet_writes s (handed_to s a handler.SendPackets words) (named_in handler.SendPackets words writes)
writes_of s a x handler.Query words writes = zero_at (request_count a).first.0 ∷ zero_at (request_needed a).first.0 ∷ []
writes_of s a x handler.Set words writes =
    zero_at (request_count a).first.0 ∷ zero_at (request_needed a).first.0 ∷ put_some (request_bytes a).first.0 (handed_bytes s a (to_hand s a))
writes_of s a x handler.PnpEvent words writes = put_some (area x) (option_map_or (λ e. e.bytes) (event_of s a) [])
writes_of s a x _ words writes = []

-- ---- whether an entry carries that

abbrev pub same_writes : List Write → List Write → Bool
same_writes [] [] = true
same_writes [] (w ∷ ws) = false
same_writes (v ∷ vs) [] = false
same_writes (v ∷ vs) (w ∷ ws) = (v.at.0 == w.at.0) && (bytes_eq v.bytes w.bytes && same_writes vs ws)

-- an array has 1 to 16 packets of the queue
abbrev pub most_in_array : ℕ
most_in_array = 16

-- what it was entered for is there
abbrev pub has_subject : State → ℕ → Handler → List ℕ → Bool
has_subject s a handler.ReturnPacket words = is_some (loan_named s a words)
has_subject s a handler.SendPackets words =
    nat_lt 0 (count_in words) && (nat_le (count_in words) most_in_array && nat_le (count_in words) (count_by (queued_of a) s.owner.packets))
has_subject s a _ words = true

-- in a free context, while no frame is due
abbrev pub carries : Inputs → State → ℕ → ℕ → Handler → List ℕ → List Write → Bool
carries c s a x h words writes =
    is_free s x && (not (frame_due c s) && (has_subject s a h words
    && (may_lie s (handed_to s a h words) (named_in h words writes)
    && (bytes_eq words (words_of s a x h words) && same_writes writes (writes_of s a x h words writes)))))

abbrev pub is_reset : Handler → Bool
is_reset handler.Reset = true
is_reset _ = false

-- an owed handler is entered; that of a reset stands only directly behind its `resetbegin`, and DriverEntry's in context 0 for no adapter
abbrev pub may_enter : Inputs → State → Option AdapterNo → ℕ → Handler → List ℕ → List Write → Bool
may_enter c s None x h words writes = (x == 0) && (owes_entry c s && carries c s 0 x handler.DriverEntry words writes)
may_enter c s (Some a) x h words writes = not (is_reset h) && (is_owed c s a.0 h && carries c s a.0 x h words writes)
