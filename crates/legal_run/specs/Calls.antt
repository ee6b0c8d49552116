-- What a call makes, and what is drawn from a leave. A call is judged whole, once, at its entry: first by its import's row (rules 5, 9, 6, 2), then by
-- what it does to packets, loans and requests (rules 2 and 11 of a packet, 12, 1, 3, 4, 10). (Windows DDK: NdisMSendComplete, NdisMIndicateReceivePacket,
-- NdisMResetComplete, NdisMQueryInformationComplete, NdisMSetInformationComplete, and what each Miniport function answers. The order of rules is the
-- project's own, docs/LEGAL-RUN.md.)
use Rattle.std.specs.Prelude.{ℕ, zero, suc, ◌+◌, ◌-◌, ◌*◌, ◌/◌, ◌%◌, Bool, true, false, ◌&&◌, ◌||◌, ◌==◌, not, nat_le, nat_lt, if◌then◌else◌, List, [], ◌∷◌, ◌++◌, length, map, take, filter, slice_get, count_by, position, Option, Some, None, is_some}
use Rattle.std.specs.Option.{option_map, option_map_or, option_and_then}
use Rattle.std.specs.List.{list_any}
use Rattle.std.specs.Int.{w32, to_le_bytes}
use Rattle.nd_base.specs.declared.layout_field.Field.TheVariants.{OobStatus}
use Rattle.nd_base.specs.declared.numbers.AdapterNo.{AdapterNo}
use Rattle.nd_base.specs.declared.numbers.CtxNo.{CtxNo}
use Rattle.nd_base.specs.Layout.{offset_of}
use Rattle.nd_mem.specs.Space.{bytes_from, wrapped}
use Rattle.guest_map.specs.Regions.{send_slot, request_bytes, request_count}
use Rattle.packet_chain.specs.Chain.{word_at}
use Rattle.packet_pool.specs.declared.states.Kind.TheVariants.{Packet}
use Rattle.packet_pool.specs.DescriptorBytes.{out_of_band}
use Rattle.packet_pool.specs.LiveSet.{is_out, is_lent}
use Rattle.irql_lock.specs.LockState.{holds_any, context_of}
use Rattle.irql_lock.specs.LockMoves.{has_come_back}
use Rattle.log_fields.specs.declared.write.Write.{Write}
use Rattle.log_fields.specs.declared.field_values.Direction.{Direction}
use Rattle.log_fields.specs.declared.field_values.Direction.TheVariants as direction
use Rattle.log_fields.specs.declared.field_values.Handler.{Handler}
use Rattle.log_fields.specs.declared.field_values.Handler.TheVariants as handler
use Rattle.log_fields.specs.declared.field_values.Question.{Question}
use Rattle.log_fields.specs.declared.field_values.Question.TheVariants as question
use Rattle.call_log.specs.declared.entry.Entry.{Entry}
use Rattle.call_log.specs.declared.entry.Entry.TheVariants as entries
use Rattle.import_table.specs.Table.{row_of}
use Rattle.guest_world.specs.declared.answer.Reply.{Reply}
use Rattle.import_answers.specs.Statuses.{success, pending, resources}
use Rattle.import_answers.specs.Outcomes.{Outcome, Breaks, Replies, Picks, PicksDescriptor, Spins, Sleeps, Synchronizes}
use Rattle.import_answers.specs.World.{word}
use Rattle.import_answers.specs.Ports.{offset_of_port}
use Rattle.import_answers.specs.Answers.{outcome}
use Rattle.owner_machine.specs.declared.rows.Packet.{Packet as PacketRow}
use Rattle.owner_machine.specs.declared.rows.Request.{Request}
use Rattle.owner_machine.specs.State.{is_resetting, phase_is, numbers_from}
use Rattle.owner_machine.specs.Contexts.{serialized, send_complete, indicate_receive_packet, reset_complete, query_complete, set_complete}
use Rattle.owner_machine.specs.Packets.{is_miniport, is_aborted, at_miniport}
use Rattle.owner_machine.specs.Loans.{away_of, wanting}
use Rattle.owner_machine.specs.Requests.{handed_of, is_set}
use Rattle.owner_machine.specs.Handlers.{is_none as is_empty}
use Rattle.legal_run.specs.State.{Inputs, State, Wait, OnLock, OnClock, OnSync, Needed, adapter, cells, context_at, adapter_of, handler_of, caller, is_registered, part_of}
use Rattle.legal_run.specs.Owed.{first}
use Rattle.legal_run.specs.Frames.{frame_at}
use Rattle.legal_run.specs.Guest.{word as put_word}

-- ---- a packet at the miniport lies in a send slot of its driver

abbrev pub slot_address : State → ℕ → Option ℕ
slot_address s k =
    option_and_then (λ p. option_map (λ n. (send_slot p.driver.0 n).first.0) (option_and_then (λ f. f.slot) (slice_get s.packets k))) (slice_get s.owner.packets k)

abbrev pub is_at : ℕ → Option ℕ → Bool
is_at a None = false
is_at a (Some b) = b == a

-- it was handed to the adapter's miniport, which holds it still, or a reset has aborted it
abbrev pub was_handed : ℕ → PacketRow → Bool
was_handed a p = (p.adapter.0 == a) && (is_miniport p.place || is_aborted p.place)

abbrev pub handed_at : State → ℕ → ℕ → Option ℕ
handed_at s a packet = first (filter (λ k. is_at packet (slot_address s k)) (numbers_from 0 (was_handed a) s.owner.packets))

-- the status in a packet's out-of-band part, which stands where the library keeps it
abbrev pub status_place : State → ℕ → ℕ
status_place s packet = wrapped (packet + (out_of_band + offset_of s.world.layout OobStatus))

abbrev pub status_at : State → ℕ → ℕ
status_at s packet = word_at (cells s) (status_place s packet)

-- ---- what a call does

-- it breaks a rule; it waits; or it makes entries, which lend these descriptors, and then has its reply, with these writes behind those of its row
pub data Did : Type 0 where
  Broken : (rule : ℕ) → Did
  Waits : (wait : Wait) → Did
  Made : (es : List Entry) (lent : List ℕ) (writes : List Write) → Did

abbrev pub makes : List Entry → Did
makes es = Made es [] []

-- where it is so, the rest; elsewhere the rule is broken
abbrev pub needs : Bool → ℕ → Did → Did
needs true rule rest = rest
needs false rule rest = Broken rule

-- NdisMSendComplete: the packet is completed, or is late where a reset has aborted it
abbrev pub ending_of : State → ℕ → ℕ → Entry
ending_of s k status =
    if at_miniport s.owner k then entries.Complete (record { 0 = k }) (record { 0 = status }) else entries.Late (record { 0 = k })

abbrev pub completion : State → ℕ → Option ℕ → Did
completion s status None = Broken 1
completion s status (Some k) = needs (not (status == pending)) 10 (makes (ending_of s k status ∷ []))

-- NdisMIndicateReceivePacket: one packet after the other. What an array makes up to a packet that breaks a rule counts for nothing.
pub data Walked : Type 0 where
  Fell : (rule : ℕ) → Walked
  Went : (es : List Entry) (lent : List ℕ) (writes : List Write) → Walked

abbrev pub onto : Entry → ℕ → List Write → Walked → Walked
onto e descriptor status (Fell rule) = Fell rule
onto e descriptor status (Went es lent writes) = Went (e ∷ es) (descriptor ∷ lent) (status ++ writes)

-- a packet of the pools that is out, and on no loan, and that did not stand in this array before
abbrev pub may_be_lent : State → (before : List ℕ) → ℕ → Bool
may_be_lent s before packet = is_out s.world.pools Packet packet && (not (is_lent s.world.pools packet) && not (list_any (λ d. d == packet) before))

-- the miniport has it back at once: it was copied, or nobody holds it and the miniport is serialized
abbrev pub stays_home : State → ℕ → List ℕ → Bool → Bool
stays_home s a holders copied = copied || (is_empty holders && serialized s.owner a)

abbrev pub is_copied : State → ℕ → Bool
is_copied s packet = status_at s packet == resources

abbrev pub indicate : State → ℕ → ℕ → List ℕ → Bool → Entry
indicate s a j bytes copied =
    entries.Indicate (adapter a) (record { 0 = j }) bytes (map (λ b. record { 0 = b }) (wanting s.owner a bytes)) copied

abbrev pub most_loans : ℕ
most_loans = 256

-- a serialized miniport is told by the packet's status whether it has the packet back
abbrev pub status_written : State → ℕ → ℕ → List ℕ → List Write
status_written s a packet holders =
    if is_copied s packet || not (serialized s.owner a) then []
    else put_word (status_place s packet) (if is_empty holders then success else pending) ∷ []

abbrev pub told : State → ℕ → (j away packet : ℕ) → List ℕ → (home gone : Walked) → Walked
told s a j away packet bytes home gone =
    let holders = wanting s.owner a bytes in
    let e = indicate s a j bytes (is_copied s packet) in
    let status = status_written s a packet holders in
    if stays_home s a holders (is_copied s packet) then onto e packet status home
    else if nat_lt away most_loans then onto e packet status gone
    else Fell 12

abbrev pub judged : State → ℕ → (j away packet : ℕ) → (lendable : Bool) → Option (List ℕ) → (home gone : Walked) → Walked
judged s a j away packet false frame home gone = Fell 2
judged s a j away packet true None home gone = Fell 11
judged s a j away packet true (Some bytes) home gone = told s a j away packet bytes home gone

-- `j` is the next loan's number, `away` how many are away, `before` what stood in this array before
unfoldable pub indicated : State → ℕ → (j away : ℕ) → (before : List ℕ) → List ℕ → Walked
indicated s a j away before [] = Went [] [] []
indicated s a j away before (packet ∷ packets) =
    judged s a j away packet (may_be_lent s before packet) (frame_at s.world.layout (cells s) packet) (indicated s a (suc j) away (packet ∷ before) packets)
    (indicated s a (suc j) (suc away) (packet ∷ before) packets)

-- an array has 64 packets at most
abbrev pub most_packets : ℕ
most_packets = 64

abbrev pub array_made : ℕ → Walked → Did
array_made n (Fell rule) = Broken rule
array_made n (Went es lent writes) = needs (nat_le n most_packets) 12 (Made es lent writes)

-- the words of an array, of which there are n
unfoldable pub words_from : State → ℕ → ℕ → List ℕ
words_from s a zero = []
words_from s a (suc n) = word_at (cells s) (wrapped a) ∷ words_from s (a + 4) n

abbrev pub indication : State → ℕ → ℕ → ℕ → Did
indication s a array n = array_made n (indicated s a (length s.owner.loans) (count_by (away_of a) s.owner.loans) [] (words_from s array n))

-- NdisMResetComplete
abbrev pub reset_end : State → ℕ → ℕ → Did
reset_end s a status =
    needs (phase_is is_resetting s.owner a) 4
    (needs (not (status == pending)) 10 (makes (entries.ResetEnd (adapter a) (record { 0 = status }) ∷ [])))

-- NdisMQueryInformationComplete, NdisMSetInformationComplete, and the verdict of the handlers: what a query wrote is its answer

-- how many bytes the miniport says that it wrote
abbrev pub written_count : State → ℕ → ℕ
written_count s a = word_at (cells s) (request_count a).first.0

-- a query that succeeds wrote no more than it was asked for
abbrev pub fits : State → ℕ → ℕ → Question → Bool
fits s a status (question.Query oid n) = not (status == success) || nat_le (written_count s a) n
fits s a status (question.Set oid bytes) = true

abbrev pub answer_bytes : State → ℕ → ℕ → Question → List ℕ
answer_bytes s a status (question.Query oid n) = if status == success then bytes_from (cells s) (request_bytes a).first.0 (written_count s a) else []
answer_bytes s a status (question.Set oid bytes) = []

abbrev pub answer : State → ℕ → ℕ → ℕ → Question → Entry
answer s a status r asked = entries.Answer (record { 0 = r }) (record { 0 = status }) (answer_bytes s a status asked)

abbrev pub same_kind : Bool → Bool → Bool
same_kind true set = set
same_kind false set = not set

-- the adapter's request that is handed
abbrev pub handed_request : State → ℕ → Option ℕ
handed_request s a = position (handed_of a) s.owner.requests

abbrev pub answered : State → ℕ → Bool → ℕ → Option ℕ → Option Request → Did
answered s a set status (Some r) (Some row) =
    needs (same_kind set (is_set row.question)) 3
    (needs (not (status == pending) && fits s a status row.question) 10 (makes (answer s a status r row.question ∷ [])))
answered s a set status _ _ = Broken 3

abbrev pub request_end : State → ℕ → Bool → ℕ → Did
request_end s a set status =
    answered s a set status (handed_request s a) (option_and_then (λ r. slice_get s.owner.requests r) (handed_request s a))

-- READ_PORT_UCHAR and its like, imports 53 to 60: the bytes that were moved, and the frames that the card sent then. A port that is not the adapter's
-- makes no entry.

abbrev pub is_port_call : ℕ → Bool
is_port_call import = nat_le 53 import && nat_le import 60

-- one byte, or two
abbrev pub width_of : ℕ → ℕ
width_of import = 2 - import % 2

abbrev pub is_read : ℕ → Bool
is_read import = ((import - 53) / 2) % 2 == 0

abbrev pub moves_buffer : ℕ → Bool
moves_buffer import = nat_le 57 import

abbrev pub way_of : ℕ → Direction
way_of import = if is_read import then direction.In else direction.Out

abbrev pub first_bytes : List Write → List ℕ
first_bytes [] = []
first_bytes (write ∷ writes) = write.bytes

abbrev pub number_moved : ℕ → List ℕ → Reply → ℕ
number_moved import words reply = if is_read import then reply.eax else word words 2

abbrev pub bytes_moved : State → ℕ → List ℕ → Reply → List ℕ
bytes_moved s import words reply =
    if not (moves_buffer import) then take (width_of import) (to_le_bytes w32 (number_moved import words reply))
    else if is_read import then first_bytes reply.writes
    else bytes_from (cells s) (word words 2) (width_of import * word words 3)

abbrev pub port_entries : State → ℕ → ℕ → List ℕ → Reply → Option ℕ → List Entry
port_entries s a import words reply None = []
port_entries s a import words reply (Some port) =
    entries.Port (adapter a) (way_of import) (width_of import) port (bytes_moved s import words reply) ∷ map (λ frame. entries.WireOut (adapter a) frame) reply.sent

-- by import, where its row breaks no rule and it does not wait
abbrev pub served : State → Option AdapterNo → ℕ → List ℕ → Reply → Did
served s None import words reply = makes []
served s (Some a) import words reply =
    if import == send_complete then completion s (word words 3) (handed_at s a.0 (word words 2))
    else if import == indicate_receive_packet then indication s a.0 (word words 2) (word words 3)
    else if import == reset_complete then reset_end s a.0 (word words 2)
    else if import == query_complete then request_end s a.0 false (word words 2)
    else if import == set_complete then request_end s a.0 true (word words 2)
    else if is_port_call import then makes (port_entries s a.0 import words reply (offset_of_port s.world (Some a) (word words 1)))
    else makes []

abbrev pub by_outcome : State → Option AdapterNo → ℕ → List ℕ → Outcome → Did
by_outcome s a import words (Breaks rule) = Broken rule
by_outcome s a import words (Replies reply world) = served s a import words reply
by_outcome s a import words (Picks n reply world) = makes []
by_outcome s a import words (PicksDescriptor kind handle reply world) = makes []
by_outcome s a import words (Spins holder world) = Waits (OnLock (word words 1))
by_outcome s a import words (Sleeps moment) = Waits (OnClock moment)
by_outcome s a import words Synchronizes = Waits (OnSync Needed)

-- what the import's row says of the call, in the state that stands
abbrev pub outcome_of : State → CtxNo → ℕ → List ℕ → Outcome
outcome_of s x import words = outcome s.world (caller s x) (row_of import) words

abbrev pub did : State → CtxNo → ℕ → List ℕ → Did
did s x import words = by_outcome s (adapter_of s x.0) import words (outcome_of s x import words)

-- ---- what is drawn from a leave, by rules 7, 1, 3, 4, 10, 14 in this order: a rule that it breaks, or the verdicts that stand behind it

pub data Drawn : Type 0 where
  Breaking : (rule : ℕ) → Drawn
  Draws : (es : List Entry) → Drawn

abbrev pub asks : Bool → ℕ → Drawn → Drawn
asks true rule rest = rest
asks false rule rest = Breaking rule

abbrev pub draws_first : Entry → Drawn → Drawn
draws_first e (Breaking rule) = Breaking rule
draws_first e (Draws es) = Draws (e ∷ es)

abbrev pub requeue : ℕ → Entry
requeue k = entries.Requeue (record { 0 = k })

abbrev pub complete : ℕ → ℕ → Entry
complete k status = entries.Complete (record { 0 = k }) (record { 0 = status })

-- behind a packet without resources each later one of the array goes back too that the miniport still holds
unfoldable pub given_back : State → List ℕ → List Entry
given_back s [] = []
given_back s (k ∷ ks) = if at_miniport s.owner k then requeue k ∷ given_back s ks else given_back s ks

-- the verdicts on packets, one after the other, by the status of each
unfoldable pub verdicts : State → (status_of : ℕ → ℕ) → (serial : Bool) → List ℕ → Drawn
verdicts s status_of serial [] = Draws []
verdicts s status_of serial (k ∷ ks) =
    if status_of k == pending then verdicts s status_of serial ks
    else if not (at_miniport s.owner k) then Breaking 1
    else if serial && (status_of k == resources) then Draws (requeue k ∷ given_back s ks)
    else draws_first (complete k (status_of k)) (verdicts s status_of serial ks)

abbrev pub slot_status : State → ℕ → ℕ
slot_status s k = option_map_or (status_at s) (slot_address s k) 0

-- the verdict on the request that the handler was entered for
abbrev pub request_verdict : State → ℕ → ℕ → Option ℕ → Option Request → Drawn
request_verdict s a status (Some r) (Some row) =
    if status == pending then Draws []
    else asks (is_at r (handed_request s a)) 3 (asks (fits s a status row.question) 10 (Draws (answer s a status r row.question ∷ [])))
request_verdict s a status _ _ = Draws []

abbrev pub has_attributes : State → ℕ → Bool
has_attributes s a = option_map_or (λ part. is_some part.attributes) (part_of s a) false

-- of an adapter's handler that was entered for these, and answers EAX
abbrev pub drawn_from : State → ℕ → ℕ → List ℕ → Handler → Drawn
drawn_from s a eax subject handler.Send = verdicts s (λ k. eax) (serialized s.owner a) subject
drawn_from s a eax subject handler.SendPackets = if serialized s.owner a then verdicts s (slot_status s) true subject else Draws []
drawn_from s a eax subject handler.Query = request_verdict s a eax (first subject) (option_and_then (λ r. slice_get s.owner.requests r) (first subject))
drawn_from s a eax subject handler.Set = request_verdict s a eax (first subject) (option_and_then (λ r. slice_get s.owner.requests r) (first subject))
drawn_from s a eax subject handler.Reset =
    if eax == pending then Draws []
    else asks (phase_is is_resetting s.owner a) 4 (Draws (entries.ResetEnd (adapter a) (record { 0 = eax }) ∷ []))
drawn_from s a eax subject handler.Initialize =
    asks (not (eax == pending)) 10 (asks (not (eax == success) || has_attributes s a) 14 (Draws []))
drawn_from s a eax subject _ = Draws []

-- DriverEntry that succeeds has registered a miniport, where there is an adapter for it
abbrev pub drawn : Inputs → State → Option AdapterNo → ℕ → List ℕ → Handler → Drawn
drawn c s None eax subject h = asks (not (eax == success) || (is_registered s || is_empty c.adapters)) 14 (Draws [])
drawn c s (Some a) eax subject h = drawn_from s a.0 eax subject h

-- it leaves at the level that it began at, and holds no lock
abbrev pub leaves_even : State → CtxNo → Bool
leaves_even s x = has_come_back (context_of s.world.levels x) && not (holds_any s.world.levels.locks x)

abbrev pub leaves : Inputs → State → CtxNo → ℕ → Drawn
leaves c s x eax = asks (leaves_even s x) 7 (drawn c s (adapter_of s x.0) eax (context_at s x.0).subject (handler_of s x.0))
