-- Imports 53 to 60: accesses to ports. (Windows DDK, wdm.h: READ_PORT_UCHAR, READ_PORT_USHORT, WRITE_PORT_UCHAR, WRITE_PORT_USHORT and the forms that
-- move a buffer. A port that no card has reads all ones, as the bus of a PC does, and takes no write.)
use Rattle.std.specs.Prelude.{ℕ, zero, suc, ◌+◌, ◌-◌, ◌*◌, ◌^◌, ◌&&◌, nat_le, nat_lt, if◌then◌else◌, List, [], ◌∷◌, ◌++◌, take, drop, replicate, slice_index_or, Option, None, Some}
use Rattle.std.specs.Int.{w32, to_le_bytes}
use Rattle.nd_mem.specs.Space.{bytes_from}
use Rattle.dp8390.specs.declared.board.Board.{Board}
use Rattle.dp8390.specs.Card.{bytes_read, after_read, after_write, after_take, new_card}
use Rattle.nd_base.specs.declared.numbers.AdapterNo.{AdapterNo}
use Rattle.guest_world.specs.declared.adapters.Adapter.{Adapter}
use Rattle.guest_world.specs.declared.world.World.{World}
use Rattle.guest_world.specs.declared.answer.Caller.{Caller}
use Rattle.guest_world.specs.Worlds.{adapter_of, with_adapter}
use Rattle.import_answers.specs.World.{cells, word, hardware_of}
use Rattle.import_answers.specs.Outcomes.{Outcome, Replies, arguments_rule, asks, can_read, can_write}
use Rattle.import_answers.specs.Resources.{ports}
use Rattle.import_answers.specs.Blocks.{bytes_written, moves}

-- an access: the card's port, counted from its first, if the port is one of the 32 of the caller's adapter
abbrev pub offset_in : ℕ → ℕ → Option ℕ
offset_in first port = if nat_le first port && nat_lt port (first + ports) then Some (port - first) else None

abbrev pub offset_of_port : World → Option AdapterNo → ℕ → Option ℕ
offset_of_port w None port = None
offset_of_port w (Some a) port = offset_in (hardware_of w (Some a)).port port

abbrev pub no_card : Board
no_card = new_card []

abbrev pub card_in : Option Adapter → Board
card_in None = no_card
card_in (Some adapter) = adapter.card

abbrev pub card_of : World → Option AdapterNo → Board
card_of w a = card_in (adapter_of w a)

abbrev pub with_card : World → Option AdapterNo → Board → World
with_card w a card = with_adapter w a (λ adapter. record adapter { card = card })

-- ---- the accesses of a call, one after the other, each of so many bytes

-- what reads give, and the card after them
abbrev pub Given : Type 0
Given = List ℕ × Board

unfoldable pub reads : Board → ℕ → ℕ → ℕ → Given
reads card port width zero = ([], card)
reads card port width (suc n) = let more = reads (after_read card port width) port width n in (bytes_read card port width ++ more.0, more.1)

-- the frame that the card sent, if one
abbrev pub sent_in : Option (List ℕ) → List (List ℕ)
sent_in None = []
sent_in (Some frame) = frame ∷ []

-- the frames that writes send, and the card after them
abbrev pub Sent : Type 0
Sent = List (List ℕ) × Board

unfoldable pub puts : Board → ℕ → ℕ → List ℕ → ℕ → Sent
puts card port width bytes zero = ([], card)
puts card port width bytes (suc n) =
    let there = after_write card port (take width bytes) in
    let more = puts (after_take there) port width (drop width bytes) n in
    (sent_in there.sent ++ more.0, more.1)

-- the number that one or two bytes make
abbrev pub low_first : List ℕ → ℕ
low_first bytes = slice_index_or bytes 0 0 + 256 * slice_index_or bytes 1 0

-- ---- READ_PORT_UCHAR(port), READ_PORT_USHORT(port): what stands above the bytes that are read is 0

abbrev pub read_port : World → Caller → List ℕ → ℕ → Option ℕ → Outcome
read_port w x words width None = Replies (record { eax = 256 ^ width - 1; writes = []; cost = 1; sent = [] }) w
read_port w x words width (Some port) =
    let card = card_of w x.adapter in
    Replies (record { eax = low_first (bytes_read card port width); writes = []; cost = 1; sent = [] }) (with_card w x.adapter (after_read card port width))

-- ---- WRITE_PORT_UCHAR(port, value), WRITE_PORT_USHORT(port, value)

abbrev pub write_port : World → Caller → List ℕ → ℕ → Option ℕ → Outcome
write_port w x words width None = Replies (record { eax = 0; writes = []; cost = 1; sent = [] }) w
write_port w x words width (Some port) =
    let given = puts (card_of w x.adapter) port width (take width (to_le_bytes w32 (word words 2))) 1 in
    Replies (record { eax = 0; writes = []; cost = 1; sent = given.0 }) (with_card w x.adapter given.1)

-- ---- READ_PORT_BUFFER_UCHAR(port, buffer, count), READ_PORT_BUFFER_USHORT(port, buffer, count)

abbrev pub read_buffer : World → Caller → List ℕ → ℕ → Option ℕ → Outcome
read_buffer w x words width None =
    let n = width * word words 3 in
    Replies (record { eax = 0; writes = bytes_written (word words 2) (replicate n 0xFF); cost = moves n; sent = [] }) w
read_buffer w x words width (Some port) =
    let given = reads (card_of w x.adapter) port width (word words 3) in
    Replies (record { eax = 0; writes = bytes_written (word words 2) given.0; cost = moves (width * word words 3); sent = [] }) (with_card w x.adapter given.1)

-- ---- WRITE_PORT_BUFFER_UCHAR(port, buffer, count), WRITE_PORT_BUFFER_USHORT(port, buffer, count)

abbrev pub write_buffer : World → Caller → List ℕ → ℕ → Option ℕ → Outcome
write_buffer w x words width None = Replies (record { eax = 0; writes = []; cost = moves (width * word words 3); sent = [] }) w
write_buffer w x words width (Some port) =
    let n = width * word words 3 in
    let given = puts (card_of w x.adapter) port width (bytes_from (cells w) (word words 2) n) (word words 3) in
    Replies (record { eax = 0; writes = []; cost = moves n; sent = given.0 }) (with_card w x.adapter given.1)

-- ---- by width

abbrev pub in_port : World → Caller → List ℕ → ℕ → Outcome
in_port w x words width = read_port w x words width (offset_of_port w x.adapter (word words 1))

abbrev pub out_port : World → Caller → List ℕ → ℕ → Outcome
out_port w x words width = write_port w x words width (offset_of_port w x.adapter (word words 1))

abbrev pub in_buffer : World → Caller → List ℕ → ℕ → Outcome
in_buffer w x words width =
    asks (can_write w (word words 2) (width * word words 3)) arguments_rule (read_buffer w x words width (offset_of_port w x.adapter (word words 1)))

abbrev pub out_buffer : World → Caller → List ℕ → ℕ → Outcome
out_buffer w x words width =
    asks (can_read w (word words 2) (width * word words 3)) arguments_rule (write_buffer w x words width (offset_of_port w x.adapter (word words 1)))
