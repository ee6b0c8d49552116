-- The receive ring (DP8390 data sheet, "Packet Reception", "Buffer Ring"): frames are stored from CURR on in pages of 256 bytes, in front of
-- BNRY, the first page that the driver has not read yet.
use Rattle.std.specs.Prelude.{ℕ, ◌+◌, ◌-◌, ◌*◌, ◌/◌, ◌%◌, ◌==◌, Bool, ◌&&◌, not, nat_lt, nat_le, if◌then◌else◌, List, [], ◌∷◌, ◌++◌, length, take, replicate}
use Rattle.std.specs.List.{fold}
use Rattle.dp8390.specs.declared.registers.Registers.{Registers}
use Rattle.dp8390.specs.declared.board.Board.{Board}
use Rattle.dp8390.specs.Bits.{has, with_bits, stp, sta, loopback, mon, prx, ovw}
use Rattle.dp8390.specs.Registers.{with_miss, raised}
use Rattle.dp8390.specs.Memory.{put_byte}
use Rattle.dp8390.specs.RemoteDma.{next_address}
use Rattle.dp8390.specs.AddressFilter.{accepts, is_group}

-- ---- when the receiver looks at a frame

-- the receiver is started, and is not in loopback
abbrev pub is_started : Registers → Bool
is_started r = has r.command sta && (not (has r.command stp) && not (has r.transmit_configuration loopback))

-- a page lies in the ring
abbrev pub in_ring : Registers → ℕ → Bool
in_ring r page = nat_le r.page_start page && nat_lt page r.page_stop

-- the ring has pages and lies in memory, and both CURR and BNRY lie in it (the project's own)
abbrev pub has_ring : Registers → Bool
has_ring r =
    ((nat_le 0x40 r.page_start && nat_lt r.page_start r.page_stop) && nat_le r.page_stop 0x80)
    && (in_ring r r.current && in_ring r r.boundary)

-- a frame below the least length is padded with zeros (the project's own)
abbrev pub padded : List ℕ → List ℕ
padded frame = frame ++ replicate (60 - length frame) 0

-- the first six bytes
abbrev pub destination_of : List ℕ → List ℕ
destination_of frame = take 6 (padded frame)

-- ---- room in the ring

abbrev pub ring_pages : Registers → ℕ
ring_pages r = r.page_stop - r.page_start

-- from CURR up to BNRY; where they meet, the whole ring
abbrev pub free_pages : Registers → ℕ
free_pages r =
    let distance = (r.boundary + ring_pages r - r.current) % ring_pages r in
    if distance == 0 then ring_pages r else distance

-- the pages of a frame of n bytes, with four bytes in front and four behind
abbrev pub pages_of : ℕ → ℕ
pages_of n = (n + 8 + 255) / 256

-- the page so many pages behind CURR
abbrev pub page_behind : Registers → ℕ → ℕ
page_behind r pages = if nat_lt (r.current + pages) r.page_stop then r.current + pages else r.current + pages - ring_pages r

-- ---- storing

-- the receive status: packet received intact, and whether to a group address
abbrev pub status_of : List ℕ → ℕ
status_of address = if is_group address then 0x21 else 0x01

-- in front of a frame: its status, the page of the next frame, and its length with the check sequence and without the header
abbrev pub header : ℕ → ℕ → ℕ → List ℕ
header status next_page n = status ∷ next_page ∷ (n + 4) % 256 ∷ (n + 4) / 256 ∷ []

-- bytes are put one after another, as the local DMA does
abbrev pub put_next : Registers → List ℕ × ℕ → ℕ → List ℕ × ℕ
put_next r place byte = (put_byte place.0 place.1 byte, next_address r place.1)

abbrev pub put_bytes : Registers → List ℕ × ℕ → List ℕ → List ℕ × ℕ
put_bytes r place bytes = fold (put_next r) place bytes

-- the address so many bytes behind one of the ring, over its end
abbrev pub ring_address : Registers → ℕ → ℕ → ℕ
ring_address r a k = if nat_lt (a + k) (256 * r.page_stop) then a + k else a + k - (256 * r.page_stop - 256 * r.page_start)

-- what is stored of a frame: its header, the frame, and four zeros for the check sequence
abbrev pub packet : Registers → ℕ → List ℕ → List ℕ
packet r status frame =
    header status (page_behind r (pages_of (length frame))) (length frame) ++ frame ++ replicate 4 0

abbrev pub after_store : Board → ℕ → List ℕ → Board
after_store b status frame = record b {
  memory = (put_bytes b.registers (b.memory, 256 * b.registers.current) (packet b.registers status frame)).0;
  registers = record b.registers {
    current = page_behind b.registers (pages_of (length frame));
    receive_status = status;
    interrupt_status = with_bits b.registers.interrupt_status prx;
  };
}

-- ---- a frame arrives

-- where the frame takes as many pages as are free, or more, it is missed
abbrev pub has_room : Registers → List ℕ → Bool
has_room r frame = nat_lt (pages_of (length frame)) (free_pages r)

-- a frame that is taken
abbrev pub after_taking : Board → List ℕ → Board
after_taking b frame =
    if has b.registers.receive_configuration mon then record b { registers = with_miss b.registers }
    else if has_room b.registers frame then after_store b (status_of (take 6 frame)) frame
    else record b { registers = with_miss (raised b.registers ovw) }

abbrev pub after_arrival : Board → List ℕ → Board
after_arrival b frame =
    if (is_started b.registers && has_ring b.registers) && accepts b.registers (destination_of frame)
    then after_taking b (padded frame)
    else b
