-- Laws of the card. Each record is the contract of a function of src/laws.rt that does nothing.
use Rattle.std.specs.Prelude.{◌≡◌, ◌≢◌, ◌≤◌, ◌<◌, ℕ, ◌+◌, ◌-◌, ◌*◌, ◌^◌, min, true, false, List, [], ◌∷◌, length, Some, slice_index}
use Rattle.std.specs.Int.{bit_at}
use Rattle.dp8390.specs.declared.registers.Registers.{Registers}
use Rattle.dp8390.specs.declared.board.Board.{Board}
use Rattle.dp8390.specs.declared.register_map.Register.TheVariants.{Boundary, Current, Physical, Multicast, RemoteAddressLow, RemoteAddressHigh}
use Rattle.dp8390.specs.Bits.{has, loopback}
use Rattle.dp8390.specs.Registers.{value_of, after_writing, transmits, line_is_up}
use Rattle.dp8390.specs.AddressFilter.{hash, accepts}
use Rattle.dp8390.specs.RemoteDma.{next_address}
use Rattle.dp8390.specs.Transmit.{is_sendable, frame_to_send, after_transmit}
use Rattle.dp8390.specs.Ring.{has_ring, has_room, ring_pages, ring_address, packet, padded, destination_of, after_store, after_arrival}
use Rattle.dp8390.specs.Card.{Event, after_read, after_write, card_after}

-- the interrupt line is up exactly where the status and the mask share one of the bits 0 to 6
pub record LineLaws : Type 0 where
  pub up : (r : Registers) (k : ℕ) → k < 7 → bit_at r.interrupt_status k ≡ 1 → bit_at r.interrupt_mask k ≡ 1 → line_is_up r ≡ true
  pub down : (r : Registers) → ((k : ℕ) → k < 7 → min (bit_at r.interrupt_status k) (bit_at r.interrupt_mask k) ≡ 0) → line_is_up r ≡ false

-- a register reads what was written to it
pub record ReadBackLaws : Type 0 where
  pub boundary : (r : Registers) (v : ℕ) → value_of (after_writing r Boundary v) Boundary ≡ v
  pub current : (r : Registers) (v : ℕ) → value_of (after_writing r Current v) Current ≡ v
  pub physical : (r : Registers) (k v : ℕ) → k < length r.physical → value_of (after_writing r (Physical k) v) (Physical k) ≡ v
  pub multicast : (r : Registers) (k v : ℕ) → k < length r.multicast → value_of (after_writing r (Multicast k) v) (Multicast k) ≡ v
  pub remote_low : (r : Registers) (v : ℕ) → v < 256 → value_of (after_writing r RemoteAddressLow v) RemoteAddressLow ≡ v
  pub remote_high : (r : Registers) (v : ℕ) → value_of (after_writing r RemoteAddressHigh v) RemoteAddressHigh ≡ v
  -- the two bytes of a word are apart
  pub low_stays : (r : Registers) (v : ℕ) → value_of (after_writing r RemoteAddressHigh v) RemoteAddressLow ≡ value_of r RemoteAddressLow
  pub high_stays : (r : Registers) (v : ℕ) → v < 256 → value_of (after_writing r RemoteAddressLow v) RemoteAddressHigh ≡ value_of r RemoteAddressHigh

-- what an arrival leaves as it was: all registers but CURR, RSR, ISR and CNTR2, and the frame that was sent
pub record OnlyReceives (before after : Board) : Type 0 where
  pub registers : after.registers ≡ record before.registers {
    current = after.registers.current;
    receive_status = after.registers.receive_status;
    interrupt_status = after.registers.interrupt_status;
    missed_packets = after.registers.missed_packets;
  }
  pub station : after.station ≡ before.station
  pub sent : after.sent ≡ before.sent

-- a frame that is not stored leaves memory and the ring as they were
pub record StoresNothing (before after : Board) : Type 0 where
  pub memory : after.memory ≡ before.memory
  pub registers : after.registers ≡ record before.registers {
    interrupt_status = after.registers.interrupt_status;
    missed_packets = after.registers.missed_packets;
  }

pub record ArrivalLaws : Type 0 where
  pub only : (b : Board) (frame : List ℕ) → OnlyReceives b (after_arrival b frame)
  -- a frame that the filter does not take changes nothing
  pub refused : (b : Board) (frame : List ℕ) → accepts b.registers (destination_of frame) ≡ false → after_arrival b frame ≡ b
  -- one for which there is no room changes nothing but counters and interrupts
  pub missed : (b : Board) (frame : List ℕ) → has_room b.registers (padded frame) ≡ false → StoresNothing b (after_arrival b frame)
  -- CURR is moved by an arrival to a page of the ring other than BNRY, or not at all
  pub apart : (b : Board) (frame : List ℕ) → (after_arrival b frame).registers.current ≢ b.registers.current → (after_arrival b frame).registers.current ≢ b.registers.boundary

-- A frame that is stored stands in the ring from CURR on, its header in front, over the end of the ring; other memory is as before.
pub record RingLaws : Type 0 where
  -- it is shorter than the ring
  pub fits : (b : Board) (status : ℕ) (frame : List ℕ) → has_ring b.registers ≡ true → has_room b.registers frame ≡ true → length (packet b.registers status frame) < 256 * ring_pages b.registers
  pub stored : (b : Board) (status : ℕ) (frame : List ℕ) (k : ℕ) → length b.memory ≡ 0x4000 → has_ring b.registers ≡ true → has_room b.registers frame ≡ true → k < length (packet b.registers status frame)
      → slice_index (after_store b status frame).memory (ring_address b.registers (256 * b.registers.current) k - 0x4000) ≡ slice_index (packet b.registers status frame) k
  pub others : (b : Board) (status : ℕ) (frame : List ℕ) (x : ℕ) → has_ring b.registers ≡ true → has_room b.registers frame ≡ true → 0x4000 ≤ x
      → ((k : ℕ) → k < length (packet b.registers status frame) → ring_address b.registers (256 * b.registers.current) k ≢ x)
      → slice_index (after_store b status frame).memory (x - 0x4000) ≡ slice_index b.memory (x - 0x4000)

pub record SendLaws : Type 0 where
  -- nothing is sent but by a write of TXP with STA to the command register
  pub quiet : (b : Board) (port : ℕ) (bytes : List ℕ) → (port ≡ 0 → transmits (slice_index bytes 0) ≡ false) → (after_write b port bytes).sent ≡ b.sent
  pub read : (b : Board) (port n : ℕ) → (after_read b port n).sent ≡ b.sent
  -- what is sent are the bytes of memory from TPSR on
  pub bytes : (b : Board) → is_sendable b.registers ≡ true → has b.registers.transmit_configuration loopback ≡ false → (after_transmit b).sent ≡ Some (frame_to_send b)
  -- as many as TBCR says
  pub count : (b : Board) → length b.memory ≡ 0x4000 → is_sendable b.registers ≡ true → length (frame_to_send b) ≡ b.registers.transmit_count
  -- and no transmission changes memory
  pub memory : (b : Board) → (after_transmit b).memory ≡ b.memory

-- the remote address stays inside the ring once it is there
pub record RemoteLaws : Type 0 where
  pub inside : (r : Registers) (a : ℕ) → r.page_stop ≤ 0x80 → 256 * r.page_start ≤ a → a < 256 * r.page_stop → 256 * r.page_start ≤ next_address r a
  pub below : (r : Registers) (a : ℕ) → r.page_stop ≤ 0x80 → 256 * r.page_start ≤ a → a < 256 * r.page_stop → next_address r a < 256 * r.page_stop
  -- and elsewhere rises by one
  pub rises : (r : Registers) (a : ℕ) → a + 1 < 2 ^ 16 → a + 1 ≢ 256 * r.page_stop → next_address r a ≡ a + 1

-- hashes of multicast addresses, as the CRC-32 of a library gives them (the six highest bits of its register, before the last complement)
pub record HashLaws : Type 0 where
  -- 01-00-5E-00-00-01
  pub all_hosts : hash (0x01 ∷ 0x00 ∷ 0x5E ∷ 0x00 ∷ 0x00 ∷ 0x01 ∷ []) ≡ 31
  -- 01-00-5E-00-00-FB
  pub name_service : hash (0x01 ∷ 0x00 ∷ 0x5E ∷ 0x00 ∷ 0x00 ∷ 0xFB ∷ []) ≡ 15
  -- 33-33-00-00-00-01
  pub all_nodes : hash (0x33 ∷ 0x33 ∷ 0x00 ∷ 0x00 ∷ 0x00 ∷ 0x01 ∷ []) ≡ 62
  -- 01-80-C2-00-00-00
  pub bridges : hash (0x01 ∷ 0x80 ∷ 0xC2 ∷ 0x00 ∷ 0x00 ∷ 0x00 ∷ []) ≡ 25

-- the card after anything that can happen to it
pub record WholeLaws : Type 0 where
  -- the PROM has the address of the station
  pub station : (station : List ℕ) (events : List Event) → (card_after station events).station ≡ station
  -- memory has its length
  pub memory : (station : List ℕ) (events : List Event) → length (card_after station events).memory ≡ 0x4000
