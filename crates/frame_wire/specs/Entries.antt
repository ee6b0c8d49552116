-- The parts of a pcap file, as the libpcap file format (pcap-savefile(5)) has them: numbers of four bytes in the
-- byte order of the machine that wrote them, a file header, and before each frame a packet header.
use Rattle.std.specs.Prelude.{◌≡◌, ℕ, ◌+◌, ◌-◌, ◌*◌, ◌/◌, ◌%◌, ◌^◌, ◌<◌, Bool, ◌&&◌, ◌==◌, nat_le, List, ◌++◌, length, take, drop}
use Rattle.std.specs.Int.{w32, to_le_bytes, to_be_bytes, from_le_bytes, from_be_bytes}
use Rattle.frame_wire.specs.declared.order.Order.{Order}
use Rattle.frame_wire.specs.declared.order.Order.TheVariants.{Little, Big}
use Rattle.frame_wire.specs.declared.arrival.Arrival.{Arrival}

-- the four bytes of a number
abbrev pub number : Order → ℕ → List ℕ
number Little n = to_le_bytes w32 n
number Big n = to_be_bytes w32 n

-- the number that four bytes stand for
abbrev pub value : Order → List ℕ → ℕ
value Little bytes = from_le_bytes w32 bytes
value Big bytes = from_be_bytes w32 bytes

-- four bytes at an offset
abbrev pub field : ℕ → List ℕ → List ℕ
field at bytes = take 4 (drop at bytes)

abbrev pub magic : ℕ
magic = 0xa1b2c3d4

-- a frame with its packet header: the time, the length in the file and the length on the wire
pub record Entry : Type 0 where
  pub seconds : ℕ
  pub microseconds : ℕ
  pub included : ℕ
  pub original : ℕ
  pub frame : List ℕ

unfoldable pub spelling : Order → Entry → List ℕ
spelling order e = number order e.seconds ++ (number order e.microseconds ++ (number order e.included ++ (number order e.original ++ e.frame)))

-- the time in microseconds
abbrev pub time : Entry → ℕ
time e = e.seconds * 1000000 + e.microseconds

-- what has a spelling
pub record IsWhole (e : Entry) : Type 0 where
  pub seconds : e.seconds < 2 ^ 32
  pub microseconds : e.microseconds < 2 ^ 32
  pub included : e.included < 2 ^ 32
  pub original : e.original < 2 ^ 32
  pub frame : length e.frame ≡ e.included

-- all of the frame is in the file, and it is an Ethernet frame of 14 to 1,514 bytes
abbrev pub has_good_length : Entry → Bool
has_good_length e = (e.included == e.original) && (nat_le 14 e.included && nat_le e.included 1514)

-- the frame of an entry, in a file whose first entry has the time first
abbrev pub arrival : ℕ → Entry → Arrival
arrival first e = record { stamp = 1000000 + (time e - first); bytes = e.frame }

-- the entry that a frame is written as
abbrev pub entry : Arrival → Entry
entry f = record { seconds = f.stamp / 1000000 % 2 ^ 32; microseconds = f.stamp % 1000000; included = length f.bytes % 2 ^ 32; original = length f.bytes % 2 ^ 32; frame = f.bytes }
