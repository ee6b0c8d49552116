-- A packet's frame: the bytes of the buffers that are chained to it. NDIS_PACKET's Private.Head names the first buffer; an NDIS_BUFFER is an MDL,
-- whose Next names the next one, MappedSystemVa its bytes and ByteCount how many they are (Windows DDK, ndis.h and wdm.h). A chain ends with 0.
-- Numbers stand low byte first, and addresses go on from 0xFFFFFFFF at 0 (Intel SDM volume 1, "Bit and Byte Order", "Memory Organization").
use Rattle.std.specs.Prelude.{◌≡◌, ◌≢◌, ◌≤◌, ◌<◌, ℕ, zero, suc, ◌+◌, ◌⊎◌, List, [], ◌++◌, length, Option, None, Some, Result, Ok, Err}
use Rattle.std.specs.Option.{option_or}
use Rattle.std.specs.Int.{w32, from_le_bytes}
use Rattle.nd_base.specs.declared.layout_field.Field.{Field}
use Rattle.nd_base.specs.declared.layout_field.Field.TheVariants.{PacketHead, BufferNext, BufferMapped, BufferCount}
use Rattle.nd_base.specs.Layout.{offset_of}
use Rattle.nd_mem.specs.declared.MemFault.{MemFault}
use Rattle.nd_mem.specs.Space.{Cells, Reading, wrapped, first_fault, bytes_from}
use Rattle.packet_chain.specs.declared.ChainFault.{ChainFault}
use Rattle.packet_chain.specs.declared.ChainFault.TheVariants.{OutOfMemory, Fault, Loop, Length}

-- the 4-byte number at an address
unfoldable pub word_at : Cells → ℕ → ℕ
word_at cells a = from_le_bytes w32 (bytes_from cells a 4)

-- where an object has a field
abbrev pub field_at : List ℕ → Field → ℕ → ℕ
field_at layout field object = wrapped (object + offset_of layout field)

-- the buffer that a buffer names as its next
abbrev pub next_of : List ℕ → Cells → ℕ → ℕ
next_of layout cells buffer = word_at cells (field_at layout BufferNext buffer)

-- the buffer of a packet's chain with this number, from 0
unfoldable pub buffer_of : List ℕ → Cells → ℕ → ℕ → ℕ
buffer_of layout cells packet zero = word_at cells (field_at layout PacketHead packet)
buffer_of layout cells packet (suc n) = next_of layout cells (buffer_of layout cells packet n)

-- a buffer's bytes: where they are, how many, and they themselves
abbrev pub mapped_of : List ℕ → Cells → ℕ → ℕ
mapped_of layout cells buffer = word_at cells (field_at layout BufferMapped buffer)

abbrev pub count_of : List ℕ → Cells → ℕ → ℕ
count_of layout cells buffer = word_at cells (field_at layout BufferCount buffer)

abbrev pub bytes_of : List ℕ → Cells → ℕ → List ℕ
bytes_of layout cells buffer = bytes_from cells (mapped_of layout cells buffer) (count_of layout cells buffer)

-- the bytes of a chain's first n buffers, joined
unfoldable pub joined : List ℕ → Cells → ℕ → ℕ → List ℕ
joined layout cells packet zero = []
joined layout cells packet (suc n) = joined layout cells packet n ++ bytes_of layout cells (buffer_of layout cells packet n)

-- the fault of the first of a buffer's places that can't be read: its two numbers, its bytes, its link
abbrev pub buffer_fault : List ℕ → Cells → ℕ → Option MemFault
buffer_fault layout cells buffer =
    option_or (first_fault Reading cells (field_at layout BufferMapped buffer) 4)
    (option_or (first_fault Reading cells (field_at layout BufferCount buffer) 4)
    (option_or (first_fault Reading cells (mapped_of layout cells buffer) (count_of layout cells buffer))
    (first_fault Reading cells (field_at layout BufferNext buffer) 4)))

abbrev pub head_fault : List ℕ → Cells → ℕ → Option MemFault
head_fault layout cells packet = first_fault Reading cells (field_at layout PacketHead packet) 4

-- a packet's chain has at least n buffers, and all that is asked of them can be read
pub record Reaches (layout : List ℕ) (cells : Cells) (packet n : ℕ) : Type 0 where
  pub head : head_fault layout cells packet ≡ None
  pub some : (k : ℕ) → k < n → buffer_of layout cells packet k ≢ 0
  pub seen : (k : ℕ) → k < n → buffer_fault layout cells (buffer_of layout cells packet k) ≡ None

-- it ends behind n buffers, which are 64 at most
pub record Ends (layout : List ℕ) (cells : Cells) (packet n : ℕ) : Type 0 where
  pub reaches : Reaches layout cells packet n
  pub few : n ≤ 64
  pub last : buffer_of layout cells packet n ≡ 0

-- it has buffer n, one of the first 64, and this is the first place that can't be read
pub record FaultsAt (layout : List ℕ) (cells : Cells) (packet n : ℕ) (fault : MemFault) : Type 0 where
  pub reaches : Reaches layout cells packet n
  pub few : n < 64
  pub some : buffer_of layout cells packet n ≢ 0
  pub here : buffer_fault layout cells (buffer_of layout cells packet n) ≡ Some fault

-- a frame has 14 bytes, those of its header (IEEE 802.3, "MAC frame format"), to 1,514
abbrev pub IsFrameLong : ℕ → Type 0
IsFrameLong n = (14 ≤ n) × (n ≤ 1514)

pub record HasFrame (layout : List ℕ) (cells : Cells) (packet : ℕ) (bytes : List ℕ) : Type 0 where
  pub buffers : ℕ
  pub ends : Ends layout cells packet buffers
  pub are : bytes ≡ joined layout cells packet buffers
  pub long : IsFrameLong (length bytes)

-- What a packet's chain gives: its frame; or the fault of the first place that can't be read; or Loop where there is a 65th buffer; or Length
-- where there are too few bytes or too many. Want of memory comes in place of a frame alone.
abbrev pub Gives : List ℕ → Cells → ℕ → Result (List ℕ) ChainFault → Type 0
Gives layout cells packet (Ok bytes) = HasFrame layout cells packet bytes
Gives layout cells packet (Err OutOfMemory) = (bytes : List ℕ) × HasFrame layout cells packet bytes
Gives layout cells packet (Err (Fault fault)) = (head_fault layout cells packet ≡ Some fault) ⊎ ((n : ℕ) × FaultsAt layout cells packet n fault)
Gives layout cells packet (Err Loop) = Reaches layout cells packet 64 × (buffer_of layout cells packet 64 ≢ 0)
Gives layout cells packet (Err Length) = (n : ℕ) × Ends layout cells packet n × ((length (joined layout cells packet n) < 14) ⊎ (1514 < length (joined layout cells packet n)))

-- but for want of memory, a chain gives one thing
abbrev pub GivesOne : Type 0
GivesOne = (layout : List ℕ) (cells : Cells) (packet : ℕ) (r s : Result (List ℕ) ChainFault) → Gives layout cells packet r → Gives layout cells packet s → r ≢ Err OutOfMemory → s ≢ Err OutOfMemory → r ≡ s
