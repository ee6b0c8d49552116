-- The bytes of a new descriptor. (Windows DDK: NDIS_PACKET of ndis.h, and the MDL of wdm.h that an NDIS_BUFFER is. Their fields stand where the
-- layout says: docs/LAYOUT.md. Numbers stand low byte first: Intel SDM volume 1, "Bit and Byte Order".)
use Rattle.std.specs.Prelude.{◌≡◌, ◌≤◌, ℕ, ◌+◌, ◌*◌, ◌/◌, ◌%◌, List, ◌++◌, length, take, drop, replicate, None, Result, Ok, Err}
use Rattle.std.specs.Int.{w16, w32, to_le_bytes}
use Rattle.std.specs.FinMap as table
use Rattle.nd_base.specs.declared.numbers.Addr.{Addr}
use Rattle.nd_base.specs.declared.layout_field.Field.TheVariants.{PacketOobOffset, BufferSize, BufferFlags, BufferMapped, BufferStart, BufferCount, BufferOffset}
use Rattle.nd_base.specs.Layout.{offset_of}
use Rattle.nd_mem.specs.Space.{Space, Cells, Writing, first_fault, put_from}
use Rattle.guest_map.specs.Regions.{end_of}
use Rattle.guest_map.specs.Regions as guest
use Rattle.packet_pool.specs.declared.states.PoolRefusal.{PoolRefusal}

-- bytes in place of those from an offset on
abbrev pub with_bytes : List ℕ → ℕ → List ℕ → List ℕ
with_bytes bytes at new = take at bytes ++ (new ++ drop (at + length new) bytes)

-- a packet's out-of-band part stands behind its fields
abbrev pub out_of_band : ℕ
out_of_band = 72

-- a new packet has zeros, but for the offset of its out-of-band part
unfoldable pub packet_bytes : List ℕ → List ℕ
packet_bytes layout = with_bytes (replicate 128 0) (offset_of layout PacketOobOffset) (to_le_bytes w16 out_of_band)

-- an MDL has its size, and flags that say that its pages are there and mapped (MDL_SOURCE_IS_NONPAGED_POOL); its address is kept as a page and an
-- offset in it
abbrev pub buffer_size : ℕ
buffer_size = 32

abbrev pub buffer_flags : ℕ
buffer_flags = 4

abbrev pub page : ℕ
page = 4096

-- a new buffer has zeros, but for what describes the bytes that it is for
unfoldable pub buffer_bytes : List ℕ → ℕ → ℕ → List ℕ
buffer_bytes layout at count =
    with_bytes
    (with_bytes
    (with_bytes
    (with_bytes
    (with_bytes
    (with_bytes (replicate 32 0) (offset_of layout BufferSize) (to_le_bytes w16 buffer_size))
    (offset_of layout BufferFlags) (to_le_bytes w16 buffer_flags))
    (offset_of layout BufferMapped) (to_le_bytes w32 at))
    (offset_of layout BufferStart) (to_le_bytes w32 (at / page * page)))
    (offset_of layout BufferCount) (to_le_bytes w32 count))
    (offset_of layout BufferOffset) (to_le_bytes w32 (at % page))

-- the guest pool is there, and may be written
abbrev pub HasGuestPool : Cells → Type 0
HasGuestPool cells = (a n : ℕ) → guest.pool.first.0 ≤ a → a + n ≤ end_of guest.pool → first_fault Writing cells a n ≡ None

-- the new descriptor is written, and nothing else; a refusal writes nothing
abbrev pub WritesNew : List ℕ → Result Addr PoolRefusal → Space → Space → Type 0
WritesNew bytes (Ok a) before after = after ≡ put_from before a.0 bytes
WritesNew bytes (Err e) before after = after ≡ before
