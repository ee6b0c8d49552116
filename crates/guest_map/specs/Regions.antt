-- The guest's memory map: which regions of the 32-bit address space hold what. (The project's own: docs/MEMORY.md. Sizes of descriptors and
-- blocks: the project's own layout of NDIS_PACKET, NDIS_BUFFER and NDIS_MINIPORT_BLOCK of the Windows DDK, docs/LAYOUT.md.)
use Rattle.std.specs.Prelude.{◌≡◌, ◌≤◌, ℕ, ◌+◌, ◌*◌, Bool, true, false, ◌&&◌, nat_le, nat_lt, List, [], ◌∷◌, ◌++◌}
use Rattle.std.specs.List.{flat_map}
use Rattle.nd_mem.specs.Space.{address}
use Rattle.guest_map.specs.declared.regions.Region.{Region}

-- ---- how many there are at most: contexts, protocol drivers, send slots of a driver, adapters
abbrev pub contexts : ℕ
contexts = 16

abbrev pub drivers : ℕ
drivers = 8

abbrev pub slots : ℕ
slots = 256

abbrev pub adapters : ℕ
adapters = 4

-- ---- regions
abbrev pub region : ℕ → ℕ → Region
region first length = record { first = address first; length = length }

-- the address behind a region
abbrev pub end_of : Region → ℕ
end_of r = r.first.0 + r.length

abbrev pub lies_in : Region → ℕ → Bool
lies_in r a = nat_le r.first.0 a && nat_lt a (end_of r)

-- no address lies in both
abbrev pub AreApart : Region → Region → Type 0
AreApart r q = (a : ℕ) → lies_in r a ≡ true → lies_in q a ≡ false

pub record IsInside (inner outer : Region) : Type 0 where
  pub from : outer.first.0 ≤ inner.first.0
  pub to : end_of inner ≤ end_of outer

-- so many bytes of a region, from an offset on
abbrev pub part : Region → ℕ → ℕ → Region
part r offset length = region (r.first.0 + offset) length

-- regions that rise from a floor up to a limit, each behind the last one
unfoldable pub rising : ℕ → ℕ → List Region → Bool
rising floor limit [] = true
rising floor limit (r ∷ regions) = nat_le floor r.first.0 && (nat_le (end_of r) limit && rising (end_of r) limit regions)

-- ---- the image: where it is mapped, and the addresses that it may take
abbrev pub image_base : ℕ
image_base = 0x80100000

abbrev pub image_space : Region
image_space = region image_base 0x400000

-- ---- the guest pool, of blocks and descriptors
abbrev pub pool : Region
pool = region 0x81000000 0x800000

-- ---- the stack of a context, and where the answer places and arrays of its handler stand
abbrev pub stack : ℕ → Region
stack context = region (0x82000000 + context * 0x10000) 0x4000

abbrev pub answer_area : ℕ → Region
answer_area context = region (0x82008000 + context * 0x10000) 0x2000

-- ---- the send slots, and of each its packet, its buffer and its bytes
abbrev pub send_slots : Region
send_slots = region 0x83000000 0x400000

abbrev pub send_slot : ℕ → ℕ → Region
send_slot driver slot = region (0x83000000 + driver * 0x80000 + slot * 0x800) 0x800

abbrev pub send_packet : ℕ → ℕ → Region
send_packet driver slot = part (send_slot driver slot) 0 128

abbrev pub send_buffer : ℕ → ℕ → Region
send_buffer driver slot = part (send_slot driver slot) 128 32

abbrev pub send_bytes : ℕ → ℕ → Region
send_bytes driver slot = part (send_slot driver slot) 512 1536

-- ---- the request buffers, and of each the request's bytes, the count that was written or read, and the count that is needed
abbrev pub request_buffers : Region
request_buffers = region 0x84000000 0x8000

abbrev pub request_buffer : ℕ → Region
request_buffer adapter = region (0x84000000 + adapter * 0x2000) 0x2000

abbrev pub request_bytes : ℕ → Region
request_bytes adapter = part (request_buffer adapter) 0 0x1000

abbrev pub request_count : ℕ → Region
request_count adapter = part (request_buffer adapter) 0x1000 4

abbrev pub request_needed : ℕ → Region
request_needed adapter = part (request_buffer adapter) 0x1004 4

-- ---- the adapter blocks: the first address of each is its adapter's handle
abbrev pub adapter_blocks : Region
adapter_blocks = region 0x85000000 0x4000

abbrev pub adapter_block : ℕ → Region
adapter_block adapter = region (0x85000000 + adapter * 0x1000) 0x1000

-- ---- all regions beside the image, in rising order
abbrev pub context_regions : ℕ → List Region
context_regions context = stack context ∷ answer_area context ∷ []

abbrev pub regions : List Region
regions = pool
    ∷ flat_map context_regions (0 ∷ 1 ∷ 2 ∷ 3 ∷ 4 ∷ 5 ∷ 6 ∷ 7 ∷ 8 ∷ 9 ∷ 10 ∷ 11 ∷ 12 ∷ 13 ∷ 14 ∷ 15 ∷ [])
    ++ send_slots ∷ request_buffers ∷ adapter_blocks ∷ []
