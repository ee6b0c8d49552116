-- What lives in the guest pool, as plain values: blocks, pools of packet or buffer descriptors, and the descriptors that are out. (Windows DDK:
-- NdisAllocateMemoryWithTag, NdisAllocatePacketPool, NdisAllocatePacket, NdisAllocateBufferPool, NdisAllocateBuffer. Addresses and sizes are the
-- project's own: docs/MEMORY.md, docs/LAYOUT.md.)
use Rattle.std.specs.Prelude.{◌≡◌, ◌≤◌, ◌<◌, ℕ, zero, suc, ◌+◌, ◌-◌, ◌*◌, ◌/◌, ◌%◌, max, Bool, true, false, not, ◌&&◌, ◌||◌, ◌==◌, nat_le, nat_lt, if◌then◌else◌, List, ◌++◌, map, Option, None, Some, is_some, refl}
use Rattle.std.specs.List.{list_all, list_any}
use Rattle.std.specs.Option.{option_map}
use Rattle.std.specs.Ordering.{nat_cmp}
use Rattle.std.specs.FinMap as table
use Rattle.std.specs.Coded.{Coded, code_by, coded×, coded_ℕ, coded_bool}
use Rattle.nd_base.specs.declared.numbers.Addr.{Addr}
use Rattle.nd_mem.specs.Space.{address}
use Rattle.guest_map.specs.declared.regions.Region.{Region}
use Rattle.guest_map.specs.Regions.{region, end_of}
use Rattle.guest_map.specs.Regions as guest
use Rattle.guest_map.specs.Handles.{pool_handle}
use Rattle.packet_pool.specs.declared.states.Kind.{Kind}
use Rattle.packet_pool.specs.declared.states.Kind.TheVariants.{Packet, Buffer}
use Rattle.packet_pool.specs.declared.states.Pool.{Pool}
use Rattle.packet_pool.specs.declared.states.Descriptor.{Descriptor}

-- blocks by address, each with its length; pools by handle; the descriptors that are out by address; and how many pools were made so far
pub record LiveSet : Type 0 where
  pub blocks : table.FinMap nat_cmp ℕ
  pub pools : table.FinMap nat_cmp Pool
  pub descriptors : table.FinMap nat_cmp Descriptor
  pub made : ℕ

abbrev pub nothing : LiveSet
nothing = record { blocks = table.empty; pools = table.empty; descriptors = table.empty; made = 0 }

abbrev pub block_at : LiveSet → ℕ → Option ℕ
block_at s a = table.get s.blocks a

abbrev pub pool_of : LiveSet → ℕ → Option Pool
pool_of s handle = table.get s.pools handle

abbrev pub descriptor_at : LiveSet → ℕ → Option Descriptor
descriptor_at s a = table.get s.descriptors a

abbrev pub is_same : Kind → Kind → Bool
is_same Packet Packet = true
is_same Buffer Buffer = true
is_same _ _ = false

-- ---- the ranges of the guest pool that are taken

-- a block of no bytes takes one
abbrev pub block_range : ℕ → ℕ → Region
block_range a length = region a (max length 1)

abbrev pub descriptor_size : Kind → ℕ
descriptor_size Packet = 128
descriptor_size Buffer = 32

-- a pool takes one range for all its descriptors
abbrev pub pool_range : Pool → Region
pool_range p = region p.first.0 (p.count * descriptor_size p.kind)

abbrev pub ranges : LiveSet → List Region
ranges s = map (λ e. block_range e.0 e.1) (table.entries s.blocks) ++ map (λ e. pool_range e.1) (table.entries s.pools)

-- no address lies in both
abbrev pub are_apart : Region → Region → Bool
are_apart r q = nat_le (end_of r) q.first.0 || nat_le (end_of q) r.first.0

-- where a block or pool may stand, if nothing is there: at a multiple of 16, and inside the guest pool
abbrev pub is_place : Region → Bool
is_place r = ((r.first.0 % 16) == 0) && (nat_le guest.pool.first.0 r.first.0 && nat_le (end_of r) (end_of guest.pool))

-- the range is free: it is such a place, and shares no address with one that is taken
abbrev pub is_free : LiveSet → Region → Bool
is_free s r = is_place r && list_all (are_apart r) (ranges s)

-- the multiples of 16 of the guest pool
abbrev pub units : ℕ
units = 0x80000

abbrev pub unit_address : ℕ → ℕ
unit_address unit = guest.pool.first.0 + 16 * unit

abbrev pub here_or : Bool → ℕ → Option ℕ → Option ℕ
here_or true a behind = Some a
here_or false a behind = behind

-- the first of n multiples of 16 at which so many bytes are free
unfoldable pub first_free_from : LiveSet → ℕ → ℕ → ℕ → Option ℕ
first_free_from s length unit zero = None
first_free_from s length unit (suc n) = here_or (is_free s (region (unit_address unit) length)) (unit_address unit) (first_free_from s length (unit + 1) n)

-- the first address of the guest pool at which so many bytes are free
unfoldable pub first_free : LiveSet → ℕ → Option ℕ
first_free s length = first_free_from s length 0 units

-- ---- descriptors

-- where the descriptor with this number stands
abbrev pub place_of : Pool → ℕ → ℕ
place_of p number = p.first.0 + number * descriptor_size p.kind

-- a descriptor of a kind that is out there
abbrev pub is_of_kind : Kind → Option Descriptor → Bool
is_of_kind kind None = false
is_of_kind kind (Some d) = is_same d.kind kind

abbrev pub is_out : LiveSet → Kind → ℕ → Bool
is_out s kind a = is_of_kind kind (descriptor_at s a)

abbrev pub is_lent_in : Option Descriptor → Bool
is_lent_in None = false
is_lent_in (Some d) = d.lent

abbrev pub is_lent : LiveSet → ℕ → Bool
is_lent s a = is_lent_in (descriptor_at s a)

-- a descriptor of the pool is out
abbrev pub has_out : LiveSet → ℕ → Bool
has_out s handle = list_any (λ d. d.pool == handle) (table.values s.descriptors)

-- the first n descriptors of a pool are out
unfoldable pub are_out : LiveSet → Pool → ℕ → Bool
are_out s p zero = true
are_out s p (suc n) = is_some (descriptor_at s (place_of p n)) && are_out s p n

abbrev pub is_full : LiveSet → Pool → Bool
is_full s p = are_out s p p.count

-- an address where a descriptor of a pool stands
abbrev pub is_place_in : Pool → ℕ → Bool
is_place_in p a = nat_le p.first.0 a && (nat_lt a (end_of (pool_range p)) && (((a - p.first.0) % descriptor_size p.kind) == 0))

-- ---- codes, by which a proof tells states apart

abbrev pub kind_number : Kind → ℕ
kind_number Packet = 0
kind_number Buffer = 1

abbrev pub kind_of_number : ℕ → Kind
kind_of_number zero = Packet
kind_of_number (suc n) = Buffer

pub kind_back : (kind : Kind) → kind_of_number (kind_number kind) ≡ kind
kind_back Packet = refl
kind_back Buffer = refl

abbrev pub pool_code : Coded Pool
pool_code =
    code_by (ℕ × (ℕ × ℕ)) (coded× coded_ℕ (coded× coded_ℕ coded_ℕ))
    (λ p. (kind_number p.kind, (p.first.0, p.count)))
    (λ n. record { kind = kind_of_number n.0; first = address n.1.0; count = n.1.1 })
    (λ p i. record { kind = kind_back p.kind i; first = p.first; count = p.count })

abbrev pub descriptor_code : Coded Descriptor
descriptor_code =
    code_by (ℕ × (ℕ × Bool)) (coded× coded_ℕ (coded× coded_ℕ coded_bool))
    (λ d. (kind_number d.kind, (d.pool, d.lent)))
    (λ n. record { kind = kind_of_number n.0; pool = n.1.0; lent = n.1.1 })
    (λ d i. record { kind = kind_back d.kind i; pool = d.pool; lent = d.lent })

abbrev pub live_code : Coded LiveSet
live_code =
    code_by (table.FinMap nat_cmp ℕ × (table.FinMap nat_cmp Pool × (table.FinMap nat_cmp Descriptor × ℕ)))
    (coded× (table.code coded_ℕ coded_ℕ) (coded× (table.code coded_ℕ pool_code) (coded× (table.code coded_ℕ descriptor_code) coded_ℕ)))
    (λ s. (s.blocks, (s.pools, (s.descriptors, s.made))))
    (λ p. record { blocks = p.0; pools = p.1.0; descriptors = p.1.1.0; made = p.1.1.1 })
    (λ _. refl)
