-- What is done to what lives in the guest pool: a machine on plain values. A move names the address that the library picked, where it may pick one.
-- (Windows DDK: NdisAllocateMemoryWithTag, NdisFreeMemory, NdisAllocatePacketPool, NdisFreePacketPool, NdisAllocatePacket, NdisFreePacket, and the
-- same of buffers. Limits, and what breaks a rule, are the project's own.)
use Rattle.std.specs.Prelude.{◌≡◌, ℕ, ◌+◌, ◌*◌, max, Bool, true, false, not, ◌&&◌, nat_le, nat_lt, if◌then◌else◌, Option, None, Some, is_some, Result, Ok, Err}
use Rattle.std.specs.Option.{option_map}
use Rattle.std.specs.FinMap as table
use Rattle.nd_base.specs.declared.numbers.Addr.{Addr}
use Rattle.nd_base.specs.declared.numbers.Breach.{Breach}
use Rattle.nd_mem.specs.Space.{address}
use Rattle.guest_map.specs.Regions.{region}
use Rattle.guest_map.specs.Handles.{pool_handle}
use Rattle.packet_pool.specs.declared.states.Kind.{Kind}
use Rattle.packet_pool.specs.declared.states.Kind.TheVariants.{Packet, Buffer}
use Rattle.packet_pool.specs.declared.states.Pool.{Pool}
use Rattle.packet_pool.specs.declared.states.Descriptor.{Descriptor}
use Rattle.packet_pool.specs.declared.states.PoolRefusal.{PoolRefusal}
use Rattle.packet_pool.specs.declared.states.PoolRefusal.TheVariants.{OutOfMemory, Count, NoRoom, NoPool, PoolFull}
use Rattle.packet_pool.specs.LiveSet.{LiveSet, block_at, pool_of, descriptor_at, is_same, block_range, descriptor_size, is_free, first_free, is_out, is_lent, has_out, is_full, is_place_in}

-- a pool of so many descriptors, and its end; a descriptor of a pool, at an address, and its end; a packet on loan, and back; a block of so many
-- bytes, at an address, and its end
pub data LiveMove : Type 0 where
  MakePool : Kind → ℕ → LiveMove
  FreePool : ℕ → LiveMove
  Allocate : Kind → ℕ → ℕ → LiveMove
  Free : Kind → ℕ → LiveMove
  Lend : ℕ → LiveMove
  Unlend : ℕ → LiveMove
  MakeBlock : ℕ → ℕ → LiveMove
  FreeBlock : ℕ → LiveMove

-- ---- pools

-- how many descriptors a pool may have, and how many pools have a handle
abbrev pub most_descriptors : ℕ
most_descriptors = 4096

abbrev pub most_pools : ℕ
most_pools = 0xFFF0000

abbrev pub is_count : ℕ → Bool
is_count n = nat_le 1 n && nat_le n most_descriptors

-- handles are numbered by how many pools were made, so none is given twice
abbrev pub new_handle : LiveSet → ℕ
new_handle s = pool_handle s.made

-- the address from which on a new pool has its descriptors
abbrev pub pool_room : LiveSet → Kind → ℕ → Option ℕ
pool_room s kind n = first_free s (n * descriptor_size kind)

abbrev pub with_pool : LiveSet → Kind → ℕ → Option ℕ → LiveSet
with_pool s kind n None = s
with_pool s kind n (Some first) = record s { pools = table.insert s.pools (new_handle s) (record { kind = kind; first = address first; count = n }); made = s.made + 1 }

-- ---- descriptors

-- the handle is that of a pool of this kind
abbrev pub is_pool_of : Kind → Option Pool → Bool
is_pool_of kind None = false
is_pool_of kind (Some p) = is_same p.kind kind

abbrev pub is_place_of_pool : Option Pool → ℕ → Bool
is_place_of_pool None a = false
is_place_of_pool (Some p) a = is_place_in p a

abbrev pub is_full_pool : LiveSet → Option Pool → Bool
is_full_pool s None = false
is_full_pool s (Some p) = is_full s p

abbrev pub with_descriptor : LiveSet → Kind → ℕ → ℕ → Bool → LiveSet
with_descriptor s kind handle a lent = record s { descriptors = table.insert s.descriptors a (record { kind = kind; pool = handle; lent = lent }) }

-- a descriptor that is out is marked as on loan, or not
abbrev pub marked : LiveSet → ℕ → Bool → Option Descriptor → LiveSet
marked s a lent None = s
marked s a lent (Some d) = record s { descriptors = table.insert s.descriptors a (record d { lent = lent }) }

-- ---- moves

-- whether a move may be made
abbrev pub may : LiveSet → LiveMove → Bool
may s (MakePool kind n) = is_count n && (is_some (pool_room s kind n) && nat_lt s.made most_pools)
may s (FreePool handle) = is_some (pool_of s handle) && not (has_out s handle)
may s (Allocate kind handle a) = is_pool_of kind (pool_of s handle) && (is_place_of_pool (pool_of s handle) a && not (is_some (descriptor_at s a)))
may s (Free kind a) = is_out s kind a && not (is_lent s a)
may s (Lend a) = is_out s Packet a
may s (Unlend a) = is_out s Packet a
may s (MakeBlock length a) = is_free s (block_range a length)
may s (FreeBlock a) = is_some (block_at s a)

-- what lives after it
abbrev pub after : LiveSet → LiveMove → LiveSet
after s (MakePool kind n) = with_pool s kind n (pool_room s kind n)
after s (FreePool handle) = record s { pools = table.remove s.pools handle }
after s (Allocate kind handle a) = with_descriptor s kind handle a false
after s (Free kind a) = record s { descriptors = table.remove s.descriptors a }
after s (Lend a) = marked s a true (descriptor_at s a)
after s (Unlend a) = marked s a false (descriptor_at s a)
after s (MakeBlock length a) = record s { blocks = table.insert s.blocks a length }
after s (FreeBlock a) = record s { blocks = table.remove s.blocks a }

-- the call made the move
pub record Makes (s : LiveSet) (m : LiveMove) (s' : LiveSet) : Type 0 where
  pub may : may s m ≡ true
  pub after : s' ≡ after s m

-- ---- what is refused

abbrev pub refused : {A : Type 0} → Bool → A → Option A → Option A
refused true e behind = Some e
refused false e behind = behind

abbrev pub pool_refusal : LiveSet → Kind → ℕ → Option PoolRefusal
pool_refusal s kind n = refused (not (is_count n)) Count (refused (not (is_some (pool_room s kind n))) NoRoom None)

abbrev pub descriptor_refusal : LiveSet → Kind → ℕ → Option PoolRefusal
descriptor_refusal s kind handle = refused (not (is_pool_of kind (pool_of s handle))) NoPool (refused (is_full_pool s (pool_of s handle)) PoolFull None)

abbrev pub block_refusal : LiveSet → ℕ → Option PoolRefusal
block_refusal s length = refused (not (is_some (first_free s (max length 1)))) NoRoom None

-- the refusal that is due; want of memory where none is
abbrev pub Refuses : Option PoolRefusal → PoolRefusal → Type 0
Refuses due OutOfMemory = due ≡ None
Refuses due e = due ≡ Some e

-- ---- what calls answer

-- a new pool: its handle is the next one. A refusal changes nothing.
abbrev pub MakesPool : LiveSet → Kind → ℕ → Result ℕ PoolRefusal → LiveSet → Type 0
MakesPool s kind n (Ok handle) s' = (handle ≡ new_handle s) × Makes s (MakePool kind n) s'
MakesPool s kind n (Err e) s' = Refuses (pool_refusal s kind n) e × (s' ≡ s)

-- rule 2: what is not live is used, a packet on loan is freed, or a pool with a descriptor that is out
abbrev pub live_rule : Breach
live_rule = record { 0 = 2 }

-- the move is made where it may be; elsewhere it breaks the rule and changes nothing
pub record BreaksRule (s : LiveSet) (m : LiveMove) (broken : Breach) (s' : LiveSet) : Type 0 where
  pub may_not : may s m ≡ false
  pub rule : broken ≡ live_rule
  pub kept : s' ≡ s

abbrev pub Frees : LiveSet → LiveMove → Result (Unit {0}) Breach → LiveSet → Type 0
Frees s m (Ok _) s' = Makes s m s'
Frees s m (Err broken) s' = BreaksRule s m broken s'

-- a new descriptor of a pool, or block: its address. A refusal changes nothing.
abbrev pub Allocates : LiveSet → Kind → ℕ → Result Addr PoolRefusal → LiveSet → Type 0
Allocates s kind handle (Ok a) s' = Makes s (Allocate kind handle a.0) s'
Allocates s kind handle (Err e) s' = Refuses (descriptor_refusal s kind handle) e × (s' ≡ s)

-- a block stands at the first address at which it can
abbrev pub MakesBlock : LiveSet → ℕ → Result Addr PoolRefusal → LiveSet → Type 0
MakesBlock s length (Ok a) s' = (first_free s (max length 1) ≡ Some a.0) × Makes s (MakeBlock length a.0) s'
MakesBlock s length (Err e) s' = Refuses (block_refusal s length) e × (s' ≡ s)
