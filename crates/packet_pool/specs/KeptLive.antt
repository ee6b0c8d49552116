-- How what lives in the guest pool is kept: in maps, and beside them the units of 16 bytes that are free, and of each pool the descriptors that are
-- not out.
use Rattle.std.specs.Prelude.{◌≡◌, ◌≢◌, ◌≤◌, ◌<◌, ◌⊎◌, ℕ, ◌+◌, ◌-◌, ◌*◌, ◌/◌, List, map, Option, None, Some}
use Rattle.std.specs.Option.{option_map}
use Rattle.std.specs.Ordering.{nat_cmp}
use Rattle.std.specs.BTreeMap.{BTreeMap}
use Rattle.std.specs.BTreeMap as tree
use Rattle.std.specs.FinMap as table
use Rattle.std.specs.Prelude.{slice_index}
use Rattle.guest_map.specs.declared.regions.Region.{Region}
use Rattle.guest_map.specs.Regions.{end_of}
use Rattle.guest_map.specs.Regions as guest
use Rattle.guest_map.specs.Handles.{pool_handle}
use Rattle.free_ranges.specs.Ranges.{IsFree}
use Rattle.free_ranges.specs.Ranges as free
use Rattle.packet_pool.specs.declared.states.Pool.{Pool}
use Rattle.packet_pool.specs.declared.states.Descriptor.{Descriptor}
use Rattle.packet_pool.specs.declared.kept_pools.KeptPool.{KeptPool}
use Rattle.packet_pool.specs.LiveSet.{LiveSet, block_at, pool_of, descriptor_at, block_range, pool_range, place_of, units, unit_address}
use Rattle.packet_pool.specs.LiveMoves.{most_descriptors, most_pools}

-- ---- what is true of all that lives

-- what takes a range: a block, by its address, or a pool, by its handle
pub data Owner : Type 0 where
  BlockAt : ℕ → Owner
  PoolOf : ℕ → Owner

-- the range that it takes, if it is there
abbrev pub range_of : LiveSet → Owner → Option Region
range_of s (BlockAt a) = option_map (block_range a) (block_at s a)
range_of s (PoolOf handle) = option_map pool_range (pool_of s handle)

pub record IsPlaced (r : Region) : Type 0 where
  pub unit : ℕ
  pub at : r.first.0 ≡ unit_address unit
  pub some : r.first.0 < end_of r
  pub inside : end_of r ≤ end_of guest.pool

pub record Covers (r : Region) (a : ℕ) : Type 0 where
  pub from : r.first.0 ≤ a
  pub to : a < end_of r

abbrev pub AreDisjoint : Region → Region → Type 0
AreDisjoint r q = (end_of r ≤ q.first.0) ⊎ (end_of q ≤ r.first.0)

pub record IsKnown (s : LiveSet) (handle : ℕ) (p : Pool) : Type 0 where
  pub old : handle < pool_handle s.made
  pub some : 1 ≤ p.count
  pub few : p.count ≤ most_descriptors

-- a descriptor that is out stands in its pool
pub record IsOfPool (s : LiveSet) (a : ℕ) (d : Descriptor) : Type 0 where
  pub pool : Pool
  pub found : pool_of s d.pool ≡ Some pool
  pub kind : d.kind ≡ pool.kind
  pub number : ℕ
  pub less : number < pool.count
  pub at : a ≡ place_of pool number

pub record IsSound (s : LiveSet) : Type 0 where
  pub placed : (o : Owner) (r : Region) → range_of s o ≡ Some r → IsPlaced r
  pub apart : (o q : Owner) (r t : Region) → range_of s o ≡ Some r → range_of s q ≡ Some t → o ≢ q → AreDisjoint r t
  pub known : (handle : ℕ) (p : Pool) → pool_of s handle ≡ Some p → IsKnown s handle p
  pub descriptors : (a : ℕ) (d : Descriptor) → descriptor_at s a ≡ Some d → IsOfPool s a d
  pub few : s.made ≤ most_pools

-- ---- what is kept

abbrev pub pools_in : BTreeMap ℕ KeptPool → table.FinMap nat_cmp Pool
pools_in kept = table.from_entries (map (λ e. (e.0, e.1.pool)) kept.entries)

abbrev pub live_of : BTreeMap ℕ ℕ → BTreeMap ℕ KeptPool → BTreeMap ℕ Descriptor → ℕ → LiveSet
live_of blocks pools descriptors made = record {
  blocks = table.from_entries blocks.entries;
  pools = pools_in pools;
  descriptors = table.from_entries descriptors.entries;
  made = made;
}

-- a unit is free where no range covers it, and there alone
pub record IsRow (s : LiveSet) (lengths : List ℕ) : Type 0 where
  pub size : free.units lengths ≡ units
  pub forth : (unit : ℕ) → IsFree (slice_index lengths) unit → (o : Owner) (r : Region) → range_of s o ≡ Some r → Covers r (unit_address unit) → ⊥
  pub back : (unit : ℕ) → unit < units → ((o : Owner) (r : Region) → range_of s o ≡ Some r → Covers r (unit_address unit) → ⊥) → IsFree (slice_index lengths) unit

-- of a pool, the descriptors that are free are those that are not out
pub record IsIdle (s : LiveSet) (p : Pool) (lengths : List ℕ) : Type 0 where
  pub size : free.units lengths ≡ p.count
  pub forth : (number : ℕ) → number < p.count → IsFree (slice_index lengths) number → descriptor_at s (place_of p number) ≡ None
  pub back : (number : ℕ) → number < p.count → descriptor_at s (place_of p number) ≡ None → IsFree (slice_index lengths) number

pub record AreKept (s : LiveSet) (lengths : List ℕ) (pools : BTreeMap ℕ KeptPool) : Type 0 where
  pub sound : IsSound s
  pub row : IsRow s lengths
  pub idle : (handle : ℕ) (kept : KeptPool) → tree.get nat_cmp pools handle ≡ Some kept → IsIdle s kept.pool kept.idle

-- how many units so many bytes take
abbrev pub unit_count : ℕ → ℕ
unit_count length = (length - 1) / 16 + 1

pub record IsRoomAt (lengths : List ℕ) (length unit : ℕ) : Type 0 where
  pub fits : free.Fits (slice_index lengths) (unit_count length) unit
  pub begins : unit_count length ≤ slice_index lengths unit
  pub inside : unit + unit_count length ≤ units
  pub first : (before : ℕ) → before < unit → free.Fits (slice_index lengths) (unit_count length) before → ⊥

-- the first unit from which on so many bytes are free, where a free range begins
abbrev pub IsRoom : List ℕ → ℕ → Option ℕ → Type 0
IsRoom lengths length None = free.IsFit (slice_index lengths) (unit_count length) None
IsRoom lengths length (Some unit) = IsRoomAt lengths length unit
