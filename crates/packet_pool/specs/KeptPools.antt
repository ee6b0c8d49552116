-- Pools with their descriptors that are not out: what is asked of them, and what they are after one of these is taken or given back.
use Rattle.std.specs.Prelude.{◌≡◌, ◌≤◌, ◌<◌, ℕ, ◌+◌, ◌-◌, ◌*◌, ◌/◌, ◌^◌, Bool, true, false, slice_index, Option, None, Some, Result, Ok, Err}
use Rattle.std.specs.Option.{option_map}
use Rattle.std.specs.Ordering.{nat_cmp}
use Rattle.std.specs.BTreeMap.{BTreeMap, Updates}
use Rattle.std.specs.BTreeMap as tree
use Rattle.guest_map.specs.Regions.{end_of}
use Rattle.free_ranges.specs.Ranges.{IsFree, IsFit, Takes, Gives, AreTaken, units}
use Rattle.packet_pool.specs.declared.states.Kind.{Kind}
use Rattle.packet_pool.specs.declared.states.PoolRefusal.{PoolRefusal}
use Rattle.packet_pool.specs.declared.states.PoolRefusal.TheVariants.{OutOfMemory, Count, NoRoom, NoPool, PoolFull}
use Rattle.packet_pool.specs.declared.kept_pools.KeptPool.{KeptPool}
use Rattle.packet_pool.specs.declared.kept_pools.Idle.{Idle}
use Rattle.packet_pool.specs.LiveSet.{descriptor_size, pool_range, place_of}
use Rattle.packet_pool.specs.LiveMoves.{is_pool_of}

abbrev pub kept_at : BTreeMap ℕ KeptPool → ℕ → Option KeptPool
kept_at pools handle = tree.get nat_cmp pools handle

-- a pool with some descriptors, which end where there are addresses
pub record IsSized (kept : KeptPool) : Type 0 where
  pub size : units kept.idle ≡ kept.pool.count
  pub some : 1 ≤ kept.pool.count
  pub low : end_of (pool_range kept.pool) ≤ 2 ^ 32

abbrev pub AreSized : BTreeMap ℕ KeptPool → Type 0
AreSized pools = (handle : ℕ) (kept : KeptPool) → kept_at pools handle ≡ Some kept → IsSized kept

-- ---- a descriptor that is not out

pub record HasIdle (pools : BTreeMap ℕ KeptPool) (handle place : ℕ) : Type 0 where
  pub kept : KeptPool
  pub found : kept_at pools handle ≡ Some kept
  pub idle : 1 ≤ slice_index kept.idle place

-- where it stands
pub record IsIdleAt (pools : BTreeMap ℕ KeptPool) (kind : Kind) (handle : ℕ) (answer : Idle) : Type 0 where
  pub has : HasIdle pools handle answer.place
  pub of_kind : has.kept.pool.kind ≡ kind
  pub less : answer.place < has.kept.pool.count
  pub free : IsFree (slice_index has.kept.idle) answer.place
  pub at : answer.at ≡ place_of has.kept.pool answer.place

pub record HasNone (pools : BTreeMap ℕ KeptPool) (kind : Kind) (handle : ℕ) : Type 0 where
  pub kept : KeptPool
  pub found : kept_at pools handle ≡ Some kept
  pub of_kind : kept.pool.kind ≡ kind
  pub full : (number : ℕ) → IsFree (slice_index kept.idle) number → ⊥

abbrev pub FindsIdle : BTreeMap ℕ KeptPool → Kind → ℕ → Result Idle PoolRefusal → Type 0
FindsIdle pools kind handle (Ok answer) = IsIdleAt pools kind handle answer
FindsIdle pools kind handle (Err NoPool) = is_pool_of kind (option_map (λ kept. kept.pool) (kept_at pools handle)) ≡ false
FindsIdle pools kind handle (Err PoolFull) = HasNone pools kind handle
FindsIdle pools kind handle (Err _) = ⊥

pub record TakesPlace (before after : BTreeMap ℕ KeptPool) (handle place : ℕ) : Type 0 where
  pub old : KeptPool
  pub new : KeptPool
  pub found : kept_at before handle ≡ Some old
  pub updates : Updates nat_cmp before after handle (Some new)
  pub pool : new.pool ≡ old.pool
  pub takes : Takes old.idle new.idle place 1

-- ---- a descriptor that is out

-- the one at an address is one of a pool's
pub record HasOut (pools : BTreeMap ℕ KeptPool) (handle at number : ℕ) : Type 0 where
  pub kept : KeptPool
  pub found : kept_at pools handle ≡ Some kept
  pub less : number < units kept.idle
  pub stands : at ≡ place_of kept.pool number
  pub taken : IsFree (slice_index kept.idle) number → ⊥

abbrev pub IsOutAt : BTreeMap ℕ KeptPool → ℕ → ℕ → Type 0
IsOutAt pools handle at = (number : ℕ) × HasOut pools handle at number

pub record GivesPlace (before after : BTreeMap ℕ KeptPool) (handle at : ℕ) : Type 0 where
  pub number : ℕ
  pub has : HasOut before handle at number
  pub new : KeptPool
  pub updates : Updates nat_cmp before after handle (Some new)
  pub pool : new.pool ≡ has.kept.pool
  pub gives : Gives has.kept.idle new.idle number 1

-- ---- a pool of which no descriptor is out

abbrev pub AllIdle : KeptPool → Type 0
AllIdle kept = (number : ℕ) → number < kept.pool.count → IsFree (slice_index kept.idle) number

pub record IsWhole (pools : BTreeMap ℕ KeptPool) (handle : ℕ) : Type 0 where
  pub kept : KeptPool
  pub found : kept_at pools handle ≡ Some kept
  pub all : AllIdle kept

abbrev pub TellsWhole : BTreeMap ℕ KeptPool → ℕ → Bool → Type 0
TellsWhole pools handle true = IsWhole pools handle
TellsWhole pools handle false = (kept : KeptPool) → kept_at pools handle ≡ Some kept → AllIdle kept → ⊥
