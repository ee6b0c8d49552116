-- Laws of what lives in the guest pool. Each record is the contract of a function of src/pool_laws.rt that does nothing.
use Rattle.std.specs.Prelude.{◌≡◌, ◌≢◌, ◌≤◌, ◌<◌, ℕ, ◌+◌, ◌%◌, true, false, None, Some}
use Rattle.guest_map.specs.declared.regions.Region.{Region}
use Rattle.guest_map.specs.Regions.{region, end_of, AreApart, IsInside}
use Rattle.guest_map.specs.Regions as guest
use Rattle.packet_pool.specs.declared.states.Kind.{Kind}
use Rattle.packet_pool.specs.declared.states.Pool.{Pool}
use Rattle.packet_pool.specs.declared.states.Descriptor.{Descriptor}
use Rattle.packet_pool.specs.LiveSet.{LiveSet, nothing, block_at, pool_of, descriptor_at, descriptor_size, pool_range, is_free, first_free, is_lent}
use Rattle.packet_pool.specs.LiveMoves.{LiveMove, MakePool, FreePool, Free, FreeBlock, may, after, new_handle}
use Rattle.packet_pool.specs.KeptLive.{Owner, range_of}

-- the states that moves lead to from the start
pub data Reached : LiveSet → Type 0 where
  Start : Reached nothing
  Then : (s : LiveSet) (m : LiveMove) → Reached s → may s m ≡ true → Reached (after s m)

-- the bytes of a descriptor that is out
abbrev pub descriptor_range : ℕ → Descriptor → Region
descriptor_range a d = region a (descriptor_size d.kind)

pub record IsInPool (s : LiveSet) (a : ℕ) (d : Descriptor) : Type 0 where
  pub pool : Pool
  pub found : pool_of s d.pool ≡ Some pool
  pub same : d.kind ≡ pool.kind
  pub inside : IsInside (descriptor_range a d) (pool_range pool)

-- what lives, in each state that is reached
pub record LiveLaws : Type 0 where
  -- no two blocks or pools share an address
  pub apart : (s : LiveSet) (o q : Owner) (r t : Region) → Reached s → range_of s o ≡ Some r → range_of s q ≡ Some t → o ≢ q → AreApart r t
  -- each lies in the guest pool, at a multiple of 16
  pub inside : (s : LiveSet) (o : Owner) (r : Region) → Reached s → range_of s o ≡ Some r → IsInside r guest.pool
  pub multiple : (s : LiveSet) (o : Owner) (r : Region) → Reached s → range_of s o ≡ Some r → r.first.0 % 16 ≡ 0
  -- a descriptor that is out lies in its pool, and two of them share no address
  pub in_pool : (s : LiveSet) (a : ℕ) (d : Descriptor) → Reached s → descriptor_at s a ≡ Some d → IsInPool s a d
  pub descriptors : (s : LiveSet) (a b : ℕ) (d e : Descriptor) → Reached s → descriptor_at s a ≡ Some d → descriptor_at s b ≡ Some e → a ≢ b → AreApart (descriptor_range a d) (descriptor_range b e)
  -- a new pool's handle is above those of all pools that live, and above each that was given before
  pub above : (s : LiveSet) (handle : ℕ) (p : Pool) → Reached s → pool_of s handle ≡ Some p → handle < new_handle s
  pub rises : (s : LiveSet) (m : LiveMove) → new_handle s ≤ new_handle (after s m)
  pub next_handle : (s : LiveSet) (kind : Kind) (n : ℕ) → may s (MakePool kind n) ≡ true → new_handle (after s (MakePool kind n)) ≡ new_handle s + 1

-- what is freed, and what is not
pub record FreeLaws : Type 0 where
  -- what is freed no longer lives
  pub block : (s : LiveSet) (a : ℕ) → block_at (after s (FreeBlock a)) a ≡ None
  pub pool : (s : LiveSet) (handle : ℕ) → pool_of (after s (FreePool handle)) handle ≡ None
  pub descriptor : (s : LiveSet) (kind : Kind) (a : ℕ) → descriptor_at (after s (Free kind a)) a ≡ None
  -- a packet on loan is not freed, nor is a pool with a descriptor that is out
  pub lent : (s : LiveSet) (kind : Kind) (a : ℕ) → is_lent s a ≡ true → may s (Free kind a) ≡ false
  pub out : (s : LiveSet) (a : ℕ) (d : Descriptor) → descriptor_at s a ≡ Some d → may s (FreePool d.pool) ≡ false

-- a free range
pub record RoomLaws : Type 0 where
  -- it shares no address with what lives, lies in the guest pool, and begins at a multiple of 16; and each such range is free
  pub apart : (s : LiveSet) (r : Region) (o : Owner) (t : Region) → is_free s r ≡ true → range_of s o ≡ Some t → AreApart r t
  pub inside : (s : LiveSet) (r : Region) → is_free s r ≡ true → IsInside r guest.pool
  pub multiple : (s : LiveSet) (r : Region) → is_free s r ≡ true → r.first.0 % 16 ≡ 0
  pub free : (s : LiveSet) (r : Region) → Reached s → r.first.0 < end_of r → IsInside r guest.pool → r.first.0 % 16 ≡ 0 → ((o : Owner) (t : Region) → range_of s o ≡ Some t → AreApart r t) → is_free s r ≡ true
  -- the first one is free, and none in front of it
  pub first : (s : LiveSet) (length a : ℕ) → first_free s length ≡ Some a → is_free s (region a length) ≡ true
  pub before : (s : LiveSet) (length a b : ℕ) → first_free s length ≡ Some a → b < a → is_free s (region b length) ≡ false
  -- or there is none
  pub none : (s : LiveSet) (length a : ℕ) → 1 ≤ length → first_free s length ≡ None → is_free s (region a length) ≡ false
