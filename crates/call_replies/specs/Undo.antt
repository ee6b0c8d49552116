-- What is made and ended at once leaves what lives in the guest pool as it was. It is the contract of a function of src/laws.rt that does nothing.
-- (Windows DDK: NdisAllocateMemoryWithTag and NdisFreeMemory; NdisAllocatePacket, NdisAllocateBuffer and NdisFreePacket, NdisFreeBuffer.)
use Rattle.std.specs.Prelude.{◌≡◌, ℕ, Result}
use Rattle.nd_base.specs.declared.numbers.Breach.{Breach}
use Rattle.packet_pool.specs.declared.states.Kind.{Kind}
use Rattle.packet_pool.specs.LiveSet.{LiveSet}
use Rattle.packet_pool.specs.LiveMoves.{MakeBlock, FreeBlock, Allocate, Free, Makes, Frees}

pub record UndoLaws : Type 0 where
  pub block : (s made ended : LiveSet) (n a : ℕ) (answer : Result (Unit {0}) Breach) → Makes s (MakeBlock n a) made → Frees made (FreeBlock a) answer ended → ended ≡ s
  pub descriptor : (s made ended : LiveSet) (kind : Kind) (handle a : ℕ) (answer : Result (Unit {0}) Breach) → Makes s (Allocate kind handle a) made → Frees made (Free kind a) answer ended → ended ≡ s
