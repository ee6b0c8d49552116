-- The bytes of a chain as they are gathered: how many there are so far, and they themselves as long as they fit a frame.
use Rattle.std.specs.Prelude.{◌≡◌, ◌≤◌, ◌<◌, ◌⊎◌, ℕ, List, length, take, Result, Ok, Err}
use Rattle.packet_chain.specs.Chain.{IsFrameLong}
use Rattle.packet_chain.specs.declared.ChainFault.{ChainFault}
use Rattle.packet_chain.specs.declared.ChainFault.TheVariants.{OutOfMemory, Fault, Loop, Length}
use Rattle.packet_chain.specs.declared.gathering.Gathering.{Gathering}

pub record Holds (gathering : Gathering) (bytes : List ℕ) : Type 0 where
  pub count : gathering.count ≡ length bytes
  pub front : length bytes ≤ 1514 → take (length bytes) gathering.bytes ≡ bytes

-- the answer for all bytes of a chain
abbrev pub Finishes : List ℕ → Result (List ℕ) ChainFault → Type 0
Finishes bytes (Ok given) = (given ≡ bytes) × IsFrameLong (length bytes)
Finishes bytes (Err OutOfMemory) = IsFrameLong (length bytes)
Finishes bytes (Err (Fault fault)) = ⊥
Finishes bytes (Err Loop) = ⊥
Finishes bytes (Err Length) = (length bytes < 14) ⊎ (1514 < length bytes)
