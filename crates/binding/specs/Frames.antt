-- Ethernet frames as packets carry them, without the check sequence (IEEE 802.3).
use Rattle.std.specs.Prelude.{ℕ, ◌≤◌, List, length}

abbrev pub IsEthernetLong : List ℕ → Type 0
IsEthernetLong bytes = (14 ≤ length bytes) × (length bytes ≤ 1514)
