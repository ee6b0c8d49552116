-- Which frames are taken: the physical address, broadcast and multicast filters of the DP8390 data sheet ("Receive Configuration Register",
-- "Physical Address Registers", "Multicast Address Registers"). The hash is the CRC-32 of IEEE 802.3, of the six bytes of the address.
use Rattle.std.specs.Prelude.{ℕ, zero, suc, ◌*◌, ◌/◌, ◌%◌, ◌^◌, ◌==◌, Bool, ◌&&◌, ◌||◌, if◌then◌else◌, List, slice_index, replicate, bit_xor}
use Rattle.std.specs.Int.{bit_at}
use Rattle.std.specs.List.{fold}
use Rattle.std.specs.Str.{bytes_eq}
use Rattle.dp8390.specs.declared.registers.Registers.{Registers}
use Rattle.dp8390.specs.Bits.{has, ab, am, pro}

-- ---- the CRC

-- x^26 + x^23 + x^22 + x^16 + x^12 + x^11 + x^10 + x^8 + x^7 + x^5 + x^4 + x^2 + x + 1, what x^32 leaves
abbrev pub generator : ℕ
generator = 0x04C11DB7

-- One bit goes in: the word is shifted left, and the generator is added where the bit that is shifted out is not the one that goes in.
abbrev pub crc_bit : ℕ → ℕ → ℕ
crc_bit word bit = let shifted = word * 2 % 2 ^ 32 in if word / 2 ^ 31 == bit then shifted else bit_xor shifted generator

-- the lowest n bits of a byte go in, the lowest first
unfoldable pub crc_bits : ℕ → ℕ → ℕ → ℕ
crc_bits word byte zero = word
crc_bits word byte (suc n) = crc_bit (crc_bits word byte n) (bit_at byte n)

unfoldable pub crc_byte : ℕ → ℕ → ℕ
crc_byte word byte = crc_bits word byte 8

-- the register begins with ones
abbrev pub crc : List ℕ → ℕ
crc bytes = fold crc_byte 0xFFFFFFFF bytes

-- the six highest bits
abbrev pub hash : List ℕ → ℕ
hash address = crc address / 2 ^ 26

-- ---- the filter

abbrev pub is_broadcast : List ℕ → Bool
is_broadcast address = bytes_eq address (replicate 6 0xFF)

-- the first bit on the wire tells a group address
abbrev pub is_group : List ℕ → Bool
is_group address = bit_at (slice_index address 0) 0 == 1

-- the bit of MAR that a hash names
abbrev pub multicast_bit : Registers → ℕ → Bool
multicast_bit r h = bit_at (slice_index r.multicast (h / 8)) (h % 8) == 1

-- whether a frame for an address is taken
abbrev pub accepts : Registers → List ℕ → Bool
accepts r address =
    if is_broadcast address then has r.receive_configuration ab
    else if is_group address then has r.receive_configuration am && multicast_bit r (hash address)
    else has r.receive_configuration pro || bytes_eq address r.physical
