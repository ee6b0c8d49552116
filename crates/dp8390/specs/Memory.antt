-- The card's own memory as the controller addresses it: the PROM with the station's address from 0 on, and 16 KiB from 0x4000 on (the NE2000
-- board; the bytes of the PROM behind the address are those by which its drivers know a card of 16 bits).
use Rattle.std.specs.Prelude.{ℕ, ◌-◌, ◌/◌, Bool, ◌&&◌, nat_lt, nat_le, if◌then◌else◌, List, slice_index, slice_set}
use Rattle.dp8390.specs.declared.board.Board.{Board}

-- the 16 bytes of the PROM: the station's address, eight zeros and two bytes 0x57
abbrev pub prom_byte : List ℕ → ℕ → ℕ
prom_byte station k = if nat_lt k 6 then slice_index station k else if nat_lt k 14 then 0 else 0x57

abbrev pub is_memory : ℕ → Bool
is_memory a = nat_le 0x4000 a && nat_lt a 0x8000

-- what is read at an address: each byte of the PROM twice; where nothing is, all ones
abbrev pub byte_at : Board → ℕ → ℕ
byte_at b a =
    if nat_lt a 32 then prom_byte b.station (a / 2)
    else if is_memory a then slice_index b.memory (a - 0x4000)
    else 0xFF

-- a byte is written to memory; the PROM and what is not there take no write
abbrev pub put_byte : List ℕ → ℕ → ℕ → List ℕ
put_byte memory a byte = if is_memory a then slice_set memory (a - 0x4000) byte else memory
