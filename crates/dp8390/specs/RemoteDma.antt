-- Remote DMA (DP8390 data sheet, "Remote DMA"): the data port moves bytes from or to the card's memory, one for each byte of the access.
use Rattle.std.specs.Prelude.{ℕ, zero, suc, ◌+◌, ◌-◌, ◌*◌, ◌%◌, ◌^◌, ◌==◌, Bool, ◌&&◌, nat_lt, if◌then◌else◌, List, [], ◌∷◌, ◌++◌}
use Rattle.std.specs.List.{fold}
use Rattle.dp8390.specs.declared.registers.Registers.{Registers}
use Rattle.dp8390.specs.declared.board.Board.{Board}
use Rattle.dp8390.specs.Bits.{with_bits, rdc}
use Rattle.dp8390.specs.Registers.{moves_data}
use Rattle.dp8390.specs.Memory.{byte_at, put_byte}

-- the address behind one: it goes on from the end of the receive ring at its start
abbrev pub next_address : Registers → ℕ → ℕ
next_address r a = let next = (a + 1) % 2 ^ 16 in if next == 256 * r.page_stop then 256 * r.page_start else next

-- a byte is moved while there are bytes to move, under a remote read or a remote write
abbrev pub is_moving : Registers → Bool
is_moving r = nat_lt 0 r.remote_count && moves_data r.command

-- after a byte the address goes on and the count falls; at 0 the remote DMA is complete
abbrev pub after_move : Registers → Registers
after_move r = record r {
  remote_address = next_address r r.remote_address;
  remote_count = r.remote_count - 1;
  interrupt_status = (if r.remote_count == 1 then with_bits r.interrupt_status rdc else r.interrupt_status);
}

-- ---- one byte of an access to the data port
abbrev pub data_byte : Board → ℕ
data_byte b = if is_moving b.registers then byte_at b b.registers.remote_address else 0xFF

abbrev pub after_data_read : Board → Board
after_data_read b = if is_moving b.registers then record b { registers = after_move b.registers } else b

abbrev pub after_data_write : Board → ℕ → Board
after_data_write b byte =
    if is_moving b.registers
    then record b { registers = after_move b.registers; memory = put_byte b.memory b.registers.remote_address byte }
    else b

-- ---- an access of n bytes
unfoldable pub after_data_reads : Board → ℕ → Board
after_data_reads b zero = b
after_data_reads b (suc n) = after_data_read (after_data_reads b n)

unfoldable pub data_bytes : Board → ℕ → List ℕ
data_bytes b zero = []
data_bytes b (suc n) = data_bytes b n ++ data_byte (after_data_reads b n) ∷ []

abbrev pub after_data_writes : Board → List ℕ → Board
after_data_writes b bytes = fold after_data_write b bytes
