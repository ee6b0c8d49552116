-- Transmission (DP8390 data sheet, "Packet Transmission", "Transmit Status Register"). The lengths that can be sent are those of Ethernet
-- frames without their check sequence.
use Rattle.std.specs.Prelude.{ℕ, ◌+◌, ◌-◌, ◌*◌, Bool, ◌&&◌, nat_le, if◌then◌else◌, List, take, drop, Some}
use Rattle.dp8390.specs.declared.registers.Registers.{Registers}
use Rattle.dp8390.specs.declared.board.Board.{Board}
use Rattle.dp8390.specs.Bits.{has, with_bits, without_bits, txp, ptx, txe, loopback}

-- the frame has 14 to 1,514 bytes, and all of them lie in memory
abbrev pub is_sendable : Registers → Bool
is_sendable r =
    (nat_le 14 r.transmit_count && nat_le r.transmit_count 1514)
    && (nat_le 0x4000 (256 * r.transmit_page) && nat_le (256 * r.transmit_page + r.transmit_count) 0x8000)

-- as many bytes as the transmit byte count says, from the transmit page on
abbrev pub frame_to_send : Board → List ℕ
frame_to_send b = take b.registers.transmit_count (drop (256 * b.registers.transmit_page - 0x4000) b.memory)

-- the transmitter is done: TXP reads 0, and the transmit status and one interrupt tell how it went
abbrev pub after_transmission : Registers → ℕ → ℕ → Registers
after_transmission r status interrupt = record r {
  command = without_bits r.command txp;
  transmit_status = status;
  interrupt_status = with_bits r.interrupt_status interrupt;
}

-- in loopback the frame does not reach the wire
abbrev pub after_transmit : Board → Board
after_transmit b =
    if is_sendable b.registers
    then record b {
      registers = after_transmission b.registers 1 ptx;
      sent = (if has b.registers.transmit_configuration loopback then b.sent else Some (frame_to_send b));
    }
    else record b { registers = after_transmission b.registers 0 txe }
