-- What registers give when they are read, and what a write leaves of them (DP8390 data sheet, "Register Descriptions").
use Rattle.std.specs.Prelude.{ℕ, ◌+◌, ◌*◌, ◌/◌, ◌%◌, ◌==◌, Bool, ◌&&◌, ◌||◌, nat_lt, if◌then◌else◌, slice_index, slice_set, replicate, bit_and}
use Rattle.dp8390.specs.declared.registers.Registers.{Registers}
use Rattle.dp8390.specs.declared.register_map.Register.{Register}
use Rattle.dp8390.specs.declared.register_map.Register.TheVariants.{Command, PageStart, PageStop, Boundary, TransmitStatus, TransmitPage, TransmitCountLow, TransmitCountHigh, InterruptStatus, RemoteAddressLow, RemoteAddressHigh, RemoteCountLow, RemoteCountHigh, ReceiveStatus, ReceiveConfiguration, TransmitConfiguration, InterruptMask, MissedPackets, Current, Physical, Multicast}
use Rattle.dp8390.specs.Bits.{has, with_bits, without_bits, stp, sta, txp, rd, remote_read, remote_write, rdc, rst, cnt, maskable, loopback}

-- ---- reading

-- what a read of a register gives
abbrev pub value_of : Registers → Register → ℕ
value_of r Command = r.command
value_of r Boundary = r.boundary
value_of r TransmitStatus = r.transmit_status
value_of r InterruptStatus = r.interrupt_status
value_of r RemoteAddressLow = r.remote_address % 256
value_of r RemoteAddressHigh = r.remote_address / 256
value_of r ReceiveStatus = r.receive_status
value_of r MissedPackets = r.missed_packets
value_of r Current = r.current
value_of r (Physical k) = slice_index r.physical k
value_of r (Multicast k) = slice_index r.multicast k
value_of r _ = 0

-- a counter is 0 after it is read
abbrev pub after_reading : Registers → Register → Registers
after_reading r MissedPackets = record r { missed_packets = 0 }
after_reading r _ = r

-- ---- writing

-- a word with its low or its high byte changed
abbrev pub with_low : ℕ → ℕ → ℕ
with_low word byte = word / 256 * 256 + byte

abbrev pub with_high : ℕ → ℕ → ℕ
with_high word byte = byte * 256 + word % 256

-- What a write to a register other than the command register leaves. Of the interrupt status a written one clears its bit, the reset
-- status excepted.
abbrev pub after_writing : Registers → Register → ℕ → Registers
after_writing r PageStart v = record r { page_start = v }
after_writing r PageStop v = record r { page_stop = v }
after_writing r Boundary v = record r { boundary = v }
after_writing r TransmitPage v = record r { transmit_page = v }
after_writing r TransmitCountLow v = record r { transmit_count = with_low r.transmit_count v }
after_writing r TransmitCountHigh v = record r { transmit_count = with_high r.transmit_count v }
after_writing r InterruptStatus v = record r { interrupt_status = without_bits r.interrupt_status (bit_and v maskable) }
after_writing r RemoteAddressLow v = record r { remote_address = with_low r.remote_address v }
after_writing r RemoteAddressHigh v = record r { remote_address = with_high r.remote_address v }
after_writing r RemoteCountLow v = record r { remote_count = with_low r.remote_count v }
after_writing r RemoteCountHigh v = record r { remote_count = with_high r.remote_count v }
after_writing r ReceiveConfiguration v = record r { receive_configuration = v }
after_writing r TransmitConfiguration v = record r { transmit_configuration = v }
after_writing r InterruptMask v = record r { interrupt_mask = v }
after_writing r Current v = record r { current = v }
after_writing r (Physical k) v = record r { physical = slice_set r.physical k v }
after_writing r (Multicast k) v = record r { multicast = slice_set r.multicast k v }
after_writing r _ v = r

-- ---- the command register

-- the register page that a command selects
abbrev pub page_of : ℕ → ℕ
page_of command = command / 64

-- a remote DMA command that moves data: remote read or remote write, and neither send packet nor abort
abbrev pub moves_data : ℕ → Bool
moves_data command = bit_and command rd == remote_read || bit_and command rd == remote_write

-- a command that starts a transmission
abbrev pub transmits : ℕ → Bool
transmits command = has command sta && has command txp

-- the reset status is set by stop, and cleared by start without stop
abbrev pub reset_status : ℕ → ℕ → ℕ
reset_status command status =
    if has command stp then with_bits status rst
    else if has command sta then without_bits status rst
    else status

-- a command to move no bytes is complete at once
abbrev pub remote_status : Registers → ℕ → ℕ → ℕ
remote_status r command status = if moves_data command && r.remote_count == 0 then with_bits status rdc else status

-- what a write to the command register leaves, before a transmission that it starts
abbrev pub after_command : Registers → ℕ → Registers
after_command r command = record r { command = command; interrupt_status = remote_status r command (reset_status command r.interrupt_status) }

-- ---- reset (the project's own: what a reset leaves as it was)
abbrev pub after_reset : Registers → Registers
after_reset r = record r {
  command = 0x21;
  interrupt_status = rst;
  interrupt_mask = 0;
  transmit_configuration = without_bits r.transmit_configuration loopback;
}

-- all bits are 0 but those of the command and the interrupt status, which are as after a reset
abbrev pub new_registers : Registers
new_registers = record {
  command = 0x21;
  page_start = 0;
  page_stop = 0;
  boundary = 0;
  current = 0;
  transmit_page = 0;
  transmit_count = 0;
  transmit_status = 0;
  transmit_configuration = 0;
  receive_configuration = 0;
  receive_status = 0;
  interrupt_status = 0x80;
  interrupt_mask = 0;
  remote_address = 0;
  remote_count = 0;
  missed_packets = 0;
  physical = replicate 6 0;
  multicast = replicate 8 0;
}

-- ---- interrupts and counters

-- the interrupt line is up where the status and the mask share one of the seven bits
abbrev pub line_is_up : Registers → Bool
line_is_up r = has (bit_and r.interrupt_status r.interrupt_mask) maskable

-- bits of the interrupt status are set
abbrev pub raised : Registers → ℕ → Registers
raised r bits = record r { interrupt_status = with_bits r.interrupt_status bits }

-- one more frame was missed: the count goes up to 192, and the counter overflow is set where it becomes 128
abbrev pub with_miss : Registers → Registers
with_miss r =
    if nat_lt r.missed_packets 192
    then record r {
      missed_packets = r.missed_packets + 1;
      interrupt_status = (if r.missed_packets == 127 then with_bits r.interrupt_status cnt else r.interrupt_status);
    }
    else r
