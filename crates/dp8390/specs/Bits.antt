-- Bits of registers, by their names in the DP8390 data sheet ("Internal Registers", "Register Descriptions").
use Rattle.std.specs.Prelude.{ℕ, ◌==◌, Bool, not, bit_and, bit_or}
use Rattle.std.specs.Int.{w8, bit_not}

-- whether a register has a bit of a mask
abbrev pub has : ℕ → ℕ → Bool
has register mask = not (bit_and register mask == 0)

-- a register with bits set, or cleared
abbrev pub with_bits : ℕ → ℕ → ℕ
with_bits register bits = bit_or register bits

abbrev pub without_bits : ℕ → ℕ → ℕ
without_bits register bits = bit_and register (bit_not w8 bits)

-- ---- CR, the command register: stop, start, transmit packet, the remote DMA command and its values
abbrev pub stp : ℕ
stp = 0x01

abbrev pub sta : ℕ
sta = 0x02

abbrev pub txp : ℕ
txp = 0x04

abbrev pub rd : ℕ
rd = 0x38

abbrev pub remote_read : ℕ
remote_read = 0x08

abbrev pub remote_write : ℕ
remote_write = 0x10

abbrev pub remote_abort : ℕ
remote_abort = 0x20

-- ---- ISR, the interrupt status register: packet received, packet transmitted, receive error, transmit error, overwrite warning, counter
-- overflow, remote DMA complete, reset status. IMR, the interrupt mask register, has the first seven.
abbrev pub prx : ℕ
prx = 0x01

abbrev pub ptx : ℕ
ptx = 0x02

abbrev pub rxe : ℕ
rxe = 0x04

abbrev pub txe : ℕ
txe = 0x08

abbrev pub ovw : ℕ
ovw = 0x10

abbrev pub cnt : ℕ
cnt = 0x20

abbrev pub rdc : ℕ
rdc = 0x40

abbrev pub rst : ℕ
rst = 0x80

abbrev pub maskable : ℕ
maskable = 0x7F

-- ---- RCR, the receive configuration register: accept broadcast, accept multicast, promiscuous physical, monitor mode
abbrev pub ab : ℕ
ab = 0x04

abbrev pub am : ℕ
am = 0x08

abbrev pub pro : ℕ
pro = 0x10

abbrev pub mon : ℕ
mon = 0x20

-- ---- TCR, the transmit configuration register: its loopback bits
abbrev pub loopback : ℕ
loopback = 0x06
