-- The card as its driver and the wire see it: what each access and each arrival gives and leaves. (National DP8390 data sheet; the NE2000 board
-- for the data port, the reset port, the memory and the PROM.)
use Rattle.std.specs.Prelude.{ℕ, ◌-◌, ◌==◌, Bool, nat_lt, if◌then◌else◌, List, ◌∷◌, slice_index, replicate, None}
use Rattle.std.specs.List.{fold}
use Rattle.dp8390.specs.declared.board.Board.{Board}
use Rattle.dp8390.specs.RegisterMap.{read_at, write_at}
use Rattle.dp8390.specs.Registers.{value_of, after_reading, after_writing, page_of, transmits, after_command, after_reset, new_registers}
use Rattle.dp8390.specs.RemoteDma.{data_bytes, after_data_reads, after_data_writes}
use Rattle.dp8390.specs.Transmit.{after_transmit}
use Rattle.dp8390.specs.Ring.{after_arrival}

-- 0x4000 zeros
unfoldable pub blank_memory : List ℕ
blank_memory = replicate 0x4000 0

-- a card with this address in its PROM
abbrev pub new_card : List ℕ → Board
new_card station = record { registers = new_registers; station = station; memory = blank_memory; sent = None }

-- ---- ports: 00 to 0F are registers, 10 to 17 the data port, 18 to 1F the reset port

abbrev pub is_register : ℕ → Bool
is_register port = nat_lt port 0x10

abbrev pub is_data_port : ℕ → Bool
is_data_port port = nat_lt port 0x18

-- an access of n bytes to another port than the data port uses the low byte; the others read 0 (the project's own)
abbrev pub low_byte : ℕ → ℕ → List ℕ
low_byte byte n = byte ∷ replicate (n - 1) 0

-- ---- a read of n bytes: what it gives, and the card after it
abbrev pub bytes_read : Board → ℕ → ℕ → List ℕ
bytes_read b port n =
    if is_register port then low_byte (value_of b.registers (read_at (page_of b.registers.command) port)) n
    else if is_data_port port then data_bytes b n
    else low_byte 0 n

abbrev pub after_read : Board → ℕ → ℕ → Board
after_read b port n =
    if is_register port then record b { registers = after_reading b.registers (read_at (page_of b.registers.command) port) }
    else if is_data_port port then after_data_reads b n
    else record b { registers = after_reset b.registers }

-- ---- a write of bytes

-- a command, with the transmission that it starts
abbrev pub after_command_write : Board → ℕ → Board
after_command_write b command =
    if transmits command
    then after_transmit (record b { registers = after_command b.registers command })
    else record b { registers = after_command b.registers command }

abbrev pub after_register_write : Board → ℕ → ℕ → Board
after_register_write b port byte =
    if port == 0 then after_command_write b byte
    else record b { registers = after_writing b.registers (write_at (page_of b.registers.command) port) byte }

abbrev pub after_write : Board → ℕ → List ℕ → Board
after_write b port bytes =
    if is_register port then after_register_write b port (slice_index bytes 0)
    else if is_data_port port then after_data_writes b bytes
    else b

-- the frame that was sent is taken
abbrev pub after_take : Board → Board
after_take b = record b { sent = None }

-- ---- the card after all that happened to it, in order

pub data Event : Type 0 where
  -- a read of so many bytes at a port
  Read : ℕ → ℕ → Event
  -- a write of bytes at a port
  Write : ℕ → List ℕ → Event
  -- a frame arrives
  Arrive : List ℕ → Event
  -- the frame that was sent is taken
  Take : Event

abbrev pub after_event : Board → Event → Board
after_event b (Read port n) = after_read b port n
after_event b (Write port bytes) = after_write b port bytes
after_event b (Arrive frame) = after_arrival b frame
after_event b Take = after_take b

abbrev pub card_after : List ℕ → List Event → Board
card_after station events = fold after_event (new_card station) events
