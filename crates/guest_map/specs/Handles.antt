-- Opaque handles: numbers that a driver is given and only hands back. (The project's own: docs/MEMORY.md.)
use Rattle.std.specs.Prelude.{ℕ, ◌+◌}

abbrev pub driver_object : ℕ
driver_object = 0xE0000000

abbrev pub registry_path : ℕ
registry_path = 0xE0000008

abbrev pub wrapper : ℕ
wrapper = 0xE0000010

-- of an adapter, by its number
abbrev pub configuration_context : ℕ → ℕ
configuration_context adapter = 0xE0001000 + adapter

abbrev pub configuration_handle : ℕ → ℕ
configuration_handle adapter = 0xE0002000 + adapter

-- of a pool of packets or buffers, by its number
abbrev pub pool_handle : ℕ → ℕ
pool_handle number = 0xE0010000 + number
