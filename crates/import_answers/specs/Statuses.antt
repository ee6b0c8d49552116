-- The NDIS_STATUS values of ndis.h that the library answers with.
use Rattle.std.specs.Prelude.{ℕ}

abbrev pub success : ℕ
success = 0

abbrev pub pending : ℕ
pending = 0x103

abbrev pub failure : ℕ
failure = 0xC0000001

abbrev pub resources : ℕ
resources = 0xC000009A

abbrev pub bad_version : ℕ
bad_version = 0xC0010004

abbrev pub bad_characteristics : ℕ
bad_characteristics = 0xC0010005
