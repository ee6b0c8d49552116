-- Characters of a station address.
use Rattle.std.specs.Prelude.{ℕ, nat_lt, if◌then◌else◌}

-- what is no byte is none of the digits, as 0 is none
abbrev pub clipped : ℕ → ℕ
clipped unit = if nat_lt unit 256 then unit else 0
