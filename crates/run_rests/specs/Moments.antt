-- Moments that are to come.
use Rattle.std.specs.Prelude.{ℕ, nat_lt, Option, None, Some, if◌then◌else◌}

-- a moment, if it is above the clock
abbrev pub to_come : ℕ → Option ℕ → Option ℕ
to_come now None = None
to_come now (Some m) = if nat_lt now m then Some m else None
