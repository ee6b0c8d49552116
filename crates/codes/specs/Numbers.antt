-- Numbers as bytes, the low byte first. (Intel SDM volume 1, "Bit and Byte Order".)
use Rattle.std.specs.Prelude.{ℕ, true, [], ◌∷◌}
use Rattle.std.specs.Int.{w16, w32, from_le_bytes}
use Rattle.codes.specs.Codes.{Code, done, byte, ◌>>=◌}

unfoldable pub octet : Code ℕ
octet = byte (λ b. true)

unfoldable pub little_endian_2 : Code ℕ
little_endian_2 = do
  a ← octet
  b ← octet
  done (from_le_bytes w16 (a ∷ b ∷ []))

unfoldable pub little_endian_4 : Code ℕ
little_endian_4 = do
  a ← octet
  b ← octet
  c ← octet
  d ← octet
  done (from_le_bytes w32 (a ∷ b ∷ c ∷ d ∷ []))
