-- Bytes put one behind the other.
use Rattle.std.proofs.Common.{◌≡◌, ℕ, ◌/◌, List, [], ◌∷◌, ◌++◌, length, append_assoc, refl, arith}
use Rattle.asm_lines.specs.Values.{octets_of}

pub octet_behind : (old : List ℕ) (b : ℕ) (bs : List ℕ) → (old ++ b ∷ []) ++ bs ≡ old ++ b ∷ bs
octet_behind old b bs = append_assoc old (b ∷ []) bs

pub octets_long : (digits : List ℕ) → length (octets_of digits) ≡ length digits / 2
unfolding octets_of
octets_long [] = refl
octets_long (b ∷ []) = refl
octets_long (b ∷ c ∷ bs) = let more = octets_long bs in omega arith
