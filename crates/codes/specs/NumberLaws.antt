-- Numbers are read exactly, and how long they are.
use Rattle.std.proofs.Common.{ℕ, ◌/◌, ◌%◌, ◌^◌, ◌<◌, List, [], ◌∷◌, refl, subst, arith}
use Rattle.std.proofs.lemmas.Nat.{from_le_bytes-to_le_bytes_2, from_le_bytes-to_le_bytes_4}
use Rattle.std.specs.Int.{w16, w32, from_le_bytes, to_le_bytes}
use Rattle.codes.specs.Numbers.{octet, little_endian_2, little_endian_4}
use Rattle.codes.specs.Exact.{Exact, IsAtMost}
use Rattle.codes.specs.ExactLaws.{done_exact, byte_exact, then_exact}
use Rattle.codes.specs.LengthLaws.{done_at_most, byte_at_most, then_at_most}

pub octet_exact : Exact octet
unfolding octet
octet_exact = byte_exact _ 0 (omega arith) refl

pub little_endian_2_exact : Exact little_endian_2
unfolding little_endian_2
little_endian_2_exact = then_exact _ _ octet_exact (λ _ a _. then_exact _ _ octet_exact (λ _ b _. done_exact _))

pub little_endian_4_exact : Exact little_endian_4
unfolding little_endian_4
little_endian_4_exact = then_exact _ _ octet_exact (λ _ a _. then_exact _ _ octet_exact (λ _ b _. then_exact _ _ octet_exact (λ _ c _. then_exact _ _ octet_exact (λ _ d _. done_exact _))))

pub octet_at_most : IsAtMost octet 1
unfolding octet
octet_at_most = byte_at_most _

pub little_endian_2_at_most : IsAtMost little_endian_2 2
unfolding little_endian_2
little_endian_2_at_most = then_at_most _ _ 1 1 2 (omega arith) octet_at_most (λ _. then_at_most _ _ 1 0 1 (omega arith) octet_at_most (λ b. done_at_most _ 0))

pub little_endian_4_at_most : IsAtMost little_endian_4 4
unfolding little_endian_4
little_endian_4_at_most = then_at_most _ _ 1 3 4 (omega arith) octet_at_most (λ _. then_at_most _ _ 1 2 3 (omega arith) octet_at_most (λ _. then_at_most _ _ 1 1 2 (omega arith) octet_at_most (λ _. then_at_most _ _ 1 0 1 (omega arith) octet_at_most (λ _. done_at_most _ 0))))

-- ---- the bytes of a number, and back

pub octet_spells : (n : ℕ) → n < 2 ^ 8 → octet.spells (n ∷ []) n
unfolding octet
octet_spells n h = (h, refl, refl)

pub octet_fits : (bytes : List ℕ) (n : ℕ) → octet.spells bytes n → n < 2 ^ 8
unfolding octet
octet_fits bytes n h = h.0

octets_2 : (a b : ℕ) → a < 2 ^ 8 → b < 2 ^ 8 → little_endian_2.spells (a ∷ b ∷ []) (from_le_bytes w16 (a ∷ b ∷ []))
unfolding little_endian_2 octet
octets_2 a b p q = (a ∷ [], a, b ∷ [], (p, refl, refl), (b ∷ [], b, [], (q, refl, refl), (refl, refl), refl), refl)

pub little_endian_2_spells : (n : ℕ) → n < 2 ^ 16 → little_endian_2.spells (to_le_bytes w16 n) n
little_endian_2_spells n h = subst (little_endian_2.spells (to_le_bytes w16 n)) (from_le_bytes-to_le_bytes_2 n h) (octets_2 (n % 256) (n / 256 % 256) (omega arith) (omega arith))

pub little_endian_2_fits : (bytes : List ℕ) (n : ℕ) → little_endian_2.spells bytes n → n < 2 ^ 16
unfolding little_endian_2 octet
little_endian_2_fits bytes n h = let a = h.3.0 in let b = h.4.3.0 in let e = h.4.4.1 in omega arith

octets_4 : (a b c d : ℕ) → a < 2 ^ 8 → b < 2 ^ 8 → c < 2 ^ 8 → d < 2 ^ 8 → little_endian_4.spells (a ∷ b ∷ c ∷ d ∷ []) (from_le_bytes w32 (a ∷ b ∷ c ∷ d ∷ []))
unfolding little_endian_4 octet
octets_4 a b c d p q r s = (a ∷ [], a, b ∷ c ∷ d ∷ [], (p, refl, refl), (b ∷ [], b, c ∷ d ∷ [], (q, refl, refl), (c ∷ [], c, d ∷ [], (r, refl, refl), (d ∷ [], d, [], (s, refl, refl), (refl, refl), refl), refl), refl), refl)

pub little_endian_4_spells : (n : ℕ) → n < 2 ^ 32 → little_endian_4.spells (to_le_bytes w32 n) n
little_endian_4_spells n h = subst (little_endian_4.spells (to_le_bytes w32 n)) (from_le_bytes-to_le_bytes_4 n h) (octets_4 _ _ _ _ (omega arith) (omega arith) (omega arith) (omega arith))

pub little_endian_4_fits : (bytes : List ℕ) (n : ℕ) → little_endian_4.spells bytes n → n < 2 ^ 32
unfolding little_endian_4 octet
little_endian_4_fits bytes n h = let a = h.3.0 in let b = h.4.3.0 in let c = h.4.4.3.0 in let d = h.4.4.4.3.0 in let e = h.4.4.4.4.1 in omega arith
