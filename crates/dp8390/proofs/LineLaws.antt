-- When the interrupt line is up.
use Rattle.std.proofs.Common.{◌≡◌, ℕ, ◌<◌, ◌≤◌, min, not, true, false, refl, sym, ap, ◌∙◌, arith}
use Rattle.std.specs.Prelude.{bit_and}
use Rattle.std.specs.Int.{bit_at}
use Rattle.std.proofs.lemmas.Nat.{and_le_r}
use Rattle.std.proofs.lemmas.Nat.Bits.{bit_at_and, bit_at_ones, bit_at-zero, same_from_bits_below}
use Rattle.std.proofs.lemmas.Bool.{ne_eqb, eq-eqb}
use Rattle.dp8390.specs.declared.registers.Registers.{Registers}
use Rattle.dp8390.specs.Registers.{line_is_up}
use Rattle.dp8390.specs.Laws.{LineLaws}

-- a bit that the status, the mask and the seven bits share
shared : (s m k : ℕ) → k < 7 → bit_at (bit_and (bit_and s m) 0x7F) k ≡ min (min (bit_at s k) (bit_at m k)) 1
shared s m k low =
    bit_at_and (bit_and s m) 0x7F k
    ∙ ap (λ b. min b (bit_at 0x7F k)) (bit_at_and s m k)
    ∙ ap (λ b. min (min (bit_at s k) (bit_at m k)) b) (bit_at_ones 7 k low)

up : (r : Registers) (k : ℕ) → k < 7 → bit_at r.interrupt_status k ≡ 1 → bit_at r.interrupt_mask k ≡ 1 → line_is_up r ≡ true
up r k low status mask =
    let bits = bit_and (bit_and r.interrupt_status r.interrupt_mask) 0x7F in
    let one : bit_at bits k ≡ 1 = shared r.interrupt_status r.interrupt_mask k low ∙ rw (status, mask) refl in
    ap not (ne_eqb bits 0 (λ none. let e : 1 ≡ 0 = sym one ∙ ap (λ n. bit_at n k) none ∙ bit_at-zero k in absurd (omega arith)))

down : (r : Registers) → ((k : ℕ) → k < 7 → min (bit_at r.interrupt_status k) (bit_at r.interrupt_mask k) ≡ 0) → line_is_up r ≡ false
down r none =
    let bits = bit_and (bit_and r.interrupt_status r.interrupt_mask) 0x7F in
    let small : bits ≤ 0x7F = and_le_r (bit_and r.interrupt_status r.interrupt_mask) 0x7F in
    ap not (eq-eqb bits 0 (same_from_bits_below 7 bits 0 (omega arith) (omega arith)
    (λ k low. shared r.interrupt_status r.interrupt_mask k low ∙ ap (λ b. min b 1) (none k low) ∙ sym (bit_at-zero k))))

pub line_laws : LineLaws
line_laws = record { up = up; down = down }
