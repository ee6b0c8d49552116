-- Where the bytes of a stored frame stand.
use Rattle.std.proofs.Common.{◌≡◌, ◌≢◌, ℕ, zero, suc, ◌+◌, ◌-◌, ◌*◌, ◌%◌, ◌^◌, ◌<◌, ◌≤◌, ◌⊎◌, true, List, [], ◌∷◌, ◌++◌, length, replicate, get_or, set, eqb, cond, refl, sym, ap, ◌∙◌, inl, inr, arith, length-append, get_or-set_same, get_or-set_other}
use Rattle.std.specs.List.{fold}
use Rattle.std.proofs.Math.Nat.{mod-eq_of_lt, mod-lt}
use Rattle.std.proofs.lemmas.Bool.{cases_eq, cond-true, cond-false, eq-eqb, ne_eqb, ltb-true}
use Rattle.std.proofs.lemmas.Bool.Decides.{nat_tests}
use Rattle.dp8390.specs.declared.registers.Registers.{Registers}
use Rattle.dp8390.specs.declared.board.Board.{Board}
use Rattle.dp8390.specs.Memory.{put_byte}
use Rattle.dp8390.specs.RemoteDma.{next_address}
use Rattle.dp8390.specs.Ring.{has_ring, has_room, ring_pages, free_pages, pages_of, page_behind, ring_address, header, put_next, packet}
use Rattle.dp8390.specs.Laws.{RingLaws}
use Rattle.dp8390.proofs.FreePages.{bounds_of}
use Rattle.dp8390.proofs.WholeLaws.{length-put_byte}

-- an address of a ring that lies in memory
record Inside (r : Registers) (a : ℕ) : Type 0 where
  first : 0x4000 ≤ 256 * r.page_start
  last : 256 * r.page_stop ≤ 0x8000
  low : 256 * r.page_start ≤ a
  high : a < 256 * r.page_stop

-- it goes on by one, or from the end at the start
goes_on : (r : Registers) (a : ℕ) → Inside r a
    → ((next_address r a ≡ a + 1) × (a + 1 < 256 * r.page_stop)) ⊎ ((next_address r a ≡ 256 * r.page_start) × (a + 1 ≡ 256 * r.page_stop))
goes_on r a h =
    let low = h.low in
    let high = h.high in
    let last = h.last in
    let room : a + 1 < 2 ^ 16 = omega arith in
    let small : (a + 1) % 2 ^ 16 ≡ a + 1 = mod-eq_of_lt room in
    let next : next_address r a ≡ cond (eqb (a + 1) (256 * r.page_stop)) (256 * r.page_start) (a + 1) = ap (λ n. cond (eqb n (256 * r.page_stop)) (256 * r.page_start) n) small in
    elim (cases_eq (a + 1) (256 * r.page_stop)) [
      | inl end ↦ inr (next ∙ cond-true (eqb (a + 1) (256 * r.page_stop)) (256 * r.page_start) (a + 1) (eq-eqb _ _ end), end)
      | inr before ↦ inl (next ∙ cond-false (eqb (a + 1) (256 * r.page_stop)) (256 * r.page_start) (a + 1) (ne_eqb _ _ before), omega arith)
    ]

inside_next : (r : Registers) (a : ℕ) → Inside r a → Inside r (next_address r a)
inside_next r a h =
    let low = h.low in
    let high = h.high in
    elim (goes_on r a h) [
      | inl on ↦ let e = on.0 in let less = on.1 in record { first = h.first; last = h.last; low = omega arith; high = omega arith }
      | inr wraps ↦ let e = wraps.0 in record { first = h.first; last = h.last; low = omega arith; high = omega arith }
    ]

address_next : (r : Registers) (a j : ℕ) → Inside r a → j < 256 * r.page_stop - 256 * r.page_start → ring_address r (next_address r a) j ≡ ring_address r a (j + 1)
address_next r a j h less =
    let low = h.low in
    let high = h.high in
    elim (goes_on r a h) [
      | inl on ↦ ap (λ n. ring_address r n j) on.0 ∙ (let past = on.1 in grind (arith, nat_tests))
      | inr wraps ↦ ap (λ n. ring_address r n j) wraps.0 ∙ (let past = wraps.1 in grind (arith, nat_tests))
    ]

address_start : (r : Registers) (a : ℕ) → Inside r a → ring_address r a 0 ≡ a
address_start r a h = let high = h.high in grind (arith, nat_tests)

-- no other byte of a ring's length stands where one does
address_apart : (r : Registers) (a j : ℕ) → Inside r a → j + 1 < 256 * r.page_stop - 256 * r.page_start → ring_address r a (j + 1) ≢ a
address_apart r a j h less meets = let low = h.low in let high = h.high in absurd (grind (arith, nat_tests))

put_at : (m : List ℕ) (a x : ℕ) → length m ≡ 0x4000 → 0x4000 ≤ a → a < 0x8000 → get_or (put_byte m a x) (a - 0x4000) 0 ≡ x
put_at m a x len low high =
    let e : put_byte m a x ≡ set m (a - 0x4000) x = grind (arith, nat_tests) in
    let lt : a - 0x4000 < length m = omega arith in
    ap (λ (n : List ℕ). get_or n (a - 0x4000) 0) e ∙ get_or-set_same m (a - 0x4000) x 0 lt

put_apart : (m : List ℕ) (a x y : ℕ) → 0x4000 ≤ a → a < 0x8000 → 0x4000 ≤ y → a ≢ y → get_or (put_byte m a x) (y - 0x4000) 0 ≡ get_or m (y - 0x4000) 0
put_apart m a x y low high ylow apart =
    let e : put_byte m a x ≡ set m (a - 0x4000) x = grind (arith, nat_tests) in
    let ne : y - 0x4000 ≢ a - 0x4000 = omega arith in
    ap (λ (n : List ℕ). get_or n (y - 0x4000) 0) e ∙ get_or-set_other m (a - 0x4000) (y - 0x4000) x 0 ne

-- where none of the bytes stands, memory is as before
others : (r : Registers) (m : List ℕ) (a : ℕ) (bytes : List ℕ) (y : ℕ) → Inside r a → length bytes ≤ 256 * r.page_stop - 256 * r.page_start → 0x4000 ≤ y
    → ((k : ℕ) → k < length bytes → ring_address r a k ≢ y)
    → get_or (fold (put_next r) (m, a) bytes).0 (y - 0x4000) 0 ≡ get_or m (y - 0x4000) 0
others r m a [] y h fits low apart = refl
others r m a (x ∷ xs) y h fits low apart =
    let h_first = h.first in
    let h_last = h.last in
    let h_low = h.low in
    let h_high = h.high in
    others r (put_byte m a x) (next_address r a) xs y (inside_next r a h) (omega arith) low
    (λ k less meets. apart (k + 1) (omega arith) (sym (address_next r a k h (omega arith)) ∙ meets))
    ∙ put_apart m a x y (omega arith) (omega arith) low (λ meets. apart 0 (omega arith) (address_start r a h ∙ meets))

-- each byte stands at its address
stored : (r : Registers) (m : List ℕ) (a : ℕ) (bytes : List ℕ) (k : ℕ) → Inside r a → length m ≡ 0x4000 → length bytes ≤ 256 * r.page_stop - 256 * r.page_start → k < length bytes
    → get_or (fold (put_next r) (m, a) bytes).0 (ring_address r a k - 0x4000) 0 ≡ get_or bytes k 0
stored r m a [] k h len fits less = absurd (omega arith)
stored r m a (x ∷ xs) zero h len fits less =
    let h_first = h.first in
    let h_last = h.last in
    let h_low = h.low in
    let h_high = h.high in
    ap (λ n. get_or (fold (put_next r) (m, a) (x ∷ xs)).0 (n - 0x4000) 0) (address_start r a h)
    ∙ others r (put_byte m a x) (next_address r a) xs a (inside_next r a h) (omega arith) (omega arith)
    (λ j lt meets. address_apart r a j h (omega arith) (sym (address_next r a j h (omega arith)) ∙ meets))
    ∙ put_at m a x len (omega arith) (omega arith)
stored r m a (x ∷ xs) (suc j) h len fits less =
    ap (λ n. get_or (fold (put_next r) (m, a) (x ∷ xs)).0 (n - 0x4000) 0)
    (ap (ring_address r a) (let e : suc j ≡ j + 1 = omega arith in e) ∙ sym (address_next r a j h (omega arith)))
    ∙ stored r (put_byte m a x) (next_address r a) xs j (inside_next r a h) (length-put_byte m a x ∙ len) (omega arith) (omega arith)

-- ---- a frame
length-packet : (r : Registers) (status : ℕ) (frame : List ℕ) → length (packet r status frame) ≡ length frame + 8
length-packet r status frame =
    let h = header status (page_behind r (pages_of (length frame))) (length frame) in
    omega (arith, length-append (h ++ frame) (replicate 4 0), length-append h frame)

inside_current : (r : Registers) → has_ring r ≡ true → Inside r (256 * r.current)
inside_current r ring =
    let b = bounds_of r ring in
    let b_first = b.first in
    let b_last = b.last in
    let low = b.current_low in
    let high = b.current_high in
    record { first = omega arith; last = omega arith; low = omega arith; high = omega arith }

free_most : (r : Registers) → has_ring r ≡ true → free_pages r ≤ ring_pages r
free_most r ring = let b = bounds_of r ring in let low = b.current_low in let high = b.current_high in
    let some : 0 < ring_pages r = omega arith in
    let less = mod-lt (r.boundary + ring_pages r - r.current) some in
    grind (arith, nat_tests)

fits : (b : Board) (status : ℕ) (frame : List ℕ) → has_ring b.registers ≡ true → has_room b.registers frame ≡ true → length (packet b.registers status frame) < 256 * ring_pages b.registers
fits b status frame ring room =
    let r = b.registers in
    let most = free_most r ring in
    let less = ltb-true (pages_of (length frame)) (free_pages r) room in
    let pages : pages_of (length frame) < ring_pages r = omega arith in
    let count : length frame + 8 ≤ 256 * pages_of (length frame) = omega arith in
    omega (arith, length-packet r status frame)

pub ring_laws : RingLaws
ring_laws = record {
  fits = fits;
  stored = λ b status frame k memory ring room less.
      let fit = fits b status frame ring room in
      stored b.registers b.memory (256 * b.registers.current) (packet b.registers status frame) k (inside_current b.registers ring) memory (omega arith) less;
  others = λ b status frame x ring room low apart.
      let fit = fits b status frame ring room in
      others b.registers b.memory (256 * b.registers.current) (packet b.registers status frame) x (inside_current b.registers ring) (omega arith) low apart;
}
