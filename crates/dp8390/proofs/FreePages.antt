-- The free pages of the ring, and that a frame which takes fewer leaves CURR apart from BNRY.
use Rattle.std.proofs.Common.{◌≡◌, ◌≢◌, ℕ, ◌+◌, ◌-◌, ◌%◌, ◌<◌, ◌≤◌, true, eqb, cond, ap, ◌∙◌, inl, inr, arith}
use Rattle.std.proofs.Math.Nat.{add-mod_right, mod_self, mod-eq_of_lt}
use Rattle.std.proofs.lemmas.Bool.{cases_lt}
use Rattle.std.proofs.lemmas.Bool.Decides.{nat_tests}
use Rattle.dp8390.specs.declared.registers.Registers.{Registers}
use Rattle.dp8390.specs.Ring.{has_ring, ring_pages, free_pages, page_behind}

-- from a page up to one in front of it
pub free_in_front : (ring to from : ℕ) → from < to → to - from < ring
    → cond (eqb ((to + ring - from) % ring) 0) ring ((to + ring - from) % ring) ≡ to - from
free_in_front ring to from low high =
    let sum : to + ring - from ≡ (to - from) + ring = omega arith in
    let distance : (to + ring - from) % ring ≡ to - from = ap (λ n. n % ring) sum ∙ add-mod_right (to - from) ring ∙ mod-eq_of_lt high in
    rw distance (grind (arith, nat_tests))

-- up to one that is not in front of it, over the end of the ring
pub free_over_the_end : (ring to from : ℕ) → to ≤ from → from - to < ring
    → cond (eqb ((to + ring - from) % ring) 0) ring ((to + ring - from) % ring) ≡ ring - (from - to)
free_over_the_end ring to from low high =
    elim (cases_lt to from) [
      | inl behind ↦
          let less : to + ring - from < ring = omega arith in
          rw (mod-eq_of_lt less) (grind (arith, nat_tests))
      | inr not_behind ↦
          let whole : to + ring - from ≡ ring = omega arith in
          let distance : (to + ring - from) % ring ≡ 0 = ap (λ n. n % ring) whole ∙ mod_self ring in
          rw distance (omega arith)
    ]

-- what it says that there is a ring
pub record Bounds (r : Registers) : Type 0 where
  pub first : 0x40 ≤ r.page_start
  pub last : r.page_stop ≤ 0x80
  pub current_low : r.page_start ≤ r.current
  pub current_high : r.current < r.page_stop
  pub boundary_low : r.page_start ≤ r.boundary
  pub boundary_high : r.boundary < r.page_stop

pub bounds_of : (r : Registers) → has_ring r ≡ true → Bounds r
bounds_of r ring = record {
  first = grind (arith, nat_tests);
  last = grind (arith, nat_tests);
  current_low = grind (arith, nat_tests);
  current_high = grind (arith, nat_tests);
  boundary_low = grind (arith, nat_tests);
  boundary_high = grind (arith, nat_tests);
}

subst_lt : (n a b : ℕ) → a ≡ b → n < a → n < b
subst_lt n a b e h = omega arith

-- the page behind fewer pages than are free is not BNRY
pub behind_is_apart : (r : Registers) (pages : ℕ) → has_ring r ≡ true → 0 < pages → pages < free_pages r → page_behind r pages ≢ r.boundary
behind_is_apart r pages ring some room meets =
    let b = bounds_of r ring in
    elim (cases_lt r.current r.boundary) [
      | inl front ↦
          let free = free_in_front (ring_pages r) r.boundary r.current front (omega (arith, b.current_low, b.boundary_high)) in
          let less : pages < r.boundary - r.current = subst_lt pages (free_pages r) _ free room in
          let inside : r.current + pages < r.page_stop = omega (arith, b.boundary_high) in
          absurd (grind (arith, nat_tests))
      | inr over ↦
          let free = free_over_the_end (ring_pages r) r.boundary r.current over (omega (arith, b.boundary_low, b.current_high)) in
          let less : pages < ring_pages r - (r.current - r.boundary) = subst_lt pages (free_pages r) _ free room in
          elim (cases_lt (r.current + pages) r.page_stop) [
            | inl inside ↦ absurd (grind (arith, nat_tests))
            | inr wrapped ↦ absurd (grind (arith, nat_tests, b.boundary_low, b.current_high))
          ]
    ]
