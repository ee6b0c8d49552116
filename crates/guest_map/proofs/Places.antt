-- The named places of the memory map, number by number.
use Rattle.std.proofs.Common.{◌≡◌, ◌≢◌, ℕ, zero, suc, ◌+◌, ◌*◌, ◌<◌, ◌≤◌, true, false, ◌⊎◌, inl, inr, length, get_or, None, Some, refl, ap, ◌∙◌, subst, arith, lit≤}
use Rattle.std.specs.Prelude.{All, Contains}
use Rattle.std.proofs.lemmas.Bool.{cases_lt}
use Rattle.std.proofs.lemmas.Bool.Decides.{nat_tests}
use Rattle.std.proofs.Math.Nat.{mod-eq_of_lt}
use Rattle.nd_base.specs.declared.numbers.Addr.{Addr}
use Rattle.nd_base.specs.declared.numbers.Slot.{Slot}
use Rattle.nd_base.specs.declared.numbers.Slot.TheVariants.{Import, Leave}
use Rattle.nd_mem.specs.Space.{Access, address, allows, fault_in, first_fault, wrapped}
use Rattle.nd_mem.specs.Laws.{FaultLaws}
use Rattle.guest_map.specs.declared.regions.Region.{Region}
use Rattle.guest_map.specs.Regions.{end_of, lies_in, AreApart, regions, stack, answer_area, send_slot, request_buffer, adapter_block}
use Rattle.guest_map.specs.Slots.{IsSlot, slot_address}
use Rattle.guest_map.specs.Blank.{blank, blank_cells, read_write}
use Rattle.guest_map.specs.Laws.{IsOpaque}
use Rattle.guest_map.proofs.Rising.{apart_by_ends, blank_at, blank_out, rising_below, rising_behind, rising_within, regions_rise}

-- ---- a fact of each number below n
abbrev Each : ℕ → (ℕ → Type 0) → Type 0
Each zero P = Unit {0}
Each (suc n) P = P 0 × Each n (λ k. P (suc k))

each_below : (n : ℕ) (P : ℕ → Type 0) → Each n P → (k : ℕ) → k < n → P k
each_below zero P all k less = absurd (omega arith)
each_below (suc n) P all zero less = all.0
each_below (suc n) P all (suc k) less = each_below n (λ j. P (suc j)) all.1 k (omega arith)

-- ---- stacks and answer areas are regions
stack_at : (context : ℕ) → context < 16 → (get_or regions (1 + 2 * context) (stack context) ≡ stack context) × (1 + 2 * context < length regions)
stack_at context less = (
  each_below 16 (λ c. get_or regions (1 + 2 * c) (stack c) ≡ stack c)
      (refl, (refl, (refl, (refl, (refl, (refl, (refl, (refl, (refl, (refl, (refl, (refl, (refl, (refl, (refl, (refl, tt)))))))))))))))) context less,
  omega arith,
)

pub stack_is_region : (context : ℕ) → context < 16 → Contains regions (stack context)
stack_is_region context less = let at = stack_at context less in (1 + 2 * context, at.1, at.0)

area_at : (context : ℕ) → context < 16 → (get_or regions (2 + 2 * context) (answer_area context) ≡ answer_area context) × (2 + 2 * context < length regions)
area_at context less = (
  each_below 16 (λ c. get_or regions (2 + 2 * c) (answer_area c) ≡ answer_area c)
      (refl, (refl, (refl, (refl, (refl, (refl, (refl, (refl, (refl, (refl, (refl, (refl, (refl, (refl, (refl, (refl, tt)))))))))))))))) context less,
  omega arith,
)

pub area_is_region : (context : ℕ) → context < 16 → Contains regions (answer_area context)
area_is_region context less = let at = area_at context less in (2 + 2 * context, at.1, at.0)

-- ---- places of one kind are apart
pub apart_by_front : (r q : Region) → end_of q ≤ r.first.0 → AreApart r q
apart_by_front r q front = λ a here. grind (arith, nat_tests)

pub stacks_are_apart : (context other : ℕ) → context ≢ other → AreApart (stack context) (stack other)
stacks_are_apart context other apart =
    elim (cases_lt context other) [
      | inl before ↦ apart_by_ends (stack context) (stack other) (omega arith)
      | inr after ↦ apart_by_front (stack context) (stack other) (omega arith)
    ]

pub areas_are_apart : (context other : ℕ) → context ≢ other → AreApart (answer_area context) (answer_area other)
areas_are_apart context other apart =
    elim (cases_lt context other) [
      | inl before ↦ apart_by_ends (answer_area context) (answer_area other) (omega arith)
      | inr after ↦ apart_by_front (answer_area context) (answer_area other) (omega arith)
    ]

pub stack_apart_from_area : (context other : ℕ) → AreApart (stack context) (answer_area other)
stack_apart_from_area context other =
    elim (cases_lt other context) [
      | inl after ↦ apart_by_front (stack context) (answer_area other) (omega arith)
      | inr before ↦ apart_by_ends (stack context) (answer_area other) (omega arith)
    ]

pub slots_are_apart : (driver slot other_driver other_slot : ℕ) → slot < 256 → other_slot < 256 → (driver ≢ other_driver) ⊎ (slot ≢ other_slot) → AreApart (send_slot driver slot) (send_slot other_driver other_slot)
slots_are_apart driver slot other_driver other_slot less other_less apart =
    let differ : driver * 256 + slot ≢ other_driver * 256 + other_slot = λ same. elim apart [
      | inl drivers ↦ drivers (omega arith)
      | inr slots ↦ slots (omega arith)
    ] in
    elim (cases_lt (driver * 256 + slot) (other_driver * 256 + other_slot)) [
      | inl before ↦ apart_by_ends (send_slot driver slot) (send_slot other_driver other_slot) (omega arith)
      | inr after ↦ apart_by_front (send_slot driver slot) (send_slot other_driver other_slot) (omega (arith, differ))
    ]

pub buffers_are_apart : (adapter other : ℕ) → adapter ≢ other → AreApart (request_buffer adapter) (request_buffer other)
buffers_are_apart adapter other apart =
    elim (cases_lt adapter other) [
      | inl before ↦ apart_by_ends (request_buffer adapter) (request_buffer other) (omega arith)
      | inr after ↦ apart_by_front (request_buffer adapter) (request_buffer other) (omega arith)
    ]

pub blocks_are_apart : (adapter other : ℕ) → adapter ≢ other → AreApart (adapter_block adapter) (adapter_block other)
blocks_are_apart adapter other apart =
    elim (cases_lt adapter other) [
      | inl before ↦ apart_by_ends (adapter_block adapter) (adapter_block other) (omega arith)
      | inr after ↦ apart_by_front (adapter_block adapter) (adapter_block other) (omega arith)
    ]

-- ---- slots
pub slots_differ : (slot other : Slot) → IsSlot slot → IsSlot other → slot_address slot ≡ slot_address other → slot ≡ other
slots_differ (Import m) (Import n) is also same = ap Import (omega (arith, is.0, is.1, also.0, also.1))
slots_differ (Import m) Leave is also same = absurd (omega (arith, is.0, is.1))
slots_differ Leave (Import n) is also same = absurd (omega (arith, also.0, also.1))
slots_differ Leave Leave is also same = refl

pub slots_high : (slot : Slot) → 0xF0000000 ≤ slot_address slot
slots_high (Import n) = omega arith
slots_high Leave = lit≤ tt

pub slots_below : (slot : Slot) → IsSlot slot → slot_address slot ≤ 0xF0001000
slots_below (Import n) is = omega (arith, is.0, is.1)
slots_below Leave is = lit≤ tt

-- ---- handles
pub all_below : (number : ℕ) → 0x85004000 ≤ number → All (λ r. lies_in r number ≡ false) regions
all_below number high = λ i d less. outside (get_or regions i d) (rising_within 0x81000000 0x85004000 regions i d regions_rise less)
  where
    outside : (r : Region) → end_of r ≤ 0x85004000 → lies_in r number ≡ false
    outside r low = grind (arith, nat_tests)

pub opaque : (number : ℕ) → 0x85004000 ≤ number → number < 0xF0000000 → IsOpaque number
opaque number high low = record { behind = all_below number high; low = low }

-- ---- what the regions have
pub blank_found : (r : Region) (a : ℕ) → Contains regions r → lies_in r a ≡ true → blank_cells a ≡ Some blank
unfolding blank_cells
blank_found r a has here = blank_at regions has.0 r a has.1 (ap (λ q. lies_in q a) has.2 ∙ here)

may : (access : Access) (at : Addr) → allows access read_write ≡ true → fault_in access at (Some blank) ≡ None
may access at allowed = rw allowed

pub blank_allowed : FaultLaws → (access : Access) (r : Region) (a n : ℕ) → allows access read_write ≡ true → Contains regions r → r.first.0 ≤ a → a + n ≤ end_of r → first_fault access blank_cells a n ≡ None
blank_allowed faults access r a n allowed has from to =
    let ends : end_of r ≤ 0x85004000 = subst (λ q. end_of q ≤ 0x85004000) has.2 (rising_within 0x81000000 0x85004000 regions has.0 r regions_rise has.1) in
    faults.none access blank_cells a n (λ k less.
    let is : wrapped (a + k) ≡ a + k = mod-eq_of_lt (omega arith) in
    ap (λ b. fault_in access (address b) (blank_cells b)) is
    ∙ ap (fault_in access (address (a + k))) (blank_found r (a + k) has (grind (arith, nat_tests)))
    ∙ may access (address (a + k)) allowed)

pub blank_nowhere : (a : ℕ) → All (λ r. lies_in r a ≡ false) regions → blank_cells a ≡ None
unfolding blank_cells
blank_nowhere a out = blank_out regions a out

pub blank_before : (a : ℕ) → a < 0x81000000 → blank_cells a ≡ None
unfolding blank_cells
blank_before a less = rising_below 0x81000000 0x85004000 regions a regions_rise less

pub blank_behind : (a : ℕ) → 0x85004000 ≤ a → blank_cells a ≡ None
unfolding blank_cells
blank_behind a high = rising_behind 0x81000000 0x85004000 regions a regions_rise high
