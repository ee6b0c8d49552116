-- The addresses that stand for imports, and the one that handlers return to, above all memory. (The project's own: docs/MEMORY.md.)
use Rattle.std.specs.Prelude.{ℕ, ◌≡◌, ◌↔◌, ◌+◌, ◌-◌, ◌*◌, ◌/◌, ◌%◌, ◌≤◌, ◌&&◌, nat_le, nat_lt, ◌==◌, if◌then◌else◌, Option, None, Some}
use Rattle.nd_base.specs.declared.numbers.Slot.{Slot}
use Rattle.nd_base.specs.declared.numbers.Slot.TheVariants.{Import, Leave}

-- how many imports there are: they are numbered from 1
abbrev pub imports : ℕ
imports = 64

abbrev pub IsSlot : Slot → Type 0
IsSlot (Import n) = (1 ≤ n) × (n ≤ imports)
IsSlot Leave = Unit {0}

abbrev pub slot_address : Slot → ℕ
slot_address (Import n) = 0xF0000000 + 16 * (n - 1)
slot_address Leave = 0xF0001000

-- the slot at an address
unfoldable pub slot_at : ℕ → Option Slot
slot_at a =
    if a == 0xF0001000 then Some Leave
    else (if (nat_le 0xF0000000 a && nat_lt a 0xF0000400) && ((a % 16) == 0) then Some (Import ((a - 0xF0000000) / 16 + 1)) else None)

-- each slot, and nothing else, is at its address
abbrev pub AreSlotsAt : ℕ → Option Slot → Type 0
AreSlotsAt a found = (slot : Slot) → (found ≡ Some slot) ↔ (IsSlot slot × (slot_address slot ≡ a))
