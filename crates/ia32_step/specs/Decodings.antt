-- Instructions that are kept as they were decoded. (The project's own: what is kept has no meaning but that of the memory that it was
-- decoded from, so a step over it is a step; Intel SDM volume 3, "Self-Modifying Code".)
use Rattle.std.specs.Prelude.{ℕ, ◌≡◌, ◌≢◌, ◌≤◌, ◌<◌, ◌+◌, ◌%◌, ◌^◌, Bool, false, ◌&&◌, ◌==◌, not, None, All, slice_index_or}
use Rattle.std.specs.FinMap as map
use Rattle.nd_mem.specs.Space.{Space, Cells}
use Rattle.guest_map.specs.Slots.{slot_at}
use Rattle.ia32_decode.specs.declared.instruction.Op.TheVariants as op
use Rattle.ia32_decode.specs.declared.instruction.Operand.TheVariants as operand
use Rattle.ia32_decode.specs.declared.instruction.Repeat.TheVariants as repeat
use Rattle.ia32_step.specs.declared.decodings.Decoding.{Decoding}
use Rattle.ia32_step.specs.declared.decodings.Decodings.{Decodings}
use Rattle.ia32_step.specs.declared.effects.Write.{Write}
use Rattle.ia32_step.specs.declared.effects.Write.TheVariants as write
use Rattle.ia32_step.specs.Machine.{IsReadAt}

-- what is read where nothing is kept: zeros
abbrev pub nothing : Decoding
nothing = record {
  at = 0;
  length = 0;
  instruction = record { op = op.Adc; width = 0; first = operand.Absent; second = operand.Absent; imm = 0; repeat = repeat.Absent; lock = false };
}

-- the place of an address is that of its low bits
abbrev pub place_of : Decodings → ℕ → Decoding
place_of d at = slice_index_or d.kept (at % 32) nothing

-- an instruction is kept of this address
abbrev pub holds : Decodings → ℕ → Bool
holds d at = (place_of d at).at == at && not ((place_of d at).length == 0)

-- The instruction is the one that memory spells at its address, which is no slot's; no byte that it is read from, 15 at most, is before the
-- 31 that follow the lowest address or at the last.
pub record IsKept (cells : Cells) (low past : ℕ) (d : Decoding) : Type 0 where
  pub at_no_slot : slot_at d.at ≡ None
  pub read : IsReadAt cells d.at d.instruction d.length
  pub above : low + 31 ≤ d.at
  pub below : d.at + 15 ≤ past

abbrev pub IsKeptOrNothing : Cells → ℕ → ℕ → Decoding → Type 0
IsKeptOrNothing cells low past d = d.length ≢ 0 → IsKept cells low past d

-- all that is kept is as memory spells it
abbrev pub Keeps : Decodings → Space → Type 0
Keeps d s = (d.past < 2 ^ 32) × All (IsKeptOrNothing (map.get s) d.low d.past) d.kept

-- the instruction at the place of this address is the one that memory spells there, and it is no slot's address
abbrev pub IsHeld : Decodings → ℕ → Space → Type 0
IsHeld d at s = (slot_at at ≡ None) × IsReadAt (map.get s) at (place_of d at).instruction (place_of d at).length

-- the write is at no address from the lowest to the last
abbrev pub Misses : Write → ℕ → ℕ → Type 0
Misses write.Absent low past = Unit {0}
Misses (write.Number w a v) low past = (a < 2 ^ 32) × (low ≤ a → past ≤ a)
Misses (write.Registers a) low past = (a < 2 ^ 32) × (low ≤ a → past ≤ a)
