-- Indirect near calls through an address: Intel SDM volume 2, CALL, "FF /2".
use Rattle.std.specs.Prelude.{ℕ, ◌^◌, ◌<◌, None, false, ◌∷◌}
use Rattle.std.specs.Int.{w32, to_le_bytes}
use Rattle.ia32_decode.specs.Decoding.{Spells}
use Rattle.ia32_decode.specs.declared.instruction.Instr.{Instr}
use Rattle.ia32_decode.specs.declared.instruction.Op.TheVariants as ops
use Rattle.ia32_decode.specs.declared.instruction.Operand.TheVariants as operands
use Rattle.ia32_decode.specs.declared.instruction.Repeat.TheVariants as repeats

-- call dword [address]
abbrev pub call_through : ℕ → Instr
call_through address = record {
  op = ops.Call;
  width = 4;
  first = operands.Place None None 1 address;
  second = operands.Absent;
  imm = 0;
  repeat = repeats.Absent;
  lock = false;
}

abbrev pub CallsAreSpelled : Type 0
CallsAreSpelled = (address : ℕ) → address < 2 ^ 32 → Spells (0xFF ∷ 0x15 ∷ to_le_bytes w32 address) (call_through address)
