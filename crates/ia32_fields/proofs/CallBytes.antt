-- The bytes of an indirect call.
use Rattle.std.proofs.Common.{inl, inr, None, [], ◌∷◌, refl, sym, append-nil, arith}
use Rattle.std.specs.Int.{w32, to_le_bytes}
use Rattle.codes.specs.NumberLaws.{little_endian_4_spells}
use Rattle.ia32_decode.specs.Operands.{based, place, immediate}
use Rattle.ia32_decode.specs.Rows.{built, allows, fits, ending, by_modrm}
use Rattle.ia32_decode.specs.Opcodes.{first_of, rows_of, behind_opcode, body}
use Rattle.ia32_decode.specs.declared.instruction.Operand.TheVariants as operands
use Rattle.ia32_fields.specs.Calls.{CallsAreSpelled}

pub call_spelled : CallsAreSpelled
unfolding based place immediate built allows fits ending by_modrm first_of rows_of behind_opcode body
call_spelled n low = record {
  prefixes = [];
  rest = 0xFF ∷ 0x15 ∷ to_le_bytes w32 n;
  parts = refl;
  each = tt;
  once = tt;
  spelled = (
    omega arith,
    (
      0x15 ∷ [],
      0x15,
      to_le_bytes w32 n,
      (omega arith, refl, refl),
      (
        to_le_bytes w32 n,
        operands.Place None None 1 n,
        [],
        inr (refl, inr (refl, inl (refl, (to_le_bytes w32 n, n, [], little_endian_4_spells n low, (refl, refl), sym (append-nil (to_le_bytes w32 n)))))),
        ([], 0, [], (refl, refl), (refl, refl), refl),
        sym (append-nil (to_le_bytes w32 n)),
      ),
      refl,
    ),
  );
}
