-- From what stands behind an opcode to whole instructions.
use Rattle.std.proofs.Common.{ℕ, List, ◌++◌, Option, Some, None, sym, ap, ◌∙◌, append_assoc}
use Rattle.std.specs.Int.{w32, to_le_bytes}
use Rattle.ia32_decode.specs.Operands.{place}
use Rattle.ia32_decode.specs.Rows.{ending, after_modrm, by_modrm, at_offset, addressed}
use Rattle.ia32_decode.specs.Opcodes.{row_of, behind_opcode, first_of, second_of, extended, after_first, body}
use Rattle.ia32_decode.specs.Prefixes.{set_of, instruction}
use Rattle.ia32_decode.specs.declared.prefixes.Prefixes.{Prefixes}
use Rattle.ia32_decode.specs.declared.instruction.Instr.{Instr}
use Rattle.ia32_decode.specs.declared.instruction.Operand.TheVariants as operands
use Rattle.ia32_decode.specs.declared.rows.Row.{Row}
use Rattle.ia32_decode.specs.declared.rows.Entry.{Entry}
use Rattle.ia32_decode.specs.declared.rows.Entry.TheVariants as entries
use Rattle.ia32_decode.specs.declared.forms.Addressing.{Addressing}
use Rattle.ia32_decode.specs.declared.forms.Addressing.TheVariants as addressings
use Rattle.ia32_fields.proofs.Fields.{Number, HasField, nothing_field, either_field, then_field, branch_field}
use Rattle.codes.specs.Codes.{◌>>=◌}

-- what a row has behind its opcode, or behind its ModRM byte
pub record RowsHave (k : Number Instr) : Type 0 where
  pub plain : (prefixes : Prefixes) (opcode : ℕ) (row : Row) → HasField k (ending prefixes opcode row 0 operands.Absent)
  pub named : (prefixes : Prefixes) (opcode : ℕ) (row : Row) (modrm : ℕ) → HasField k (place modrm >>= λ rm. ending prefixes opcode row modrm rm)
  pub offset : (prefixes : Prefixes) (opcode : ℕ) (row : Row) → HasField k (at_offset prefixes opcode row)

module _ (k : Number Instr) (rows : RowsHave k) where
  after_modrm_field : (prefixes : Prefixes) (opcode modrm : ℕ) (row : Option Row) → HasField k (after_modrm prefixes opcode modrm row)
  after_modrm_field prefixes opcode modrm None = nothing_field k
  after_modrm_field prefixes opcode modrm (Some row) = rows.named prefixes opcode row modrm

  by_modrm_field : (prefixes : Prefixes) (opcode : ℕ) (row_at : ℕ → Option Row) → HasField k (by_modrm prefixes opcode row_at)
  unfolding by_modrm
  by_modrm_field prefixes opcode row_at = then_field k _ _ (λ modrm. after_modrm_field prefixes opcode modrm (row_at modrm))

  addressed_field : (prefixes : Prefixes) (opcode : ℕ) (row : Row) (kind : Addressing) → HasField k (addressed prefixes opcode row kind)
  addressed_field prefixes opcode row addressings.Absent = either_field k _ _ _ (rows.plain prefixes opcode row) (nothing_field k)
  addressed_field prefixes opcode row addressings.Offset = either_field k _ _ _ (rows.offset prefixes opcode row) (nothing_field k)
  addressed_field prefixes opcode row addressings.Any = by_modrm_field prefixes opcode (λ _. Some row)
  addressed_field prefixes opcode row addressings.Memory = by_modrm_field prefixes opcode (λ _. Some row)

  behind_opcode_field : (prefixes : Prefixes) (opcode : ℕ) (entry : Entry) → HasField k (behind_opcode prefixes opcode entry)
  unfolding behind_opcode
  behind_opcode_field prefixes opcode entries.Outside = nothing_field k
  behind_opcode_field prefixes opcode entries.Escape = nothing_field k
  behind_opcode_field prefixes opcode (entries.One row) = addressed_field prefixes opcode row row.form.addressing
  behind_opcode_field prefixes opcode (entries.Group group) = by_modrm_field prefixes opcode (row_of group)

  extended_field : (prefixes : Prefixes) → HasField k (extended prefixes)
  unfolding extended
  extended_field prefixes = branch_field k _ _ (λ b. behind_opcode_field prefixes b (second_of b))

  after_first_field : (prefixes : Prefixes) (opcode : ℕ) (entry : Entry) → HasField k (after_first prefixes opcode entry)
  after_first_field prefixes opcode entries.Escape = extended_field prefixes
  after_first_field prefixes opcode entries.Outside = behind_opcode_field prefixes opcode entries.Outside
  after_first_field prefixes opcode (entries.One row) = behind_opcode_field prefixes opcode (entries.One row)
  after_first_field prefixes opcode (entries.Group group) = behind_opcode_field prefixes opcode (entries.Group group)

  body_field : (prefixes : Prefixes) → HasField k (body prefixes)
  unfolding body
  body_field prefixes = branch_field k _ _ (λ b. after_first_field prefixes b (first_of b))

  pub instruction_field : HasField k instruction
  instruction_field = record {
    field = λ bytes v o h at wide.
        let f = (body_field (set_of h.prefixes)).field h.rest v o h.spelled at wide in
        record {
          front = h.prefixes ++ f.front;
          back = f.back;
          parts = h.parts ∙ ap (λ (rest : List ℕ). h.prefixes ++ rest) f.parts ∙ sym (append_assoc h.prefixes f.front (to_le_bytes w32 o ++ f.back));
          each = λ n low. record {
            prefixes = h.prefixes;
            rest = f.front ++ (to_le_bytes w32 n ++ f.back);
            parts = append_assoc h.prefixes f.front (to_le_bytes w32 n ++ f.back);
            each = h.each;
            once = h.once;
            spelled = f.each n low;
          };
          behind = f.behind;
        };
  }
