-- Wide offsets.
use Rattle.std.proofs.Common.{◌≡◌, ℕ, ◌≤◌, ◌⊎◌, inl, inr, List, [], ◌++◌, length, Option, Some, None, refl, sym, ap, ◌∙◌, subst, ⊎_elim, append_assoc, append-nil}
use Rattle.std.specs.Int.{w32, to_le_bytes}
use Rattle.codes.specs.Codes.{Code, done, ◌>>=◌}
use Rattle.ia32_decode.specs.Operands.{based, place, offset_alone}
use Rattle.ia32_decode.specs.Rows.{operand_of, built, ending, at_offset as offset_row}
use Rattle.ia32_decode.specs.declared.prefixes.Prefixes.{Prefixes}
use Rattle.ia32_decode.specs.declared.instruction.Instr.{Instr}
use Rattle.ia32_decode.specs.declared.instruction.Operand.{Operand}
use Rattle.ia32_decode.specs.declared.instruction.Operand.TheVariants as operands
use Rattle.ia32_decode.specs.declared.rows.Row.{Row}
use Rattle.ia32_decode.specs.declared.forms.Source.{Source}
use Rattle.ia32_decode.specs.declared.forms.Source.TheVariants as sources
use Rattle.ia32_fields.specs.Fields.{IsWide, IsAtOffset, with_offset, at_offset, WideOffsets}
use Rattle.ia32_fields.proofs.Words.{HasWord, little_endian_4_word, displacement_word, immediate_word, immediate_long}
use Rattle.ia32_fields.proofs.Fields.{Number, HasField, either_field, then_field}
use Rattle.ia32_fields.proofs.Instructions.{RowsHave, instruction_field}

-- ---- operands in memory

abbrev of_operand : Number Operand
of_operand = record {
  IsAt = IsAtOffset;
  moved = with_offset;
  Behind = λ back rm. back ≡ [];
}

-- memory at a number that a code spells
memory_field : (c : Code ℕ) (base index : Option ℕ) (scale : ℕ) → HasWord c → HasField of_operand (c >>= λ offset. done (operands.Place base index scale offset))
memory_field c base index scale word = record {
  field = λ bytes rm o h at wide.
      let own : h.1 ≡ o = subst (λ rm. IsAtOffset rm o) h.4.1 at in
      let w = word.word h.0 h.1 h.3 (subst IsWide (sym own) wide) in
      record {
        front = [];
        back = [];
        parts = h.5 ∙ ap (λ (back : List ℕ). h.0 ++ back) h.4.0 ∙ ap (λ (front : List ℕ). front ++ []) (w.is ∙ ap (to_le_bytes w32) own);
        each = λ n low. (to_le_bytes w32 n, n, [], w.each n low, (refl, ap (with_offset n) h.4.1), refl);
        behind = refl;
      };
}

register_field : (r : ℕ) → HasField of_operand (done (operands.Reg r))
register_field r = record { field = λ bytes rm o h at wide. absurd (subst (λ rm. IsAtOffset rm o) h.1 at) }

based_field : (mode base : ℕ) (index : Option ℕ) (scale : ℕ) → HasField of_operand (based mode base index scale)
unfolding based
based_field mode base index scale = either_field of_operand _ _ _ (memory_field _ None index scale little_endian_4_word) (memory_field _ (Some base) index scale (displacement_word mode))

place_field : (modrm : ℕ) → HasField of_operand (place modrm)
unfolding place
place_field modrm = either_field of_operand _ _ _ (register_field _) (either_field of_operand _ _ _ (then_field of_operand _ _ (λ sib. based_field _ _ _ _)) (based_field _ _ _ _))

offset_alone_field : HasField of_operand offset_alone
unfolding offset_alone
offset_alone_field = memory_field _ None None 1 little_endian_4_word

-- ---- instructions

abbrev of_instruction : Number Instr
of_instruction = record {
  IsAt = λ v n. IsAtOffset v.first n ⊎ IsAtOffset v.second n;
  moved = at_offset;
  Behind = λ back v. ((length back ≤ 2) ⊎ (back ≡ to_le_bytes w32 v.imm)) × (IsWide v.imm → back ≡ to_le_bytes w32 v.imm);
}

-- an operand in memory is what the addressing names
rm_at : (source : Source) (opcode modrm : ℕ) (rm : Operand) (o : ℕ) → IsAtOffset (operand_of source opcode modrm rm) o → IsAtOffset rm o
rm_at sources.Rm opcode modrm rm o at = at
rm_at sources.Absent opcode modrm rm o at = absurd at
rm_at sources.Reg opcode modrm rm o at = absurd at
rm_at sources.Opcode opcode modrm rm o at = absurd at
rm_at sources.Accumulator opcode modrm rm o at = absurd at
rm_at sources.Counter opcode modrm rm o at = absurd at
rm_at sources.Immediate opcode modrm rm o at = absurd at

rm_moved : (source : Source) (opcode modrm : ℕ) (rm : Operand) (n : ℕ) → with_offset n (operand_of source opcode modrm rm) ≡ operand_of source opcode modrm (with_offset n rm)
rm_moved sources.Rm opcode modrm rm n = refl
rm_moved sources.Absent opcode modrm rm n = refl
rm_moved sources.Reg opcode modrm rm n = refl
rm_moved sources.Opcode opcode modrm rm n = refl
rm_moved sources.Accumulator opcode modrm rm n = refl
rm_moved sources.Counter opcode modrm rm n = refl
rm_moved sources.Immediate opcode modrm rm n = refl

built_at : (prefixes : Prefixes) (opcode : ℕ) (row : Row) (modrm : ℕ) (rm : Operand) (x : ℕ) (v : Instr) (o : ℕ) → v ≡ built prefixes opcode row modrm rm x → of_instruction.IsAt v o → IsAtOffset rm o
unfolding built
built_at prefixes opcode row modrm rm x v o is at = ⊎_elim
    (λ s. rm_at row.form.first opcode modrm rm o (subst (λ (v : Instr). IsAtOffset v.first o) is s))
    (λ s. rm_at row.form.second opcode modrm rm o (subst (λ (v : Instr). IsAtOffset v.second o) is s))
    at

built_moved : (prefixes : Prefixes) (opcode : ℕ) (row : Row) (modrm : ℕ) (rm : Operand) (x n : ℕ) → at_offset n (built prefixes opcode row modrm rm x) ≡ built prefixes opcode row modrm (with_offset n rm) x
unfolding built
built_moved prefixes opcode row modrm rm x n = λ i. record {
  op = row.op;
  width = (built prefixes opcode row modrm rm x).width;
  first = rm_moved row.form.first opcode modrm rm n i;
  second = rm_moved row.form.second opcode modrm rm n i;
  imm = x;
  repeat = prefixes.repeat;
  lock = prefixes.lock;
}

built_imm : (prefixes : Prefixes) (opcode : ℕ) (row : Row) (modrm : ℕ) (rm : Operand) (x : ℕ) (v : Instr) → v ≡ built prefixes opcode row modrm rm x → x ≡ v.imm
unfolding built
built_imm prefixes opcode row modrm rm x v is = sym (ap (λ (v : Instr). v.imm) is)

-- an operand, and then the immediate
operand_field : (prefixes : Prefixes) (opcode : ℕ) (row : Row) (modrm : ℕ) (c : Code Operand) → HasField of_operand c → HasField of_instruction (c >>= λ rm. ending prefixes opcode row modrm rm)
unfolding ending
operand_field prefixes opcode row modrm c p = record {
  field = λ bytes v o h at wide.
      let is = h.4.4.1 in
      let f = p.field h.0 h.1 o h.3 (built_at prefixes opcode row modrm h.1 h.4.1 v o is at) wide in
      let imm : h.2 ≡ h.4.0 = h.4.5 ∙ ap (λ (back : List ℕ). h.4.0 ++ back) h.4.4.0 ∙ append-nil h.4.0 in
      let plain : (n : ℕ) → f.front ++ (to_le_bytes w32 n ++ f.back) ≡ f.front ++ to_le_bytes w32 n = λ n. ap (λ (back : List ℕ). f.front ++ (to_le_bytes w32 n ++ back)) f.behind ∙ ap (λ (rest : List ℕ). f.front ++ rest) (append-nil (to_le_bytes w32 n)) in
      let long : (length h.2 ≤ 2) ⊎ (h.2 ≡ to_le_bytes w32 v.imm) = ⊎_elim
      (λ s. inl (subst (λ (back : List ℕ). length back ≤ 2) (sym imm) s))
      (λ s. inr (imm ∙ s ∙ ap (to_le_bytes w32) (built_imm prefixes opcode row modrm h.1 h.4.1 v is)))
      (immediate_long row.form.immediate prefixes.operand_size h.4.0 h.4.1 h.4.3) in
      let own = built_imm prefixes opcode row modrm h.1 h.4.1 v is in
      let four : IsWide v.imm → h.2 ≡ to_le_bytes w32 v.imm = λ (wide_imm : IsWide v.imm). imm ∙ ((immediate_word row.form.immediate prefixes.operand_size).word h.4.0 h.4.1 h.4.3 (subst IsWide (sym own) wide_imm)).is ∙ ap (to_le_bytes w32) own in
      record {
        front = f.front;
        back = h.2;
        parts = h.5 ∙ ap (λ (front : List ℕ). front ++ h.2) (f.parts ∙ plain o) ∙ append_assoc f.front (to_le_bytes w32 o) h.2;
        each = λ n low. (
          f.front ++ (to_le_bytes w32 n ++ f.back),
          with_offset n h.1,
          h.2,
          f.each n low,
          (h.4.0, h.4.1, h.4.2, h.4.3, (h.4.4.0, ap (at_offset n) is ∙ built_moved prefixes opcode row modrm h.1 h.4.1 n), h.4.5),
          sym (append_assoc f.front (to_le_bytes w32 n) h.2) ∙ ap (λ (front : List ℕ). front ++ h.2) (sym (plain n)),
        );
        behind = (long, four);
      };
}

-- no operand is in memory
plain_field : (prefixes : Prefixes) (opcode : ℕ) (row : Row) → HasField of_instruction (ending prefixes opcode row 0 operands.Absent)
unfolding ending
plain_field prefixes opcode row = record {
  field = λ bytes v o h at wide. absurd (built_at prefixes opcode row 0 operands.Absent h.1 v o h.4.1 at);
}

rows_have : RowsHave of_instruction
unfolding offset_row
rows_have = record {
  plain = plain_field;
  named = λ prefixes opcode row modrm. operand_field prefixes opcode row modrm (place modrm) (place_field modrm);
  offset = λ prefixes opcode row. operand_field prefixes opcode row 0 offset_alone offset_alone_field;
}

pub wide_offsets : WideOffsets
wide_offsets bytes v offset h at wide =
    let f = (instruction_field of_instruction rows_have).field bytes v offset h at wide in
    record { front = f.front; back = f.back; parts = f.parts; each = f.each; behind = f.behind.0; wide = f.behind.1 }
