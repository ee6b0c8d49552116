-- Wide immediates.
use Rattle.std.proofs.Common.{◌≡◌, ℕ, List, [], ◌++◌, refl, sym, ap, ◌∙◌, subst, append-nil}
use Rattle.std.specs.Int.{w32, to_le_bytes}
use Rattle.ia32_decode.specs.Rows.{built, ending, at_offset}
use Rattle.ia32_decode.specs.Prefixes.{instruction}
use Rattle.ia32_decode.specs.declared.prefixes.Prefixes.{Prefixes}
use Rattle.ia32_decode.specs.declared.instruction.Instr.{Instr}
use Rattle.ia32_decode.specs.declared.instruction.Operand.{Operand}
use Rattle.ia32_decode.specs.declared.rows.Row.{Row}
use Rattle.ia32_fields.specs.Fields.{IsWide, WideImmediates}
use Rattle.ia32_fields.proofs.Words.{immediate_word}
use Rattle.ia32_fields.proofs.Fields.{Number, HasField, then_field}
use Rattle.ia32_fields.proofs.Instructions.{RowsHave, instruction_field}

abbrev immediate : Number Instr
immediate = record {
  IsAt = λ v n. v.imm ≡ n;
  moved = λ n v. record v { imm = n };
  Behind = λ back v. back ≡ [];
}

built_imm : (prefixes : Prefixes) (opcode : ℕ) (row : Row) (modrm : ℕ) (rm : Operand) (n : ℕ) → (built prefixes opcode row modrm rm n).imm ≡ n
unfolding built
built_imm prefixes opcode row modrm rm n = refl

built_moved : (prefixes : Prefixes) (opcode : ℕ) (row : Row) (modrm : ℕ) (rm : Operand) (n m : ℕ) → immediate.moved m (built prefixes opcode row modrm rm n) ≡ built prefixes opcode row modrm rm m
unfolding built
built_moved prefixes opcode row modrm rm n m = refl

ending_field : (prefixes : Prefixes) (opcode : ℕ) (row : Row) (modrm : ℕ) (rm : Operand) → HasField immediate (ending prefixes opcode row modrm rm)
unfolding ending
ending_field prefixes opcode row modrm rm = record {
  field = λ bytes v o h at wide.
      let own : h.1 ≡ o = sym (ap (λ (v : Instr). v.imm) h.4.1 ∙ built_imm prefixes opcode row modrm rm h.1) ∙ at in
      let w = (immediate_word row.form.immediate prefixes.operand_size).word h.0 h.1 h.3 (subst IsWide (sym own) wide) in
      record {
        front = [];
        back = [];
        parts = h.5 ∙ ap (λ (back : List ℕ). h.0 ++ back) h.4.0 ∙ ap (λ (front : List ℕ). front ++ []) (w.is ∙ ap (to_le_bytes w32) own);
        each = λ n low. (to_le_bytes w32 n, n, [], w.each n low, (refl, ap (immediate.moved n) h.4.1 ∙ built_moved prefixes opcode row modrm rm h.1 n), refl);
        behind = refl;
      };
}

rows_have : RowsHave immediate
unfolding at_offset
rows_have = record {
  plain = λ prefixes opcode row. ending_field prefixes opcode row 0 _;
  named = λ prefixes opcode row modrm. then_field immediate _ _ (λ rm. ending_field prefixes opcode row modrm rm);
  offset = λ prefixes opcode row. then_field immediate _ _ (λ rm. ending_field prefixes opcode row 0 rm);
}

-- with nothing behind it
ended : (front back : List ℕ) (n : ℕ) → back ≡ [] → front ++ (to_le_bytes w32 n ++ back) ≡ front ++ to_le_bytes w32 n
ended front back n none = ap (λ (back : List ℕ). front ++ (to_le_bytes w32 n ++ back)) none ∙ ap (λ (rest : List ℕ). front ++ rest) (append-nil (to_le_bytes w32 n))

pub wide_immediates : WideImmediates
wide_immediates bytes v h wide =
    let f = (instruction_field immediate rows_have).field bytes v v.imm h refl wide in
    record {
      front = f.front;
      parts = f.parts ∙ ended f.front f.back v.imm f.behind;
      each = λ n low. subst (λ (bytes : List ℕ). instruction.spells bytes (record v { imm = n })) (ended f.front f.back n f.behind) (f.each n low);
    }
