-- How long an instruction is at most.
use Rattle.std.proofs.Common.{◌≡◌, ℕ, ◌+◌, ◌≤◌, inl, inr, Bool, true, false, not, List, [], ◌∷◌, length, Option, Some, None, arith}
use Rattle.codes.specs.Exact.{IsAtMost}
use Rattle.codes.specs.LengthLaws.{done_at_most, nothing_at_most, byte_at_most, either_at_most, then_at_most, branch_at_most, at_most_more}
use Rattle.codes.specs.NumberLaws.{octet_at_most, little_endian_2_at_most, little_endian_4_at_most}
use Rattle.ia32_decode.specs.Operands.{signed_byte, displacement, based, place, offset_alone, immediate}
use Rattle.ia32_decode.specs.Rows.{is_absent, ending, after_modrm, by_modrm, at_offset, addressed}
use Rattle.ia32_decode.specs.Opcodes.{row_of, behind_opcode, first_of, second_of, extended, after_first, body}
use Rattle.ia32_decode.specs.Prefixes.{has, with_prefix, none, instruction}
use Rattle.ia32_decode.specs.declared.prefixes.Prefixes.{Prefixes}
use Rattle.ia32_decode.specs.declared.instruction.Instr.{Instr}
use Rattle.ia32_decode.specs.declared.instruction.Operand.{Operand}
use Rattle.ia32_decode.specs.declared.instruction.Operand.TheVariants as operands
use Rattle.ia32_decode.specs.declared.rows.Row.{Row}
use Rattle.ia32_decode.specs.declared.rows.Entry.{Entry}
use Rattle.ia32_decode.specs.declared.rows.Entry.TheVariants as entries
use Rattle.ia32_decode.specs.declared.forms.Addressing.{Addressing}
use Rattle.ia32_decode.specs.declared.forms.Addressing.TheVariants as addressings
use Rattle.ia32_decode.specs.declared.forms.Immediate.{Immediate}
use Rattle.ia32_decode.specs.declared.forms.Immediate.TheVariants as immediates
use Rattle.ia32_decode.proofs.PrefixLaws.{spells_behind, Which, is_66, is_f0, is_f2, is_f3, which, or-false, merged_some, behind_spelled}

signed_byte_below : (n : ℕ) → 1 ≤ n → IsAtMost signed_byte n
unfolding signed_byte
signed_byte_below n h = then_at_most _ _ 1 0 n (omega arith) octet_at_most (λ b. done_at_most _ 0)

displacement_below : (mode : ℕ) → IsAtMost (displacement mode) 4
unfolding displacement
displacement_below mode = either_at_most _ _ _ 4 (done_at_most 0 4) (either_at_most _ _ _ 4 (signed_byte_below 4 (omega arith)) little_endian_4_at_most)

based_below : (mode base : ℕ) (index : Option ℕ) (scale : ℕ) → IsAtMost (based mode base index scale) 4
unfolding based
based_below mode base index scale = either_at_most _ _ _ 4 (then_at_most _ _ 4 0 4 (omega arith) little_endian_4_at_most (λ _. done_at_most _ 0)) (then_at_most _ _ 4 0 4 (omega arith) (displacement_below mode) (λ _. done_at_most _ 0))

place_below : (modrm : ℕ) → IsAtMost (place modrm) 5
unfolding place
place_below modrm = either_at_most _ _ _ 5 (done_at_most _ 5) (either_at_most _ _ _ 5 (then_at_most _ _ 1 4 5 (omega arith) octet_at_most (λ _. based_below _ _ _ _)) (at_most_more _ 4 5 (omega arith) (based_below _ _ _ _)))

offset_alone_below : IsAtMost offset_alone 4
unfolding offset_alone
offset_alone_below = then_at_most _ _ 4 0 4 (omega arith) little_endian_4_at_most (λ _. done_at_most _ 0)

immediate_below : (kind : Immediate) (short : Bool) → IsAtMost (immediate kind short) 4
unfolding immediate
immediate_below immediates.Absent short = done_at_most 0 4
immediate_below immediates.One short = done_at_most 1 4
immediate_below immediates.Byte short = at_most_more _ 1 4 (omega arith) octet_at_most
immediate_below immediates.SignedByte short = signed_byte_below 4 (omega arith)
immediate_below immediates.Word short = at_most_more _ 2 4 (omega arith) little_endian_2_at_most
immediate_below immediates.OperandSize short = either_at_most _ _ _ 4 (at_most_more _ 2 4 (omega arith) little_endian_2_at_most) little_endian_4_at_most
immediate_below immediates.Doubleword short = little_endian_4_at_most

ending_below : (prefixes : Prefixes) (opcode : ℕ) (row : Row) (modrm : ℕ) (rm : Operand) → IsAtMost (ending prefixes opcode row modrm rm) 4
unfolding ending
ending_below prefixes opcode row modrm rm = then_at_most _ _ 4 0 4 (omega arith) (immediate_below row.form.immediate prefixes.operand_size) (λ _. done_at_most _ 0)

after_modrm_below : (prefixes : Prefixes) (opcode modrm : ℕ) (row : Option Row) → IsAtMost (after_modrm prefixes opcode modrm row) 9
after_modrm_below prefixes opcode modrm None = nothing_at_most 9
after_modrm_below prefixes opcode modrm (Some row) = then_at_most _ _ 5 4 9 (omega arith) (place_below modrm) (λ rm. ending_below prefixes opcode row modrm rm)

by_modrm_below : (prefixes : Prefixes) (opcode : ℕ) (row_at : ℕ → Option Row) → IsAtMost (by_modrm prefixes opcode row_at) 10
unfolding by_modrm
by_modrm_below prefixes opcode row_at = then_at_most _ _ 1 9 10 (omega arith) (byte_at_most _) (λ modrm. after_modrm_below prefixes opcode modrm (row_at modrm))

addressed_below : (prefixes : Prefixes) (opcode : ℕ) (row : Row) (kind : Addressing) → IsAtMost (addressed prefixes opcode row kind) 10
unfolding at_offset
addressed_below prefixes opcode row addressings.Absent = either_at_most _ _ _ 10 (at_most_more _ 4 10 (omega arith) (ending_below prefixes opcode row 0 operands.Absent)) (nothing_at_most 10)
addressed_below prefixes opcode row addressings.Offset = either_at_most _ _ _ 10 (then_at_most _ _ 4 4 10 (omega arith) offset_alone_below (λ rm. ending_below prefixes opcode row 0 rm)) (nothing_at_most 10)
addressed_below prefixes opcode row addressings.Any = by_modrm_below prefixes opcode (λ _. Some row)
addressed_below prefixes opcode row addressings.Memory = by_modrm_below prefixes opcode (λ _. Some row)

behind_opcode_below : (prefixes : Prefixes) (opcode : ℕ) (entry : Entry) → IsAtMost (behind_opcode prefixes opcode entry) 10
unfolding behind_opcode
behind_opcode_below prefixes opcode entries.Outside = nothing_at_most 10
behind_opcode_below prefixes opcode entries.Escape = nothing_at_most 10
behind_opcode_below prefixes opcode (entries.One row) = addressed_below prefixes opcode row row.form.addressing
behind_opcode_below prefixes opcode (entries.Group group) = by_modrm_below prefixes opcode (row_of group)

extended_below : (prefixes : Prefixes) → IsAtMost (extended prefixes) 11
unfolding extended
extended_below prefixes = branch_at_most _ _ 10 11 (omega arith) (λ b. behind_opcode_below prefixes b (second_of b))

after_first_below : (prefixes : Prefixes) (opcode : ℕ) (entry : Entry) → IsAtMost (after_first prefixes opcode entry) 11
after_first_below prefixes opcode entries.Escape = extended_below prefixes
after_first_below prefixes opcode entries.Outside = at_most_more _ 10 11 (omega arith) (behind_opcode_below prefixes opcode entries.Outside)
after_first_below prefixes opcode (entries.One row) = at_most_more _ 10 11 (omega arith) (behind_opcode_below prefixes opcode (entries.One row))
after_first_below prefixes opcode (entries.Group group) = at_most_more _ 10 11 (omega arith) (behind_opcode_below prefixes opcode (entries.Group group))

body_below : (prefixes : Prefixes) → IsAtMost (body prefixes) 12
unfolding body
body_below prefixes = branch_at_most _ _ 11 12 (omega arith) (λ b. after_first_below prefixes b (first_of b))

-- ---- how many prefixes can still come

abbrev free : Bool → ℕ
free true = 0
free false = 1

abbrev room : Prefixes → ℕ
room had = free had.operand_size + free had.lock + free (not (is_absent had.repeat))

room_with : (had : Prefixes) (b : ℕ) → Which b → has had b ≡ false → room (with_prefix had b) + 1 ≡ room had
unfolding has with_prefix
room_with had b (is_66 e) h = let p = rw e at h in rw (e, p, or-false had.lock, (merged_some had.repeat).2) (omega arith)
room_with had b (is_f0 e) h = let p = rw e at h in rw (e, p, or-false had.operand_size, (merged_some had.repeat).2) (omega arith)
room_with had b (is_f2 e) h = let p = rw e at h in rw (e, or-false had.operand_size, or-false had.lock, (merged_some had.repeat).0, p) (omega arith)
room_with had b (is_f3 e) h = let p = rw e at h in rw (e, or-false had.operand_size, or-false had.lock, (merged_some had.repeat).1, p) (omega arith)

behind_below : (had : Prefixes) (bytes : List ℕ) (v : Instr) → spells_behind had bytes v → length bytes ≤ room had + 12
behind_below had [] v h = absurd h
behind_below had (b ∷ bytes) v (inl h) = let a = behind_below (with_prefix had b) bytes v h.2 in let r = room_with had b (which b h.0) h.1 in omega arith
behind_below had (b ∷ bytes) v (inr h) = let a = (body_below had).bound (b ∷ bytes) v h.1 in omega arith

pub at_most_fifteen : IsAtMost instruction 15
at_most_fifteen = record { bound = λ bytes v h. behind_below none bytes v (behind_spelled bytes v h) }
