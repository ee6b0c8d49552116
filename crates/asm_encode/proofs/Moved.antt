-- An operation's instruction with other numbers.
use Rattle.std.proofs.Common.{◌≡◌, ℕ, ◌<◌, ◌^◌, ◌⊎◌, inl, inr, Bool, true, false, ◌||◌, List, ◌++◌, length, Option, Some, None, refl, sym, ap, ◌∙◌, subst, ⊎_elim, arith}
use Rattle.std.specs.Int.{w32, to_le_bytes}
use Rattle.std.proofs.lemmas.Bool.{false≢true, or_cases, cases_Bool}
use Rattle.ia32_decode.specs.Decoding.{Spells}
use Rattle.ia32_decode.specs.declared.instruction.Instr.{Instr}
use Rattle.ia32_fields.specs.Fields.{IsWide, IsAtOffset, with_offset, at_offset, HasImmediate, HasOffset, WideImmediates, WideOffsets}
use Rattle.asm_encode.specs.Operations.{operand_of, is_in_memory, has_memory, instruction_of}
use Rattle.asm_encode.specs.declared.operation.Given.{Given}
use Rattle.asm_encode.specs.declared.operation.Given.TheVariants as given
use Rattle.asm_encode.specs.declared.operation.Operation.{Operation}
use Rattle.asm_encode.specs.declared.forms.Form.{Form}

operand_moved : (g : Given) (m n : ℕ) → with_offset n (operand_of g m) ≡ operand_of g n
operand_moved given.Absent m n = refl
operand_moved (given.Register r) m n = refl
operand_moved given.Value m n = refl
operand_moved (given.Memory width base None) m n = refl
operand_moved (given.Memory width base (Some index)) m n = refl

pub moved : (o : Operation) (form : Form) (v m n : ℕ) → at_offset n (instruction_of o form v m) ≡ instruction_of o form v n
unfolding instruction_of
moved o form v m n = λ i. record {
  op = form.op;
  width = form.width;
  first = operand_moved o.first m n i;
  second = operand_moved o.second m n i;
  imm = v;
  repeat = o.prefix.repeat;
  lock = o.prefix.lock;
}

pub imm_is : (o : Operation) (form : Form) (v m : ℕ) → (instruction_of o form v m).imm ≡ v
unfolding instruction_of
imm_is o form v m = refl

abbrev pub valued : Instr → ℕ → Instr
valued i n = record i { imm = n }

pub valued_is : (o : Operation) (form : Form) (v m n : ℕ) → valued (instruction_of o form v m) n ≡ instruction_of o form n m
unfolding instruction_of
valued_is o form v m n = refl

operand_at : (g : Given) (m : ℕ) → is_in_memory g ≡ true → IsAtOffset (operand_of g m) m
operand_at given.Absent m h = absurd (false≢true h)
operand_at (given.Register r) m h = absurd (false≢true h)
operand_at given.Value m h = absurd (false≢true h)
operand_at (given.Memory width base None) m h = refl
operand_at (given.Memory width base (Some index)) m h = refl

pub memory_at : (o : Operation) (form : Form) (v m : ℕ) → has_memory o ≡ true → IsAtOffset (instruction_of o form v m).first m ⊎ IsAtOffset (instruction_of o form v m).second m
unfolding instruction_of
memory_at o form v m h = ⊎_elim (λ s. inl (operand_at o.first m s)) (λ s. inr (operand_at o.second m s)) (or_cases (is_in_memory o.first) (is_in_memory o.second) h)

operand_same : (g : Given) (m n : ℕ) → is_in_memory g ≡ false → operand_of g m ≡ operand_of g n
operand_same given.Absent m n h = refl
operand_same (given.Register r) m n h = refl
operand_same given.Value m n h = refl
operand_same (given.Memory width base index) m n h = absurd (false≢true (sym h))

neither : (a b : Bool) → (a || b) ≡ false → (a ≡ false) × (b ≡ false)
neither true b h = absurd (false≢true (sym h))
neither false b h = (refl, h)

-- without memory the offset is nothing to it
pub same : (o : Operation) (form : Form) (v m n : ℕ) → has_memory o ≡ false → instruction_of o form v m ≡ instruction_of o form v n
unfolding instruction_of
same o form v m n h =
    let none = neither (is_in_memory o.first) (is_in_memory o.second) h in
    λ i. record {
      op = form.op;
      width = form.width;
      first = operand_same o.first m n none.0 i;
      second = operand_same o.second m n none.1 i;
      imm = v;
      repeat = o.prefix.repeat;
      lock = o.prefix.lock;
    }

-- ---- other numbers where there are fields of four bytes

pub with_other_offset : WideOffsets → (o : Operation) (form : Form) (v m n : ℕ) (bytes : List ℕ) → Spells bytes (instruction_of o form v m) → IsWide m → n < 2 ^ 32 → (other : List ℕ) × Spells other (instruction_of o form v n)
with_other_offset law o form v m n bytes h wide low = elim (cases_Bool (has_memory o)) [
  | inl e ↦
      let f = law bytes (instruction_of o form v m) m h (memory_at o form v m e) wide in
      (f.front ++ (to_le_bytes w32 n ++ f.back), subst (λ i. Spells (f.front ++ (to_le_bytes w32 n ++ f.back)) i) (moved o form v m n) (f.each n low))
  | inr e ↦ (bytes, subst (λ i. Spells bytes i) (same o form v m n e) h)
]

pub with_other_value : WideImmediates → (o : Operation) (form : Form) (v m n : ℕ) (bytes : List ℕ) → Spells bytes (instruction_of o form v m) → IsWide v → n < 2 ^ 32 → (other : List ℕ) × Spells other (instruction_of o form n m)
with_other_value law o form v m n bytes h wide low =
    let f = law bytes (instruction_of o form v m) h (subst IsWide (sym (imm_is o form v m)) wide) in
    (f.front ++ to_le_bytes w32 n, subst (λ i. Spells (f.front ++ to_le_bytes w32 n) i) (valued_is o form v m n) (f.each n low))
