use Rattle.std.proofs.Common.{inl, refl, sym, subst, ◌∙◌, ℕ}
use Rattle.std.proofs.lemmas.Bool.{false≢true}
use Rattle.ia32_decode.specs.Decoding.{Spells}
use Rattle.ia32_decode.specs.declared.instruction.Instr.{Instr}
use Rattle.asm_encode.specs.Templates.{IsZeroFault}
use Rattle.asm_encode.proofs.Places.{wide_open, wide_value}
use Rattle.asm_encode.proofs.Faults.{great_value, great_offset, no_bytes}
use Rattle.asm_encode.proofs.templates.template_of.Goals as goal

pub returns-in_default-clause-err : goal.returns-in_default-clause-err
returns-in_default-clause-err c =
    great_value c.wide_immediates.ensures c.wide_offsets.ensures c.args.operation c.args.form c.args.value c.args.offset 0x44332211 0x40302010 c.zero_fault.result (wide_open 0x40302010 (inl refl))
    (sym c.word_of.ensures ∙ c.in_default.is)
    (subst (λ (n : ℕ). IsZeroFault c.args.operation c.args.form n c.zero_fault.result) c.low_of.ensures c.zero_fault.ensures)

pub returns-in_default-word_of-clause-err : goal.returns-in_default-word_of-clause-err
returns-in_default-word_of-clause-err c =
    great_offset c.wide_immediates.ensures c.wide_offsets.ensures c.args.operation c.args.form c.args.value c.args.offset c.open_offset-filler.result c.zero_fault-in_default-word_of.result
    (wide_open c.open_offset-filler.result c.open_offset-filler.ensures.known) (sym c.word_of-2.ensures ∙ c.in_default-word_of.is)
    (subst (λ (n : ℕ). IsZeroFault c.args.operation c.args.form n c.zero_fault-in_default-word_of.result) c.low_of-in_default-word_of.ensures c.zero_fault-in_default-word_of.ensures)

pub returns-in-None-clause-err : goal.returns-in-None-clause-err
returns-in-None-clause-err c =
    no_bytes c.wide_immediates.ensures c.wide_offsets.ensures c.args.operation c.args.form c.args.value c.args.offset 0x44332211 c.open_offset-filler.result c.in-Some.value_word c.in-Some-word_of.offset_word c.zero_fault-in-None.result
    wide_value (wide_open c.open_offset-filler.result c.open_offset-filler.ensures.known) (sym c.word_of.ensures ∙ c.in-Some.is) (sym c.word_of-2.ensures ∙ c.in-Some-word_of.is)
    (λ bytes h. false≢true (c.in-None.ensures.none bytes (subst (λ (i : Instr). Spells bytes i) (sym c.instruction_of.ensures) h)))
    (subst (λ (n : ℕ). IsZeroFault c.args.operation c.args.form n c.zero_fault-in-None.result) c.low_of-in-None.ensures c.zero_fault-in-None.ensures)
