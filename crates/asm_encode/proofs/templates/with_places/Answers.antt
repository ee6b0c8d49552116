use Rattle.std.proofs.Common.{sym, subst, ◌∙◌, List, ℕ, length, ◌≡◌}
use Rattle.asm_encode.specs.Templates.{IsPlaced}
use Rattle.asm_encode.proofs.Places.{IsSpelled, both_at, value_at, offset_at, fixed_at}
use Rattle.asm_encode.proofs.templates.with_places.Goals as goal

pub returns-in-Open-clause-template : goal.returns-in-Open-clause-template
returns-in-Open-clause-template c =
    let h : IsSpelled c.args.operation c.args.form c.args.value c.args.offset c.args.bytes c.args.filler = record { known = c.requires.filler; other = c.requires.other; spelled = c.requires.spelled; has_value = c.requires.value; has_offset = c.requires.offset } in
    both_at c.wide_immediates.ensures c.wide_offsets.ensures c.args.operation c.args.form c.args.value c.args.offset c.args.bytes c.args.filler c.in-Open.is (sym c.is_put_in.ensures ∙ c.if-is_put_in.true) h

pub returns-in-Known-clause-template : goal.returns-in-Known-clause-template
returns-in-Known-clause-template c =
    let h : IsSpelled c.args.operation c.args.form c.args.value c.args.offset c.args.bytes c.args.filler = record { known = c.requires.filler; other = c.requires.other; spelled = c.requires.spelled; has_value = c.requires.value; has_offset = c.requires.offset } in
    offset_at c.wide_immediates.ensures c.wide_offsets.ensures c.args.operation c.args.form c.args.value c.args.offset c.in-Known.field-0 c.args.bytes c.args.filler c.behind_offset-behind.result c.in-Known.is
    (sym c.is_put_in.ensures ∙ c.if-is_put_in.true) h
    (subst (λ (bytes : List ℕ). (front back : List ℕ) (imm : ℕ) → IsPlaced bytes c.args.filler imm front back → c.behind_offset-behind.result ≡ length back) c.as_slice.ensures c.behind_offset-behind.ensures.found)

pub returns-in-Open-value-clause-template : goal.returns-in-Open-value-clause-template
returns-in-Open-value-clause-template c =
    let h : IsSpelled c.args.operation c.args.form c.args.value c.args.offset c.args.bytes c.args.filler = record { known = c.requires.filler; other = c.requires.other; spelled = c.requires.spelled; has_value = c.requires.value; has_offset = c.requires.offset } in
    value_at c.wide_immediates.ensures c.wide_offsets.ensures c.args.operation c.args.form c.args.value c.args.offset c.args.bytes c.args.filler c.in-Open-value.is (sym c.is_put_in.ensures ∙ c.if-is_put_in.false) h

pub returns-in-Known-value-clause-template : goal.returns-in-Known-value-clause-template
returns-in-Known-value-clause-template c =
    let h : IsSpelled c.args.operation c.args.form c.args.value c.args.offset c.args.bytes c.args.filler = record { known = c.requires.filler; other = c.requires.other; spelled = c.requires.spelled; has_value = c.requires.value; has_offset = c.requires.offset } in
    fixed_at c.wide_immediates.ensures c.wide_offsets.ensures c.args.operation c.args.form c.args.value c.args.offset c.in-Known-value.field-0 c.args.bytes c.args.filler c.in-Known-value.is (sym c.is_put_in.ensures ∙ c.if-is_put_in.false) h
