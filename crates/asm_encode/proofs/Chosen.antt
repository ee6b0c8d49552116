-- An operation has one template at most.
use Rattle.std.proofs.Common.{◌≡◌, ℕ, List, Option, Some, sym, ap, subst, ◌∙◌}
use Rattle.ia32_decode.specs.Encoding.{IsChosen, ChosenIsOne}
use Rattle.asm_encode.specs.Operations.{instruction_of}
use Rattle.asm_encode.specs.Templates.{word_of, open_offset, is_put_in, template_in, IsChosenTemplate}
use Rattle.asm_encode.specs.declared.operation.Operation.{Operation}
use Rattle.asm_encode.specs.declared.forms.Form.{Form}
use Rattle.asm_encode.specs.declared.templates.Term.{Term}
use Rattle.asm_encode.specs.declared.templates.Template.{Template}

number_is : (m n : ℕ) → ◌≡◌ {A = Option ℕ} (Some m) (Some n) → m ≡ n
number_is m n e = cc

pub template_one : ChosenIsOne → (o : Operation) (form : Form) (value offset : Term) (t other : Template) → IsChosenTemplate o form value offset t → IsChosenTemplate o form value offset other → t ≡ other
template_one law o form value offset t other p q =
    let v : p.v ≡ q.v = number_is p.v q.v (sym p.v_is ∙ q.v_is) in
    let offset_is : word_of offset (open_offset p.v) ≡ Some q.m = ap (λ k. word_of offset (open_offset k)) v ∙ q.m_is in
    let m : p.m ≡ q.m = number_is p.m q.m (sym p.m_is ∙ offset_is) in
    let chosen : IsChosen (instruction_of o form p.v p.m) q.bytes = subst (λ k. IsChosen (instruction_of o form k p.m) q.bytes) (sym v) (subst (λ k. IsChosen (instruction_of o form q.v k) q.bytes) (sym m) q.chosen) in
    let bytes : p.bytes ≡ q.bytes = law (instruction_of o form p.v p.m) p.bytes q.bytes p.chosen chosen in
    p.is ∙ ap (λ bytes. template_in value (is_put_in o offset) bytes (open_offset p.v)) bytes ∙ ap (λ k. template_in value (is_put_in o offset) q.bytes (open_offset k)) v ∙ sym q.is
