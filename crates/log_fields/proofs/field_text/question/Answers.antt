use Rattle.std.proofs.Common.{◌≡◌, ◌++◌, ◌∷◌, sym, subst, OnOk, rules}
use Rattle.log_fields.specs.Fields.{question, question_of}
use Rattle.log_fields.specs.declared.field_values.Question.{Question}
use Rattle.log_fields.proofs.field_text.question.Goals as goal

pub returns-in-Query : goal.returns-in-Query
returns-in-Query c = subst (λ (q : Question). OnOk c.query.result (c.query.new.out ≡ c.args.out.now ++ 32 ∷ question.text (question_of q))) (sym c.in-Query.is) (search rules)

pub returns-in-Set : goal.returns-in-Set
returns-in-Set c = subst (λ (q : Question). OnOk c.set.result (c.set.new.out ≡ c.args.out.now ++ 32 ∷ question.text (question_of q))) (sym c.in-Set.is) (search rules)
