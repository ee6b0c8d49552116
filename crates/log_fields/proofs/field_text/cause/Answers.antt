use Rattle.std.proofs.Common.{◌≡◌, ◌++◌, ◌∷◌, sym, subst, OnOk, rules}
use Rattle.log_fields.specs.Names.{cause_name}
use Rattle.log_fields.specs.Fields.{cause, cause_of}
use Rattle.log_fields.specs.declared.field_values.Cause.{Cause}
use Rattle.log_fields.proofs.field_text.cause.Goals as goal

pub returns-in-Budget : goal.returns-in-Budget
unfolding cause_name
returns-in-Budget c = subst (λ (w : Cause). OnOk c.name.result (c.name.new.out ≡ c.args.out.now ++ 32 ∷ cause.text (cause_of w))) (sym c.in-Budget.is) (search rules)

pub returns-in-Memory : goal.returns-in-Memory
unfolding cause_name
returns-in-Memory c = subst (λ (w : Cause). OnOk c.name-in-Memory.result (c.name-in-Memory.new.out ≡ c.args.out.now ++ 32 ∷ cause.text (cause_of w))) (sym c.in-Memory.is) (search rules)

pub returns-in-Breach : goal.returns-in-Breach
returns-in-Breach c = subst (λ (w : Cause). OnOk c.breach.result (c.breach.new.out ≡ c.args.out.now ++ 32 ∷ cause.text (cause_of w))) (sym c.in-Breach.is) (search rules)
