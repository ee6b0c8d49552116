use Rattle.std.proofs.Common.{◌≡◌, ◌∙◌, arith, rules}
use Rattle.log_fields.proofs.Fronts.{name_at, name_all}
use Rattle.log_fields.proofs.fields.name.Goals as goal

pub returns-then-is_field_end : goal.returns-then-is_field_end
returns-then-is_field_end c =
    let i = name_at c.args.bytes.now c.loop-at.at c.loop-at.invariant.1 (omega arith) (search rules) in
    (c.split_at.ensures.front ∙ i.0, c.split_at.ensures.back ∙ i.1)

pub returns : goal.returns
returns c = name_all c.args.bytes.now (λ k q. c.loop-at.invariant.1 k (omega arith))
