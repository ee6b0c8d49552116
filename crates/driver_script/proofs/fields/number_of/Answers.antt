use Rattle.std.proofs.Common.{◌≡◌, ◌∙◌, sym, ap, Bool, cond, Some, None, arith}
use Rattle.driver_script.proofs.Digits.{number_none, number_some}
use Rattle.driver_script.proofs.fields.number_of.Goals as goal

pub returns-in_err-value-clause-value : goal.returns-in_err-value-clause-value
returns-in_err-value-clause-value c = c.from_residual.ensures ∙ sym (number_none c.args.word.now c.args.least c.args.most c.in_err-value.ensures.decimal)

pub returns-then-not-is_within-clause-value : goal.returns-then-not-is_within-clause-value
returns-then-not-is_within-clause-value c =
    let d = c.in_ok-value.ensures.decimal in
    let off = sym c.if-not-is_within.ensures in
    sym (number_some c.args.word.now c.args.least c.args.most c.in_ok-value.value (omega arith) d.0 d.1 ∙ ap (λ (b : Bool). cond b (Some c.in_ok-value.value) None) off)

pub returns-clause-value : goal.returns-clause-value
returns-clause-value c =
    let d = c.in_ok-value.ensures.decimal in
    let on = sym c.if-not-is_within.ensures in
    sym (number_some c.args.word.now c.args.least c.args.most c.in_ok-value.value (omega arith) d.0 d.1 ∙ ap (λ (b : Bool). cond b (Some c.in_ok-value.value) None) on)
