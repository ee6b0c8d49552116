use Rattle.std.proofs.Common.{sym, ◌∙◌}
use Rattle.nd_base.proofs.Decimals.{is_found}
use Rattle.nd_base.proofs.words.decimal.Goals as goal

pub returns-clause-decimal : goal.returns-clause-decimal
returns-clause-decimal c = is_found c.digits.result c.args.word.now _ (sym c.may_be_decimal.ensures ∙ c.if-not-may_be_decimal.false) c.digits.ensures
