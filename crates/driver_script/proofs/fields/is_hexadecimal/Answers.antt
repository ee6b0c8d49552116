use Rattle.std.proofs.Common.{◌∙◌}
use Rattle.driver_script.proofs.Digits.{even_digits}
use Rattle.driver_script.proofs.fields.is_hexadecimal.Goals as goal

pub returns-then-word-eq0 : goal.returns-then-word-eq0
returns-then-word-eq0 c = c.are_digits.ensures ∙ even_digits c.args.word.now c.if-word-eq0.true
