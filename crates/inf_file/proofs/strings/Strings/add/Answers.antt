use Rattle.std.proofs.Common.{ap, ◌∙◌}
use Rattle.std.proofs.lemmas.Result.{on_ok_weaker}
use Rattle.inf_file.specs.Keyed.{string_in, or_string}
use Rattle.inf_file.proofs.StringLaws.{with_string_none, with_string_some}
use Rattle.inf_file.proofs.strings.Strings.add.Goals as goal

pub returns-in-Some : goal.returns-in-Some
returns-in-Some c =
    on_ok_weaker c.add_string.result
    (λ is. is ∙ ap (or_string (string_in c.args.self.now) c.in-Some.key.now) c.value_at.ensures ∙ with_string_some (string_in c.args.self.now) c.args.line.now c.in-Some.key.now c.in-Some.ensures)
    c.add_string.ensures

pub returns-in-None : goal.returns-in-None
returns-in-None c = with_string_none (string_in c.args.self.now) c.args.line.now c.in-None.ensures
