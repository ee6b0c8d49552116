use Rattle.std.proofs.Common.{ap, ◌∙◌}
use Rattle.inf_text.specs.Sections.{with_line}
use Rattle.inf_text.proofs.SectionLaws.{line-set}
use Rattle.inf_text.proofs.sections.Inf.add_line.Goals as goal

pub returns : goal.returns
returns c =
    line-set c.self.inside.sections.entries c.args.place c.args.line c.index_mut.result.now c.push.new.self c.index_mut.ensures.value c.in_ok-push.ensures.items
    ∙ ap (with_line c.args.place c.args.line) c.self.view_is
