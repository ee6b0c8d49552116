use Rattle.std.proofs.Common.{List, ap, ◌∙◌}
use Rattle.inf_text.specs.Sections.{Section, place_named}
use Rattle.inf_text.proofs.SectionLaws.{position-sections}
use Rattle.inf_text.proofs.sections.Inf.place.Goals as goal

pub returns : goal.returns
returns c = c.get_index_of.ensures.index ∙ position-sections c.args.name.now c.self.inside.sections.entries ∙ ap (λ (ss : List Section). place_named c.args.name.now ss) c.self.view_is
