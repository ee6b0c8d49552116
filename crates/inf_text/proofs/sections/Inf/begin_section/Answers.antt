use Rattle.std.proofs.Common.{ap, ◌∙◌, sym}
use Rattle.inf_text.specs.Sections.{place_of, with_section}
use Rattle.inf_text.specs.Entries.{sections_in}
use Rattle.inf_text.proofs.SectionLaws.{Entries, place-sections, section-old, section-new}
use Rattle.inf_text.proofs.sections.Inf.begin_section.Goals as goal

pub returns-in-Some-clause-place : goal.returns-in-Some-clause-place
returns-in-Some-clause-place c =
    (section-old c.args.name c.self.inside.sections.entries c.in-Some.place (sym c.get_index_of.ensures.index ∙ c.in-Some.is)).0 ∙ ap (place_of c.args.name) c.self.view_is

pub returns-in-Some-clause-ok : goal.returns-in-Some-clause-ok
returns-in-Some-clause-ok c =
    sym c.self.view_is ∙ (section-old c.args.name c.self.inside.sections.entries c.in-Some.place (sym c.get_index_of.ensures.index ∙ c.in-Some.is)).2 ∙ ap (with_section c.args.name) c.self.view_is

pub returns-clause-place : goal.returns-clause-place
returns-clause-place c = c.in_ok-place.ensures.index ∙ place-sections c.args.name c.self.inside.sections.entries ∙ ap (place_of c.args.name) c.self.view_is

pub returns-clause-ok : goal.returns-clause-ok
returns-clause-ok c =
    ap (λ (es : Entries). sections_in es) c.in_ok-place.ensures.entries
    ∙ section-new c.args.name c.self.inside.sections.entries c.new.result (sym c.get_index_of.ensures.index ∙ c.in_default.is) c.new.ensures.items ∙ ap (with_section c.args.name) c.self.view_is
