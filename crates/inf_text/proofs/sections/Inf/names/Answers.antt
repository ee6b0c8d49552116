use Rattle.std.proofs.Common.{◌≡◌, ℕ, List, [], ◌∷◌, map, refl, ap, ◌∙◌}
use Rattle.std.specs.Map.{keys_of}
use Rattle.inf_text.specs.Sections.{Section}
use Rattle.inf_text.specs.Entries.{sections_in}
use Rattle.inf_text.proofs.SectionLaws.{Entries}
use Rattle.inf_text.proofs.sections.Inf.names.Goals as goal

names_in : (es : Entries) → keys_of es ≡ map (λ (s : Section). s.name) (sections_in es)
names_in [] = refl
names_in (e ∷ es) = ap (λ (ns : List (List ℕ)). e.0 ∷ ns) (names_in es)

pub returns-clause-rest : goal.returns-clause-rest
returns-clause-rest c = c.keys.ensures.rest ∙ names_in c.self.inside.sections.entries ∙ ap (λ (ss : List Section). map (λ s. s.name) ss) c.self.view_is
