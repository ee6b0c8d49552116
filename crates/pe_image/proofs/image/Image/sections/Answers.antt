use Rattle.std.proofs.Common.{◌∙◌, ap, sym}
use Rattle.pe_image.specs.Image.{sections_of}
use Rattle.pe_image.proofs.Parts.{sections_are}
use Rattle.pe_image.proofs.image.Image.sections.Goals as goal

pub returns : goal.returns
returns c = c.as_slice.ensures.value ∙ sym (sections_are c.self.inside c.self.invariant) ∙ ap sections_of c.self.view_is
