use Rattle.std.proofs.Common.{◌∙◌, ap, sym}
use Rattle.std.specs.FinMap as space
use Rattle.std.specs.Option.{option_or}
use Rattle.pe_image.specs.Image.{sections_refusal, map_refusal, sections_of}
use Rattle.pe_image.specs.Inside.{parts_inside}
use Rattle.pe_image.proofs.Parts.{sections_are}
use Rattle.pe_image.proofs.image.Image.map_refusal.Goals as goal

pub returns-in-None : goal.returns-in-None
returns-in-None c =
    let cells = space.get c.args.mem.now in
    let base = c.args.base.0 in
    let sections = sections_refusal cells base (sections_of (parts_inside c.self.inside)) in
    c.sections_refusal.ensures
    ∙ ap (sections_refusal cells base) (c.as_slice.ensures.value ∙ sym (sections_are c.self.inside c.self.invariant))
    ∙ ap (λ headers. option_or headers sections) c.in-None.ensures
    ∙ ap (map_refusal cells base) c.self.view_is
