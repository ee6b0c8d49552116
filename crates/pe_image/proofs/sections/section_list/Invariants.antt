use Rattle.std.proofs.Common.{◌≡◌, take, map}
use Rattle.pe_image.proofs.sections.section_list.Given as goal

abbrev pub invariant-loop-part : goal.invariant-loop-part
invariant-loop-part l = l.sections.items ≡ map (λ part. part.section) (take l.part-index l.parts)
