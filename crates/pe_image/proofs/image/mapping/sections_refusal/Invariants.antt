use Rattle.std.proofs.Common.{◌≡◌, drop}
use Rattle.std.specs.FinMap as map
use Rattle.pe_image.specs.Image.{sections_refusal}
use Rattle.pe_image.proofs.image.mapping.sections_refusal.Given as goal

abbrev pub invariant-loop-section : goal.invariant-loop-section
invariant-loop-section l = sections_refusal (map.get l.mem) l.base.0 (drop l.section-index l.sections) ≡ sections_refusal (map.get l.mem) l.base.0 l.sections
