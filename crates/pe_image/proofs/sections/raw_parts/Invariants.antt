use Rattle.std.proofs.Common.{◌≡◌, take, map}
use Rattle.pe_image.proofs.sections.raw_parts.Given as goal

abbrev pub invariant-loop-part : goal.invariant-loop-part
invariant-loop-part l = map (λ b. b.items) l.contents.items ≡ map (λ part. part.raw.now) (take l.part-index l.parts)
