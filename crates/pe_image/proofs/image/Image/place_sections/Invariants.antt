use Rattle.std.proofs.Common.{◌≡◌, drop}
use Rattle.pe_image.specs.Inside.{parts_inside}
use Rattle.pe_image.specs.Contents.{with_sections}
use Rattle.pe_image.proofs.image.Image.place_sections.Given as goal

-- the sections that are left lead to the same bytes
abbrev pub invariant-loop-index : goal.invariant-loop-index
invariant-loop-index l = with_sections (drop l.index (parts_inside l.self-inside).sections) l.contents ≡ with_sections (parts_inside l.self-inside).sections l.fn.contents
