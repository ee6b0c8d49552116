use Rattle.std.proofs.Common.{◌≡◌, map, drop}
use Rattle.pe_image.specs.Sections.{seen}
use Rattle.pe_image.specs.Lookup.{section_with}
use Rattle.pe_image.proofs.lookup.section_with.Given as goal

abbrev pub invariant-loop-part : goal.invariant-loop-part
invariant-loop-part l = section_with (map seen (drop l.part-index l.parts)) l.rva ≡ section_with (map seen l.parts) l.rva
