use Rattle.std.proofs.Common.{◌≡◌, map, drop}
use Rattle.pe_image.specs.Sections.{seen}
use Rattle.pe_image.specs.Lookup.{has_word}
use Rattle.pe_image.proofs.lookup.has_word.Given as goal

abbrev pub invariant-loop-part : goal.invariant-loop-part
invariant-loop-part l = has_word (map seen (drop l.part-index l.parts)) l.rva ≡ has_word (map seen l.parts) l.rva
