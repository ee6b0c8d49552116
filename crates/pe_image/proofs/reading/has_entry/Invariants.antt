use Rattle.std.proofs.Common.{◌≡◌, map, drop}
use Rattle.pe_image.specs.Sections.{seen}
use Rattle.pe_image.specs.Reading.{has_entry}
use Rattle.pe_image.proofs.reading.has_entry.Given as goal

abbrev pub invariant-loop-part : goal.invariant-loop-part
invariant-loop-part l = has_entry (map seen (drop l.part-index l.parts)) l.entry ≡ has_entry (map seen l.parts) l.entry
