use Rattle.std.proofs.Common.{◌≡◌, ◌-◌, List, map}
use Rattle.pe_image.specs.Gathering.{IsGathered}
use Rattle.pe_image.specs.Image.{ImportParts}
use Rattle.pe_image.proofs.Fronts.{with_front}
use Rattle.pe_image.specs.Sections.{seen}
use Rattle.pe_image.specs.Imports.{descriptors_from, most_descriptors}
use Rattle.pe_image.proofs.imports.imports_behind.Given as goal

abbrev pub invariant-loop : goal.invariant-loop
invariant-loop l =
    (here : List ImportParts) × (with_front here (descriptors_from (map seen l.parts) l.rva (most_descriptors - l.counter) l.room) ≡ descriptors_from (map seen l.parts) l.table most_descriptors 4096) × IsGathered l.imports here
