use Rattle.std.proofs.Common.{◌≡◌, ◌+◌, length, List, map}
use Rattle.pe_image.specs.Gathering.{HasGained}
use Rattle.pe_image.specs.Image.{ImportParts}
use Rattle.pe_image.proofs.Fronts.{with_front}
use Rattle.pe_image.specs.Sections.{seen}
use Rattle.pe_image.specs.Imports.{imports_from}
use Rattle.pe_image.proofs.imports.add_imports.Given as goal

abbrev pub invariant-loop-name : goal.invariant-loop-name
invariant-loop-name l =
    (here : List ImportParts) × (with_front here (imports_from (map seen l.parts) l.dll l.thunk l.slot l.left) ≡ imports_from (map seen l.parts) l.dll l.descriptor.thunks l.descriptor.slots l.room) × (l.left + length here ≡ l.room) × HasGained l.fn.imports l.imports here

abbrev pub decreases-loop-name : goal.decreases-loop-name
decreases-loop-name l = l.left
