use Rattle.std.proofs.Common.{◌≡◌, ◌+◌, ◌-◌, ◌*◌, ℕ, List, map}
use Rattle.pe_image.specs.Gathering.{HasGained}
use Rattle.pe_image.proofs.Fronts.{with_front}
use Rattle.pe_image.specs.Sections.{seen}
use Rattle.pe_image.specs.Relocations.{entries_from}
use Rattle.pe_image.proofs.relocations.add_entries.Given as goal

abbrev pub invariant-loop : goal.invariant-loop
invariant-loop l = record {
  so_far : (here : List ℕ) × (with_front here (entries_from (map seen l.parts) (seen l.table) l.page l.at (l.count - l.counter)) ≡ entries_from (map seen l.parts) (seen l.table) l.page l.rva l.count) × HasGained l.fn.words l.words here;
  place : l.at ≡ l.rva + 2 * l.counter;
}
