use Rattle.std.proofs.Common.{◌≡◌, ◌≤◌, ℕ, List, ◌+◌, ◌-◌, map}
use Rattle.pe_image.specs.Gathering.{IsGathered}
use Rattle.pe_image.proofs.Fronts.{with_front}
use Rattle.pe_image.specs.Sections.{seen}
use Rattle.pe_image.specs.Relocations.{blocks_from}
use Rattle.pe_image.proofs.relocations.relocated_words.Given as goal

abbrev pub invariant-loop-words : goal.invariant-loop-words
invariant-loop-words l = record {
  so_far : (n : ℕ) × (l.end ≤ l.at + n) × (here : List ℕ) × (with_front here (blocks_from (map seen l.parts) (seen l.table) l.end l.at n) ≡ blocks_from (map seen l.parts) (seen l.table) (l.rva + l.size) l.rva l.size) × IsGathered l.words here;
  from : l.rva ≤ l.at;
  to : l.at ≤ l.end;
}

abbrev pub decreases-loop-words : goal.decreases-loop-words
decreases-loop-words l = l.end - l.at
