use Rattle.std.proofs.Common.{◌≡◌, ◌-◌, length}
use Rattle.pe_image.specs.Sections.{section_table}
use Rattle.pe_image.proofs.Fronts.{with_front}
use Rattle.pe_image.proofs.sections.section_table.Given as goal

abbrev pub invariant-loop : goal.invariant-loop
invariant-loop l = record {
  so_far : with_front l.headers.items (section_table l.bytes l.at (l.count - l.counter)) ≡ section_table l.bytes l.table l.count;
  many : length l.headers.items ≡ l.counter;
}
