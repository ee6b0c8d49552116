use Rattle.std.proofs.Common.{◌≡◌, ◌-◌, length, map}
use Rattle.pe_image.specs.declared.refusal.PeRefusal.TheVariants.{BadImport}
use Rattle.pe_image.proofs.Fronts.{with_front}
use Rattle.pe_image.specs.Sections.{seen}
use Rattle.pe_image.specs.Imports.{text_from}
use Rattle.pe_image.proofs.imports.text.Given as goal

abbrev pub invariant-loop : goal.invariant-loop
invariant-loop l = record {
  so_far : with_front l.text.items (text_from (map seen l.parts) (BadImport l.rva) l.at (256 - l.counter)) ≡ text_from (map seen l.parts) (BadImport l.rva) l.rva 256;
  many : length l.text.items ≡ l.counter;
}
