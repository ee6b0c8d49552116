use Rattle.std.proofs.Common.{◌≡◌, take, map, length}
use Rattle.pe_image.specs.Sections.{section_part, seen}
use Rattle.pe_image.proofs.sections.parts.Given as goal

abbrev pub invariant-loop-header : goal.invariant-loop-header
invariant-loop-header l = record {
  so_far : map seen l.parts.items ≡ map (section_part l.bytes) (take l.header-index l.headers);
  many : length l.parts.items ≡ l.header-index;
}
