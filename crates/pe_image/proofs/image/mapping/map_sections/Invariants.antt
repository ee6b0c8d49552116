use Rattle.std.proofs.Common.{◌≡◌, ℕ, None, take, drop}
use Rattle.std.specs.FinMap as map
use Rattle.std.specs.Option.{option_or}
use Rattle.pe_image.specs.Image.{sections_refusal}
use Rattle.pe_image.specs.Contents.{filled_cell}
use Rattle.pe_image.proofs.image.mapping.map_sections.Given as goal

-- the sections so far are mapped, and the others still can be
abbrev pub invariant-loop-section : goal.invariant-loop-section
invariant-loop-section l = record {
  mapped : (a : ℕ) → map.get l.mem a ≡ option_or (map.get l.fn.mem a) (filled_cell l.base.0 l.contents (take l.section-index l.sections) a);
  free : sections_refusal (map.get l.mem) l.base.0 (drop l.section-index l.sections) ≡ None;
}
