use Rattle.std.proofs.Common.{◌≡◌, ◌++◌, take}
use Rattle.std.specs.List.{flat_map}
use Rattle.printed_lines.specs.ImageLines.{section_line}
use Rattle.printed_lines.proofs.image_text.push_sections.Given as goal

abbrev pub invariant-loop-section : goal.invariant-loop-section
invariant-loop-section l = l.text ≡ l.fn.text ++ flat_map section_line (take l.section-index l.sections)
