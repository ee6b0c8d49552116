use Rattle.std.proofs.Common.{◌≡◌, ◌++◌, take}
use Rattle.std.specs.List.{flat_map}
use Rattle.printed_lines.specs.ImageLines.{relocation_line}
use Rattle.printed_lines.proofs.image_text.push_relocations.Given as goal

abbrev pub invariant-loop-rva : goal.invariant-loop-rva
invariant-loop-rva l = l.text ≡ l.fn.text ++ flat_map relocation_line (take l.rva-index l.rvas)
