use Rattle.std.proofs.Common.{◌≡◌, ◌++◌, take}
use Rattle.std.specs.List.{flat_map}
use Rattle.printed_lines.specs.ImageLines.{import_line}
use Rattle.printed_lines.proofs.image_text.push_imports.Given as goal

abbrev pub invariant-loop-import : goal.invariant-loop-import
invariant-loop-import l = l.text ≡ l.fn.text ++ flat_map import_line (take l.import-index l.imports)
