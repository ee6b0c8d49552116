use Rattle.std.proofs.Common.{◌≡◌, ◌++◌, drop, map}
use Rattle.printed_lines.specs.ImageLines.{name_byte, up_to_zero}
use Rattle.printed_lines.proofs.image_text.visible_name.Given as goal

abbrev pub invariant-loop-byte : goal.invariant-loop-byte
invariant-loop-byte l = map name_byte (up_to_zero l.name) ≡ l.text ++ map name_byte (up_to_zero (drop l.byte-index l.name))
