use Rattle.std.proofs.Common.{◌≡◌, drop}
use Rattle.pe_image.specs.Contents.{with_relocations}
use Rattle.pe_image.proofs.image.mapping.relocate.Given as goal

-- the words that are left lead to the same bytes
abbrev pub invariant-loop-rva : goal.invariant-loop-rva
invariant-loop-rva l = with_relocations l.difference (drop l.rva-index l.rvas) l.contents ≡ with_relocations l.difference l.rvas l.fn.contents
