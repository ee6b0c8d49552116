use Rattle.std.proofs.Common.{◌+◌, drop, sym, ap, ◌∙◌, arith}
use Rattle.pe_image.specs.Contents.{with_relocations}
use Rattle.pe_image.proofs.Loops.{relocations_more, relocations_done}
use Rattle.pe_image.proofs.image.mapping.relocate.Goals as goal

pub loop-rva-preserved : goal.loop-rva-preserved
loop-rva-preserved c =
    let i = c.loop-rva.rva-index in
    ap (with_relocations c.args.difference (drop (i + 1) c.args.rvas.now)) c.move_word.ensures
    ∙ sym (relocations_more c.args.difference c.args.rvas.now i 0 c.loop-rva.contents (omega arith))
    ∙ c.loop-rva.invariant

pub returns : goal.returns
returns c = sym (relocations_done c.args.difference c.args.rvas.now c.loop-rva.rva-index c.loop-rva.contents (omega arith)) ∙ c.loop-rva.invariant
