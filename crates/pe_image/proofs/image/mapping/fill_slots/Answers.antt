use Rattle.std.proofs.Common.{◌+◌, drop, sym, ap, ◌∙◌, arith}
use Rattle.pe_image.specs.Contents.{with_addresses}
use Rattle.pe_image.proofs.Loops.{addresses_more, addresses_done}
use Rattle.pe_image.proofs.image.mapping.fill_slots.Goals as goal

pub loop-index-preserved : goal.loop-index-preserved
loop-index-preserved c =
    let i = c.loop-index.index in
    let imports = c.args.imports.now in
    let addresses = c.args.addresses.now in
    let rest = with_addresses (drop (i + 1) imports) (drop (i + 1) addresses) in
    ap rest c.put_word.ensures
    ∙ sym (addresses_more imports addresses i c.index-imports-index.result 0 c.loop-index.contents (omega (arith, c.requires.many)) (omega arith))
    ∙ c.loop-index.invariant

pub returns : goal.returns
returns c = sym (addresses_done c.args.imports.now c.args.addresses.now c.loop-index.index c.loop-index.contents (omega (arith, c.requires.many))) ∙ c.loop-index.invariant
