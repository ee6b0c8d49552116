use Rattle.std.proofs.Common.{IsTrue}
use Rattle.image_forge.proofs.Judging.{text_there}
use Rattle.image_forge.proofs.judged.has_text.Goals as goal

pub returns : goal.returns
returns c =
    let yes : IsTrue c.is_whole.result = c.if-not-is_whole.false in
    let whole = c.is_whole.ensures yes in
    λ on. text_there c.args.file.now c.args.text.now c.args.image.now c.in-Some.section.now c.requires c.in-Some.ensures whole.0 whole.1 (c.has_raw_text.ensures on)
