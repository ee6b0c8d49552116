use Rattle.std.proofs.Common.{arith, get_or, sym, ◌∙◌}
use Rattle.pe_image.proofs.Relocating.{no_part, low_at, word_low}
use Rattle.pe_image.proofs.lookup.has_word.Goals as goal

pub returns-then-holds_word-clause-low : goal.returns-then-holds_word-clause-low
returns-then-holds_word-clause-low c = λ all _.
    word_low (get_or c.args.parts.now c.loop-part.part-index no_part) c.args.rva (sym c.holds_word.ensures ∙ c.if-holds_word.true) (low_at c.args.parts.now c.loop-part.part-index no_part all (omega arith))
