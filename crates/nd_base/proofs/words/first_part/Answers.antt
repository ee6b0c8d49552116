use Rattle.std.proofs.Common.{length, arith, sym, ◌+◌}
use Rattle.std.proofs.lemmas.Slice.{between_to_end}
use Rattle.nd_base.proofs.LinesAndWords.{word_some, word_none}
use Rattle.nd_base.proofs.words.first_part.Goals as goal

pub returns-in-Some-clause-words : goal.returns-in-Some-clause-words
returns-in-Some-clause-words c = word_some c.args.bytes.now _ c.in-Some.end (sym c.in-Some.ensures) (between_to_end c.args.bytes.now (c.in-Some.end + 1) (length c.args.bytes.now) (omega arith))

pub returns-in-None-clause-words : goal.returns-in-None-clause-words
returns-in-None-clause-words c = word_none c.args.bytes.now (sym c.in-None.ensures)
