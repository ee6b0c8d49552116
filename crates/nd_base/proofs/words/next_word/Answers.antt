use Rattle.std.proofs.Common.{sym, ◌∙◌}
use Rattle.nd_base.proofs.LinesAndWords.{no_words_left}
use Rattle.nd_base.proofs.words.next_word.Goals as goal

pub returns : goal.returns
returns c = sym c.loop-rest.invariant ∙ no_words_left c.loop-rest.rest.now c.loop-rest-test.ensures
