use Rattle.std.proofs.Common.{◌≡◌, ◌++◌, take}
use Rattle.call_parts.specs.Answered.{words_written}
use Rattle.call_parts.proofs.word_answers.put_words.Given as goal

abbrev pub invariant-loop-at : goal.invariant-loop-at
invariant-loop-at l = l.list ≡ l.initial.list ++ words_written (take l.at-index l.words)
