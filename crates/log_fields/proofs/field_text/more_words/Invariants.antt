use Rattle.std.proofs.Common.{◌≡◌, ◌++◌, drop, map}
use Rattle.log_fields.specs.Codes.{word, more_text}
use Rattle.log_fields.proofs.field_text.more_words.Given as goal

abbrev pub invariant-loop-word : goal.invariant-loop-word
invariant-loop-word l = l.out ++ more_text word (drop l.word-index l.words) ≡ l.fn.out ++ more_text word l.words
