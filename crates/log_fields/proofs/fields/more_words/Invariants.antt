use Rattle.std.proofs.Common.{◌≡◌, ◌-◌, length, map}
use Rattle.log_fields.specs.Codes.{read_more, word, with_front}
use Rattle.log_fields.proofs.fields.more_words.Given as goal

abbrev pub invariant-loop : goal.invariant-loop
invariant-loop l = with_front (l.words) (read_more word (length l.bytes - l.counter) l.rest) ≡ with_front (l.fn.words) (read_more word (length l.bytes) l.bytes)
