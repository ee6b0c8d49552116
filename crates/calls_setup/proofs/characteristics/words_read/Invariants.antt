use Rattle.std.proofs.Common.{◌≡◌, ℕ, ◌+◌, ◌*◌, ◌<◌, length, slice_index, if◌then◌else◌, nat_lt}
use Rattle.import_answers.specs.Outcomes.{word_of}
use Rattle.calls_setup.proofs.characteristics.words_read.Given as goal

abbrev pub invariant-loop-k : goal.invariant-loop-k
invariant-loop-k l = record {
  count : length l.words ≡ 27;
  each : (j : ℕ) → j < 27 → slice_index l.words j ≡ (if nat_lt j l.k then word_of l.world (l.at + 4 * j) else 0);
}
