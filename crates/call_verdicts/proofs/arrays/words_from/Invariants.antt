use Rattle.std.proofs.Common.{◌≡◌, ◌+◌, ◌-◌, ◌*◌, ◌++◌, length}
use Rattle.legal_run.specs.Calls.{words_from}
use Rattle.call_verdicts.proofs.arrays.words_from.Given as goal

-- those so far, and those that are still to come
abbrev pub invariant-loop-k : goal.invariant-loop-k
invariant-loop-k g l = record {
  count : length l.words.items ≡ l.k;
  words : l.words.items ++ words_from g.s (l.array + 4 * l.k) (l.n - l.k) ≡ words_from g.s l.array l.n;
}
