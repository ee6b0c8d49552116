use Rattle.std.proofs.Common.{◌≡◌, ℕ, ◌<◌, length, get_or}
use Rattle.calls_setup.specs.Digits.{clipped}
use Rattle.calls_setup.proofs.station_address.text_of.Given as goal

abbrev pub invariant-loop-k : goal.invariant-loop-k
invariant-loop-k l = record {
  count : length l.text ≡ 12;
  each : (j : ℕ) → j < l.k → get_or l.text j 0 ≡ clipped (get_or l.digits j 0);
}
