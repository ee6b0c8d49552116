use Rattle.std.proofs.Common.{◌≡◌, ◌≤◌, ◌^◌, ◌-◌, drop}
use Rattle.nd_base.specs.Words.{digits_after, saturated}
use Rattle.nd_base.proofs.words.digits.Given as goal

abbrev pub invariant-loop-byte : goal.invariant-loop-byte
invariant-loop-byte l = record { small : l.value ≤ 2 ^ 64 - 1; so_far : saturated (digits_after l.value (drop l.byte-index l.word)) ≡ saturated (digits_after 0 l.word) }
