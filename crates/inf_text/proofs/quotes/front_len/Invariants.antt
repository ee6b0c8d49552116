use Rattle.std.proofs.Common.{◌≡◌, ◌+◌, drop}
use Rattle.inf_text.specs.Quotes.{front_len}
use Rattle.inf_text.proofs.quotes.front_len.Given as goal

abbrev pub invariant-loop-i : goal.invariant-loop-i
invariant-loop-i l = l.i + front_len l.mark l.inside (drop l.i l.chars) ≡ front_len l.mark l.fn.inside l.chars
