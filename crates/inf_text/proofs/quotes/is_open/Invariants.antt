use Rattle.std.proofs.Common.{◌≡◌, fold, take}
use Rattle.inf_text.specs.Quotes.{turned}
use Rattle.inf_text.proofs.quotes.is_open.Given as goal

abbrev pub invariant-loop-c : goal.invariant-loop-c
invariant-loop-c l = l.inside ≡ fold turned l.fn.inside (take l.c-index l.chars)
