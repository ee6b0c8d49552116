use Rattle.std.proofs.Common.{◌≡◌, ◌++◌, false, drop}
use Rattle.inf_text.specs.Quotes.{resolved_behind}
use Rattle.inf_text.proofs.quotes.resolved.Given as goal

abbrev pub invariant-loop-c : goal.invariant-loop-c
invariant-loop-c l = l.text ++ resolved_behind l.before l.inside (drop l.c-index l.chars) ≡ resolved_behind 0 false l.chars
