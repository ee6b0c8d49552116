use Rattle.std.proofs.Common.{◌≡◌, ℕ, ◌<◌, get_or}
use Rattle.inf_text.specs.Names.{without_case}
use Rattle.inf_text.proofs.name.is_word.Given as goal

abbrev pub invariant-loop-i : goal.invariant-loop-i
invariant-loop-i l = (k : ℕ) → k < l.i → without_case (get_or l.word k 0) ≡ without_case (get_or l.text k 0)
