use Rattle.std.proofs.Common.{◌≡◌, ℕ, ◌+◌, ◌*◌, ◌<◌, true, [], ◌∷◌, get_or}
use Rattle.std.specs.FinMap as map
use Rattle.inf_text.specs.Names.{is_same}
use Rattle.import_answers.specs.Outcomes.{half_at}
use Rattle.calls_setup.proofs.keywords.is_named.Given as goal

abbrev pub invariant-loop-k : goal.invariant-loop-k
invariant-loop-k l = (j : ℕ) → j < l.k → is_same (half_at (map.get l.memory) (l.keyword.characters + 2 * j) ∷ []) (get_or l.name j 0 ∷ []) ≡ true
