use Rattle.std.proofs.Common.{◌≡◌, ◌/◌, drop}
use Rattle.std.specs.FinMap as map
use Rattle.std.specs.List.{find}
use Rattle.inf_text.specs.Names.{is_same}
use Rattle.import_answers.specs.Configuration.{units_at}
use Rattle.calls_setup.proofs.keywords.value_of.Given as goal

abbrev pub invariant-loop-param : goal.invariant-loop-param
invariant-loop-param l =
    let name = units_at (map.get l.memory) l.keyword.characters (l.keyword.length / 2) in
    find (λ p. is_same name p.name) (drop l.param-index l.params) ≡ find (λ p. is_same name p.name) l.params
