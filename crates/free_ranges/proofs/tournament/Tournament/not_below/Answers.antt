use Rattle.std.proofs.Common.{◌<◌, ℕ, get_or, List, subst, arith}
use Rattle.std.proofs.lemmas.Grind.{common_steps}
use Rattle.free_ranges.specs.Tournament.{IsNotBelow}
use Rattle.std.specs.Prelude.{None}
use Rattle.free_ranges.proofs.TournamentLemmas.{all_below}
use Rattle.free_ranges.proofs.tournament.Tournament.not_below.Goals as goal

pub returns-then-index-bound-clause-found : goal.returns-then-index-bound-clause-found
returns-then-index-bound-clause-found c =
    let root : get_or c.self.inside.nodes.items 1 0 < c.args.bound = grind (arith, common_steps) in
    let P : List ℕ → Type 0 = λ l. IsNotBelow l c.args.bound None in
    subst P c.self.view_is (all_below c.self.inside.places c.self.inside.nodes.items c.self.invariant c.args.bound root)
