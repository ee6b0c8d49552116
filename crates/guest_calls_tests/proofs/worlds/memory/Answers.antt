use Rattle.std.proofs.Common.{ap, ◌∙◌}
use Rattle.std.specs.FinMap as map
use Rattle.std.specs.Ordering.{nat_cmp}
use Rattle.guest_calls_tests.proofs.worlds.memory.Goals as goal

pub map_regions-requires : goal.map_regions-requires
map_regions-requires c = λ a high. ap (λ s. map.get s a) c.new-memory.ensures ∙ map.get-empty nat_cmp a
