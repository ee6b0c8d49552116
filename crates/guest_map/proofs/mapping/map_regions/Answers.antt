use Rattle.guest_map.specs.Blank.{blank_cells}
use Rattle.guest_map.proofs.Rising.{REGIONS_rise}
use Rattle.guest_map.proofs.mapping.map_regions.Goals as goal

pub add_regions-requires-clause-rise : goal.add_regions-requires-clause-rise
add_regions-requires-clause-rise c = REGIONS_rise

pub returns-clause-ok : goal.returns-clause-ok
unfolding blank_cells
returns-clause-ok c = c.add_regions.ensures.ok
