use Rattle.guest_map.proofs.Places.{blank_found, blank_allowed, blank_nowhere, blank_before, blank_behind}
use Rattle.guest_map.proofs.map_laws.regions_are_blank.Goals as goal

pub returns : goal.returns
returns c = record { found = blank_found; allowed = blank_allowed c.fault_laws.ensures; others = blank_nowhere; before = blank_before; behind = blank_behind }
