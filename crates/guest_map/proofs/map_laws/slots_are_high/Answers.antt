use Rattle.guest_map.proofs.Places.{slots_high, slots_below, slots_differ}
use Rattle.guest_map.proofs.map_laws.slots_are_high.Goals as goal

pub returns : goal.returns
returns c = record { high = slots_high; below = slots_below; apart = slots_differ }
