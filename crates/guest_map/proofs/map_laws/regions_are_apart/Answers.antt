use Rattle.std.proofs.Common.{arith}
use Rattle.guest_map.specs.Regions.{regions}
use Rattle.guest_map.proofs.Rising.{rising_apart, rising_above, rising_within, regions_rise}
use Rattle.guest_map.proofs.map_laws.regions_are_apart.Goals as goal

pub returns : goal.returns
returns c = record {
  apart = rising_apart 0x81000000 0x85004000 regions regions_rise;
  behind = λ i d less. let above = rising_above 0x81000000 0x85004000 regions i d regions_rise less in omega arith;
  low = λ i d less. let within = rising_within 0x81000000 0x85004000 regions i d regions_rise less in omega arith;
}
