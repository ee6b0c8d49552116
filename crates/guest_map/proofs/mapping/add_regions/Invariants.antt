use Rattle.std.proofs.Common.{◌≡◌, ℕ, take}
use Rattle.std.specs.FinMap as map
use Rattle.std.specs.Option.{option_or}
use Rattle.guest_map.specs.Blank.{blank_in}
use Rattle.guest_map.proofs.mapping.add_regions.Given as goal

abbrev pub invariant-loop-region : goal.invariant-loop-region
invariant-loop-region l = (a : ℕ) → map.get l.memory a ≡ option_or (map.get l.fn.memory a) (blank_in (take l.region-index l.regions) a)
