use Rattle.std.proofs.Common.{◌≡◌, take}
use Rattle.std.specs.List.{flat_map}
use Rattle.oid_sets.proofs.addresses.bytes_of.Given as goal

abbrev pub invariant-loop-address : goal.invariant-loop-address
invariant-loop-address l = l.bytes ≡ flat_map (λ x. x) (take l.address-index l.there)
