use Rattle.std.proofs.Common.{◌≡◌, take}
use Rattle.import_slots.specs.Slots.{addresses_of}
use Rattle.import_slots.proofs.image_slots.addresses_of.Given as goal

abbrev pub invariant-loop-import : goal.invariant-loop-import
invariant-loop-import l = l.addresses ≡ addresses_of (take l.import-index l.imports)
