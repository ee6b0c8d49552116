use Rattle.std.proofs.Common.{◌≡◌, map, take}
use Rattle.owner_machine.specs.Legal.{new_driver}
use Rattle.owner_book.proofs.starting.new_drivers.Given as goal

abbrev pub invariant-loop-adapter : goal.invariant-loop-adapter
invariant-loop-adapter l = l.drivers.items ≡ map new_driver (take l.adapter-index l.adapters)
