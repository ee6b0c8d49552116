-- The drivers that the book has are those of the run.
use Rattle.std.proofs.Common.{◌≡◌, length, sym, ap, ◌∙◌}
use Rattle.std.specs.List.{range_with_len}
use Rattle.owner_machine.specs.State.{Owner}
use Rattle.legal_run.specs.State.{Inputs, State, drivers_of}
use Rattle.run_rests.specs.Drivers.{AreDrivers}
use Rattle.run_rests.proofs.Counted.{numbers_are}

pub drivers_are : (c : Inputs) (s : State) (book : Owner) → AreDrivers c s → book ≡ s.owner → drivers_of c ≡ range_with_len 0 (length book.drivers)
drivers_are c s book are owner = numbers_are 0 c.drivers ∙ ap (range_with_len 0) (sym are.count ∙ ap (λ o. length o.drivers) (sym owner))
