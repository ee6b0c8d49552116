use Rattle.std.proofs.Common.{◌≡◌, ◌++◌, ◌==◌, drop}
use Rattle.owner_machine.specs.State.{numbers_from}
use Rattle.legal_run.specs.Enters.{drivers_of_adapter}
use Rattle.oid_sets.proofs.drivers.drivers_of.Given as goal

abbrev pub invariant-loop-n : goal.invariant-loop-n
invariant-loop-n g l = l.drivers.items ++ numbers_from l.n (λ d. d.adapter.0 == l.fn.a.0) (drop l.n g.s.owner.drivers) ≡ drivers_of_adapter g.s l.fn.a.0
