use Rattle.std.proofs.Common.{◌≡◌, ◌-◌, length}
use Rattle.notices.specs.Reading.{IsPlace, heard}
use Rattle.notices.proofs.places.Place.next.Given as goal

abbrev pub invariant-loop-self : goal.invariant-loop-self
invariant-loop-self g l = IsPlace g.c l.fn.log.entries l.self × (l.self.driver ≡ l.fn.self.driver) × (heard g.c l.fn.log.entries l.self ≡ heard g.c l.fn.log.entries l.fn.self)

abbrev pub decreases-loop-self : goal.decreases-loop-self
decreases-loop-self g l = length l.fn.log.entries - l.self.at
