-- Which drivers there are.
use Rattle.std.specs.Prelude.{◌≡◌, ◌<◌, length}
use Rattle.legal_run.specs.State.{Inputs, State}

-- the owner machine has a row for each driver that was given, and there are less than 256
pub record AreDrivers (c : Inputs) (s : State) : Type 0 where
  pub count : length s.owner.drivers ≡ length c.drivers
  pub few : length c.drivers < 256
