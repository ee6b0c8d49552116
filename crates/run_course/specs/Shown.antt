-- The part of a run's state that is kept here.
use Rattle.std.specs.Prelude.{◌≡◌, ◌<◌, ◌^◌, ℕ, length}
use Rattle.legal_run.specs.State.{State}
use Rattle.run_course.specs.declared.course.Course.{Course}

pub record Shows (s : State) (k : Course) : Type 0 where
  pub hearings : k.drivers.items ≡ s.drivers
  pub frames : k.packets.items ≡ s.packets
  pub loans : k.lent.items ≡ s.lent
  pub arrivals : k.come ≡ s.come
  pub expirations : k.expired ≡ s.expired
