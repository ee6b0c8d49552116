use Rattle.std.proofs.Common.{refl}
use Rattle.owner_machine.specs.State.{phase_is}
use Rattle.legal_run.specs.State.{is_alive}
use Rattle.owed_handlers.proofs.NextMoment.{none_lives}
use Rattle.owed_handlers.proofs.alarms.living.Goals as goal

pub loop-n-init : goal.loop-n-init
loop-n-init c = (refl, λ a. none_lives 256 a (phase_is is_alive c.args.book.now a))
