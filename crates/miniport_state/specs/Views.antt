-- What is kept, as values of a run's state.
use Rattle.std.specs.Prelude.{ℕ}
use Rattle.legal_run.specs.State as run
use Rattle.miniport_state.specs.declared.contexts.Stage.{Stage}
use Rattle.miniport_state.specs.declared.contexts.Stage.TheVariants as stages
use Rattle.miniport_state.specs.declared.contexts.Wait.{Wait}
use Rattle.miniport_state.specs.declared.contexts.Wait.TheVariants as waits
use Rattle.miniport_state.specs.declared.adapters.Entrance.{Entrance}
use Rattle.miniport_state.specs.declared.adapters.Entrance.TheVariants as entrances

abbrev pub stage_of : Stage → run.Stage
stage_of stages.Needed = run.Needed
stage_of stages.Entered = run.Entered
stage_of (stages.Left eax) = run.Left eax

abbrev pub wait_of : Wait → run.Wait
wait_of waits.Nothing = run.Nothing
wait_of (waits.OnLock lock) = run.OnLock lock.0
wait_of (waits.OnClock wake) = run.OnClock wake
wait_of (waits.OnSync stage) = run.OnSync (stage_of stage)

abbrev pub entrance_of : Entrance → run.Entrance
entrance_of entrances.Unentered = run.Unentered
entrance_of entrances.Inside = run.Inside
entrance_of (entrances.Gone eax) = run.Gone eax
