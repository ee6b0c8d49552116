-- Waiting in vain.
use Rattle.std.specs.Prelude.{Bool, ◌&&◌, is_none, if◌then◌else◌}
use Rattle.legal_run.specs.State.{Inputs, State}
use Rattle.legal_run.specs.Owed.{all_finished, all_wait, next_moment, silent_one}

-- neither the clock nor the stop of an adapter helps a driver that waits; or, where not every driver waits, every adapter is finished
abbrev pub nothing_comes : Inputs → State → Bool
nothing_comes c s = if all_wait c s then is_none (next_moment c s) && is_none (silent_one c s) else all_finished c s
