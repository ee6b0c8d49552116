-- A miniport that was read, if it has the handlers that it needs.
use Rattle.std.specs.Prelude.{ℕ, ◌&&◌, if◌then◌else◌, Result, Ok, Err}
use Rattle.guest_world.specs.declared.miniport.Miniport.{Miniport}
use Rattle.import_answers.specs.Statuses.{bad_characteristics}
use Rattle.import_answers.specs.Registration.{has_needed, has_functions}

abbrev pub whole : Miniport → Result Miniport ℕ
whole m = if has_needed m && has_functions m then Ok m else Err bad_characteristics
