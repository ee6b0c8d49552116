use Rattle.std.proofs.Common.{◌≡◌, take}
use Rattle.std.specs.List.{fold}
use Rattle.std.specs.Option.{option_copied}
use Rattle.inf_file.specs.Models.{has_id}
use Rattle.inf_file.specs.Earliest.{earlier_if}
use Rattle.inf_file.specs.Parameters.{strings_in}
use Rattle.inf_file.proofs.in_place.first_with_id.Given as goal

abbrev pub invariant-loop-line : goal.invariant-loop-line
invariant-loop-line l = option_copied l.best ≡ fold (earlier_if (has_id (strings_in l.inf) l.id)) (option_copied l.initial.best) (take l.line-index l.lines)
