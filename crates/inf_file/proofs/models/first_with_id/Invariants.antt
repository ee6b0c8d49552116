use Rattle.std.proofs.Common.{◌≡◌, None, map, take}
use Rattle.std.specs.List.{fold}
use Rattle.std.specs.Option.{option_copied}
use Rattle.inf_file.specs.Keyed.{string_in}
use Rattle.inf_file.specs.Models.{has_id}
use Rattle.inf_file.specs.Earliest.{earlier_if}
use Rattle.inf_file.proofs.models.first_with_id.Given as goal

abbrev pub invariant-loop-line : goal.invariant-loop-line
invariant-loop-line l = option_copied l.best ≡ fold (earlier_if (has_id (string_in l.source.strings.now) l.id)) None (map (λ x. x.now) (take l.line-index l.lines))
