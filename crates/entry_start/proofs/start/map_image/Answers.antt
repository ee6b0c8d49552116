use Rattle.std.proofs.Common.{ap, ◌∙◌}
use Rattle.std.specs.Option.{option_or}
use Rattle.entry_start.proofs.StartSpace.{never_refused, get_empty, option_or_none}
use Rattle.entry_start.proofs.start.map_image.Goals as goal

pub unreachable-requires : goal.unreachable-requires
unreachable-requires c =
    never_refused c.image_lies_in_its_size.ensures _ (get_empty _ c.requires.empty) _ c.bounds.ensures.laid_out _ (c.in-Err-High.ensures.refusal (λ e. let is = c.in-Err-High.field-0-is in cc)).0

pub unreachable-requires-in-Err-Overlaps : goal.unreachable-requires-in-Err-Overlaps
unreachable-requires-in-Err-Overlaps c =
    never_refused c.image_lies_in_its_size.ensures _ (get_empty _ c.requires.empty) _ c.bounds.ensures.laid_out _ (c.in-Err-Overlaps.ensures.refusal (λ e. let is = c.in-Err-Overlaps.field-0-is in cc)).0

pub returns-in-Ok : goal.returns-in-Ok
returns-in-Ok c = λ a. c.in-Ok.ensures.ok a ∙ ap (option_or _) (get_empty _ c.requires.empty a) ∙ option_or_none _
