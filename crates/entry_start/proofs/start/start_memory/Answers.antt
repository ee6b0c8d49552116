use Rattle.std.proofs.Common.{ap, ◌∙◌, arith}
use Rattle.std.specs.Option.{option_or}
use Rattle.guest_map.specs.Blank.{blank_cells}
use Rattle.entry_start.proofs.StartSpace.{image_ends, start_is}
use Rattle.entry_start.proofs.start.start_memory.Goals as goal

pub map_regions-requires : goal.map_regions-requires
map_regions-requires c = λ a high. c.in_ok-map_image.ensures a ∙ image_ends c.image_lies_in_its_size.ensures c.args.image.now c.args.slots.now c.bounds.ensures.laid_out a (omega arith)

pub returns : goal.returns
returns c = λ layout. start_is c.image_lies_in_its_size.ensures c.look_up_laws.ensures c.regions_are_blank.ensures c.args.image.now c.args.slots.now c.bounds.ensures.laid_out _ (λ a. c.in_ok-map_regions.ensures.ok a ∙ ap (λ x. option_or x (blank_cells a)) (c.in_ok-map_image.ensures a))
