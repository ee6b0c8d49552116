use Rattle.std.proofs.Common.{◌∷◌, [], ap, sym, ◌∙◌, arith}
use Rattle.std.specs.FinMap as map
use Rattle.std.specs.List.{flat_map}
use Rattle.std.specs.Int.{to_le_bytes, w32}
use Rattle.nd_mem.specs.Space.{Space, first_fault, Any, put_from}
use Rattle.legal_run.specs.Guest.{driver_entry_words, stack_pointer}
use Rattle.entry_start.proofs.StartSpace.{first_space, stack_free, stack_put}
use Rattle.entry_start.proofs.start.entered_memory.Goals as goal

pub put_words-requires-clause-mapped : goal.put_words-requires-clause-mapped
put_words-requires-clause-mapped c =
    ap (λ (s : Space). first_fault Any (map.get s) c.stack_pointer.result 12) (c.in_ok-memory.ensures [])
    ∙ stack_free c.image_lies_in_its_size.ensures c.look_up_laws.ensures c.regions_are_blank.ensures c.places_lie_in_regions.ensures c.fault_laws.ensures c.args.image.now c.args.slots.now c.bounds.ensures.laid_out c.stack_pointer.result 12 (omega (arith, c.stack_pointer.ensures)) (omega (arith, c.stack_pointer.ensures))

pub returns : goal.returns
returns c = λ layout.
    c.put_words.ensures
    ∙ ap (λ (s : Space). put_from s c.stack_pointer.result (flat_map (to_le_bytes w32) (c.slot_address.result.0 ∷ driver_entry_words))) (c.in_ok-memory.ensures layout)
    ∙ ap (λ n. put_from (first_space c.args.image.now c.args.slots.now) n (flat_map (to_le_bytes w32) (c.slot_address.result.0 ∷ driver_entry_words))) c.stack_pointer.ensures
    ∙ ap (λ n. put_from (first_space c.args.image.now c.args.slots.now) (stack_pointer 0 driver_entry_words) (flat_map (to_le_bytes w32) (n ∷ driver_entry_words))) c.slot_address.ensures
    ∙ sym (stack_put c.image_lies_in_its_size.ensures c.look_up_laws.ensures c.write_laws.ensures c.regions_are_blank.ensures c.places_lie_in_regions.ensures c.args.image.now c.args.slots.now c.bounds.ensures.laid_out driver_entry_words (omega arith))
