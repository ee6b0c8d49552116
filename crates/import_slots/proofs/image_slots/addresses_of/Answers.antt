use Rattle.std.proofs.Common.{ap, ◌∙◌}
use Rattle.import_slots.specs.Slots.{is_unknown}
use Rattle.import_slots.proofs.Finding.{none_passes}
use Rattle.import_slots.proofs.SlotFacts.{none_found}
use Rattle.import_slots.proofs.image_slots.addresses_of.Goals as goal

pub slot_of-requires : goal.slot_of-requires
slot_of-requires c =
    ap is_unknown c.import-item.is
    ∙ none_passes is_unknown c.args.imports.now c.loop-import.import-index c.import-item.result (none_found c.args.imports.now c.requires) c.loop-import-test.true
