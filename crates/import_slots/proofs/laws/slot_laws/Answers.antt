use Rattle.import_slots.proofs.SlotFacts.{slot_facts}
use Rattle.import_slots.proofs.laws.slot_laws.Goals as goal

pub returns : goal.returns
returns c = slot_facts c.table_laws.ensures
