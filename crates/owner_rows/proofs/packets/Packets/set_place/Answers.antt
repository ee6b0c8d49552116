use Rattle.std.proofs.Common.{sym, ◌∙◌, refl}
use Rattle.owner_machine.specs.Packets.{placed}
use Rattle.owner_rows.specs.Changes.{change_to, change_none}
use Rattle.owner_rows.proofs.packets.Packets.set_place.Goals as goal

pub returns-in-Some : goal.returns-in-Some
returns-in-Some c = c.put.ensures ∙ change_to (placed c.args.place) c.args.self.now c.args.k c.in-Some.was _ (sym c.row.ensures ∙ c.in-Some.is) refl

pub returns-in_default : goal.returns-in_default
returns-in_default c = sym (change_none (placed c.args.place) c.args.self.now c.args.k (sym c.row.ensures ∙ c.in_default.is))
