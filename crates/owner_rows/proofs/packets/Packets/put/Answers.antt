use Rattle.owner_rows.proofs.KeptRows.{packets_put}
use Rattle.owner_rows.proofs.packets.Packets.put.Goals as goal

pub invariant_of-self : goal.invariant_of-self
invariant_of-self c = rw (c.set_row.ensures, c.keep.ensures, c.recount.ensures, c.recount-2.ensures, c.is_out-out.ensures, c.is_out-is_out.ensures, c.in_slot-slot.ensures, c.in_slot-is_slot.ensures) (packets_put c.self.inside.rows.items c.args.k c.args.was c.args.p c.self.inside.live c.self.inside.out c.self.inside.slots c.self.invariant (cc (c.self.view_is, c.requires.row)) c.requires.driver c.requires.adapter c.requires.slot)
