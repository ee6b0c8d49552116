use Rattle.std.proofs.Common.{arith}
use Rattle.owner_rows.proofs.KeptRows.{packets_pushed}
use Rattle.owner_rows.proofs.packets.Packets.push.Goals as goal

pub invariant_of-self-2 : goal.invariant_of-self-2
invariant_of-self-2 c = rw (c.push_reserved.ensures.items, c.reserve.ensures.items, c.in_ok-push.ensures.ok, c.recount.ensures, c.recount-2.ensures) (packets_pushed c.self.inside.rows.items c.args.p c.len-k.result c.self.inside.live c.self.inside.out c.self.inside.slots c.self.invariant (omega arith) (omega arith) c.requires)
