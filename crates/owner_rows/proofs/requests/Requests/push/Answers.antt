use Rattle.std.proofs.Common.{arith}
use Rattle.owner_rows.proofs.KeptRows.{requests_pushed}
use Rattle.owner_rows.proofs.requests.Requests.push.Goals as goal

pub invariant_of-self-2 : goal.invariant_of-self-2
invariant_of-self-2 c = rw (c.push_reserved.ensures.items, c.reserve.ensures.items, c.in_ok-push.ensures.ok, c.recount.ensures) (requests_pushed c.self.inside.rows.items c.args.request c.len-r.result c.self.inside.live c.self.inside.unanswered c.self.invariant (omega arith) (omega arith) c.requires)
