use Rattle.std.proofs.Common.{arith}
use Rattle.owner_rows.proofs.KeptRows.{loans_pushed}
use Rattle.owner_rows.proofs.loans.Loans.push.Goals as goal

pub invariant_of-self-2 : goal.invariant_of-self-2
invariant_of-self-2 c = rw (c.push_reserved.ensures.items, c.reserve.ensures.items, c.in_ok-push_if.ensures.ok, c.recount.ensures, c.is_away-away.ensures) (loans_pushed c.self.inside.rows.items c.args.l c.len-j.result c.self.inside.live c.self.inside.away c.self.invariant (omega arith) (omega arith))
