use Rattle.owner_rows.proofs.KeptRows.{loans_put}
use Rattle.owner_rows.proofs.loans.Loans.put.Goals as goal

pub invariant_of-self : goal.invariant_of-self
invariant_of-self c = rw (c.set_row.ensures, c.keep.ensures, c.recount.ensures, c.is_away-away.ensures, c.is_away-is_away.ensures) (loans_put c.self.inside.rows.items c.args.j c.args.was c.args.l c.self.inside.live c.self.inside.away c.self.invariant (cc (c.self.view_is, c.requires.row)) c.requires.adapter c.requires.away)
