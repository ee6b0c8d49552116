use Rattle.std.proofs.Common.{ap, ◌∙◌}
use Rattle.owner_machine.specs.State.{at}
use Rattle.owner_rows.specs.Kept.{request_open}
use Rattle.owner_rows.proofs.KeptRows.{requests_handed}
use Rattle.owner_rows.proofs.requests.Requests.hand.Goals as goal

pub invariant_of-self : goal.invariant_of-self
invariant_of-self c = rw c.hand_row.ensures (requests_handed c.self.inside.rows.items c.args.r c.args.enter c.self.inside.live c.self.inside.unanswered c.self.invariant (ap (λ rows. at request_open rows c.args.r) c.self.view_is ∙ c.requires))
