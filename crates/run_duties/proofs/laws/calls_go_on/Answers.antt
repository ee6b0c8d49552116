use Rattle.run_duties.proofs.Made.{made_goes_on}
use Rattle.run_duties.proofs.Replied.{spin_goes_on, given_stands, reply_goes_on}
use Rattle.run_duties.proofs.laws.calls_go_on.Goals as goal

pub returns : goal.returns
returns c = record {
  spins = spin_goes_on c.code_laws.ensures.contexts;
  makes = made_goes_on c.code_laws.ensures.contexts;
  given = given_stands c.code_laws.ensures.contexts c.replies_are_taken.ensures;
  replies = reply_goes_on c.code_laws.ensures.contexts c.replies_are_taken.ensures c.room_laws.ensures.first;
}
