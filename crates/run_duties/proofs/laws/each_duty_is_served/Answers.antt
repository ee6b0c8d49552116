use Rattle.run_duties.proofs.Ends.{handed_by_it, drawn_goes_on}
use Rattle.run_duties.proofs.Served.{exactly_stands, each_goes_on}
use Rattle.run_duties.proofs.laws.each_duty_is_served.Goals as goal

pub returns : goal.returns
returns c = record {
  handed = handed_by_it;
  drawn = drawn_goes_on;
  entries = exactly_stands c.code_laws.ensures.contexts;
  each = each_goes_on c.code_laws.ensures.contexts c.replies_are_taken.ensures c.room_laws.ensures.first c.duties_are_served.ensures;
}
