use Rattle.run_facts.proofs.Budgets.{due, unspent, fed_begins, fed_goes}
use Rattle.run_facts.proofs.EntryBudget.{turns, replies}
use Rattle.run_facts.proofs.laws.spent_are_due.Goals as goal

pub returns : goal.returns
returns c =
    let sums = c.charges_are_sums.ensures in
    let duties = c.stops_may_stand.ensures in
    let enters = c.entry_laws.ensures.enter in
    let drawn = c.each_duty_is_served.ensures.drawn in
    record {
      begins = fed_begins;
      goes = fed_goes;
      due = due sums duties.handlers;
      unspent = unspent sums duties.adapters duties.handlers;
      turns = turns sums duties.adapters duties.handlers enters drawn;
      replies = replies sums duties.adapters duties.handlers enters drawn;
    }
