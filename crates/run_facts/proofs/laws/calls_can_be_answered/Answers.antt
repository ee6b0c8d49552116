use Rattle.run_facts.proofs.Answerable.{open_where_due}
use Rattle.run_facts.proofs.Parts.{idle, parts, can, goes_can, number, there}
use Rattle.run_facts.proofs.laws.calls_can_be_answered.Goals as goal

pub returns : goal.returns
returns c =
    let keep = c.calls_keep.ensures in
    let duties = c.stops_may_stand.ensures in
    let given = duties.adapters in
    record {
      due = open_where_due c.calls_go_on.ensures.replies;
      idle = idle keep;
      parts = parts keep;
      can = can keep given;
      goes = goes_can keep given;
      number = number given duties.handlers;
      there = there keep given duties.handlers;
    }
