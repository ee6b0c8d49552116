use Rattle.run_facts.proofs.Levels.{count, opened, closed_where_free}
use Rattle.run_facts.proofs.laws.levels_agree.Goals as goal

pub returns : goal.returns
returns c =
    let given = c.stops_may_stand.ensures.adapters in
    record { sixteen = count given; opened = opened given; closed = closed_where_free given }
