use Rattle.run_facts.proofs.Inside.{standing, inside}
use Rattle.run_facts.proofs.laws.adapters_are_given.Goals as goal

pub returns : goal.returns
returns c =
    let duties = c.stops_may_stand.ensures in
    record { standing = standing duties.adapters; inside = inside duties.adapters duties.handlers }
