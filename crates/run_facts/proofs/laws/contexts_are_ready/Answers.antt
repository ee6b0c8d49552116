use Rattle.run_facts.proofs.Ready.{numbers, ready, may_hold, few}
use Rattle.run_facts.proofs.laws.contexts_are_ready.Goals as goal

pub returns : goal.returns
returns c =
    let given = c.stops_may_stand.ensures.adapters in
    let laws = c.entry_laws.ensures in
    record { numbers = numbers given; goes = ready given laws.reply; enters = may_hold given; few = few laws.enter c.each_duty_is_served.ensures.drawn }
