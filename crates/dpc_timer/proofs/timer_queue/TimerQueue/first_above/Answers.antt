use Rattle.dpc_timer.proofs.Queue.{weaker, weaker_none, armed_from_turn, turn_from_armed}
use Rattle.dpc_timer.proofs.timer_queue.TimerQueue.first_above.Goals as goal

pub returns-clause-found : goal.returns-clause-found
returns-clause-found c =
    weaker c.first_above.result _ _
    (λ moment w. (w.0, w.1, armed_from_turn c.self.inside.timers c.self.inside.turns.items c.args.self.now moment w.1 c.self.view_is c.self.invariant w.2))
    c.first_above.ensures.found

pub returns-clause-least : goal.returns-clause-least
returns-clause-least c =
    weaker c.first_above.result _ _
    (λ moment h t later armed above. h later t (turn_from_armed c.self.inside.timers c.self.inside.turns.items c.args.self.now later t c.self.view_is c.self.invariant armed) above)
    c.first_above.ensures.least

pub returns-clause-none : goal.returns-clause-none
returns-clause-none c =
    weaker_none c.first_above.result _ _
    (λ h t moment armed. h moment t (turn_from_armed c.self.inside.timers c.self.inside.turns.items c.args.self.now moment t c.self.view_is c.self.invariant armed))
    c.first_above.ensures.none
