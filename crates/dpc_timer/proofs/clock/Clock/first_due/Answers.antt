use Rattle.dpc_timer.proofs.clock.Clock.first_due.Goals as goal

pub returns-then-turn-self-clause-first : goal.returns-then-turn-self-clause-first
returns-then-turn-self-clause-first c =
    rw (← c.self.view_is) (record { moment = c.in_ok-turn.turn.moment; armed = c.in_ok-turn.ensures.found; come = c.if-turn-self.true; least = c.in_ok-turn.ensures.least })

pub returns-then-turn-self-clause-due : goal.returns-then-turn-self-clause-due
returns-then-turn-self-clause-due c = rw (← c.self.view_is) (record { moment = c.in_ok-turn.turn.moment; armed = c.in_ok-turn.ensures.found; come = c.if-turn-self.true })
