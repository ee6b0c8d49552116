use Rattle.std.proofs.Common.{sym, ◌∙◌}
use Rattle.std.proofs.lemmas.Bool.{false≢true}
use Rattle.dpc_timer.proofs.Queue.{weaker, weaker_none, armed_from_turn, turn_from_armed}
use Rattle.dpc_timer.proofs.timer_queue.TimerQueue.first.Goals as goal

pub returns-clause-found : goal.returns-clause-found
returns-clause-found c =
    weaker c.first_turn.result _ _ (λ turn h. armed_from_turn c.self.inside.timers c.self.inside.turns.items c.args.self.now turn.moment turn.address c.self.view_is c.self.invariant h) c.first_turn.ensures.found

pub returns-clause-least : goal.returns-clause-least
returns-clause-least c =
    weaker c.first_turn.result _ _
    (λ turn h t moment armed. h moment t (turn_from_armed c.self.inside.timers c.self.inside.turns.items c.args.self.now moment t c.self.view_is c.self.invariant armed))
    c.first_turn.ensures.least

pub returns-clause-none : goal.returns-clause-none
returns-clause-none c =
    weaker_none c.first_turn.result _ _
    (λ h t moment armed. false≢true (sym (h moment t) ∙ turn_from_armed c.self.inside.timers c.self.inside.turns.items c.args.self.now moment t c.self.view_is c.self.invariant armed))
    c.first_turn.ensures.none
