use Rattle.std.proofs.Common.{rules, tests, ◌||◌, nat_lt}
use Rattle.std.proofs.lemmas.Iterator.Consumers.{YieldsList-from_deque}
use Rattle.std.proofs.lemmas.Iterator.Search.{find_from_yields_List}
use Rattle.dpc_timer.specs.declared.timer.Turn.{Turn}
use Rattle.adapter_timers.specs.Due.{is_his}
use Rattle.adapter_timers.proofs.due.first_of.Goals as goal

pub returns : goal.returns
returns c =
    let e = find_from_yields_List (λ (x : Turn). nat_lt c.args.now x.moment || is_his c.args.timers.now c.args.a.0 x.address) _ _ c.find.result c.find.ensures.ran (YieldsList-from_deque c.args.turns.now.items cc) (λ x b q k. search (rules, tests)) in
    cc
