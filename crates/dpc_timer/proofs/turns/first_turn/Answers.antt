use Rattle.std.proofs.Common.{◌<◌, length, refl, arith}
use Rattle.dpc_timer.proofs.InOrder.{front_is_least}
use Rattle.dpc_timer.proofs.turns.first_turn.Goals as goal

pub returns-in-Some-clause-least : goal.returns-in-Some-clause-least
returns-in-Some-clause-least c =
    let xs = c.args.turns.now.items in
    let some : 0 < length xs = omega (arith, c.args.turns.now.ok.0, c.in-Some.ensures.variant.0 refl) in
    λ m t h. front_is_least xs c.in-Some.turn.now m t c.requires some c.in-Some.ensures.lookup h
