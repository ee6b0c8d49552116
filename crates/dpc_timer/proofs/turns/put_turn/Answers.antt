use Rattle.std.proofs.Common.{◌≤◌, arith, length}
use Rattle.dpc_timer.proofs.InOrder.{place_from, in_order-insert, has-insert}
use Rattle.dpc_timer.proofs.turns.put_turn.Goals as goal

pub returns-clause-order : goal.returns-clause-order
returns-clause-order c =
    let xs = c.args.turns.now.items in
    let within : c.place_of-place.result ≤ length xs = omega (arith, c.args.turns.now.ok.0, c.place_of-place.ensures.bound) in
    let place = place_from xs c.place_of-place.result c.args.turn within c.place_of-place.ensures.place in
    rw c.in-Ok.ensures.items (in_order-insert xs c.place_of-place.result c.args.turn c.requires.order place c.requires.absent)

pub returns-clause-has : goal.returns-clause-has
returns-clause-has c =
    let xs = c.args.turns.now.items in
    let within : c.place_of-place.result ≤ length xs = omega (arith, c.args.turns.now.ok.0, c.place_of-place.ensures.bound) in
    λ m t. rw c.in-Ok.ensures.items (has-insert xs c.place_of-place.result c.args.turn m t within)
