use Rattle.std.proofs.Common.{◌≤◌, ◌<◌, arith, length}
use Rattle.std.specs.VecDeque.{deque_len}
use Rattle.dpc_timer.proofs.InOrder.{place_from, stands, stands_within, in_order-remove, has-remove}
use Rattle.dpc_timer.proofs.turns.take_turn.Goals as goal

pub returns-clause-order : goal.returns-clause-order
returns-clause-order c =
    let xs = c.args.turns.now.items in
    let i = c.place_of-place.result in
    let within : i ≤ length xs = omega (arith, c.args.turns.now.ok.0, c.place_of-place.ensures.bound) in
    let place = place_from xs i c.args.turn within c.place_of-place.ensures.place in
    let inside = stands_within xs i c.args.turn (stands xs i c.args.turn c.requires.order place c.requires.there) in
    let lt : i < deque_len c.args.turns.now = omega (arith, c.args.turns.now.ok.0, inside) in
    let is = rw (c.remove.ensures.succeeds c.args.turn lt) at c.remove.ensures.items in
    rw is (in_order-remove xs i c.requires.order)

pub returns-clause-has : goal.returns-clause-has
returns-clause-has c =
    let xs = c.args.turns.now.items in
    let i = c.place_of-place.result in
    let within : i ≤ length xs = omega (arith, c.args.turns.now.ok.0, c.place_of-place.ensures.bound) in
    let place = place_from xs i c.args.turn within c.place_of-place.ensures.place in
    let at = stands xs i c.args.turn c.requires.order place c.requires.there in
    let inside = stands_within xs i c.args.turn at in
    let lt : i < deque_len c.args.turns.now = omega (arith, c.args.turns.now.ok.0, inside) in
    let is = rw (c.remove.ensures.succeeds c.args.turn lt) at c.remove.ensures.items in
    λ m t. rw is (has-remove xs i c.args.turn m t c.requires.order place at)

pub returns-clause-room : goal.returns-clause-room
returns-clause-room c =
    let xs = c.args.turns.now.items in
    let i = c.place_of-place.result in
    let within : i ≤ length xs = omega (arith, c.args.turns.now.ok.0, c.place_of-place.ensures.bound) in
    let place = place_from xs i c.args.turn within c.place_of-place.ensures.place in
    let inside = stands_within xs i c.args.turn (stands xs i c.args.turn c.requires.order place c.requires.there) in
    let lt : i < deque_len c.args.turns.now = omega (arith, c.args.turns.now.ok.0, inside) in
    let shorter = rw (c.remove.ensures.succeeds c.args.turn lt) at c.remove.ensures.len in
    omega (arith, shorter, c.remove.ensures.capacity, c.args.turns.now.small.1)
