use Rattle.std.proofs.Common.{◌≡◌, ◌<◌, ◌≤◌, true, leb, length, refl, sym, subst, ⊎_elim, arith, rules}
use Rattle.std.proofs.lemmas.Bool.{false≢true, cases_lt}
use Rattle.std.proofs.lemmas.List.Sorted.{IsPartitionPoint-from_clause}
use Rattle.std.specs.VecDeque.{deque_len}
use Rattle.dpc_timer.specs.declared.timer.Turn.{Turn}
use Rattle.dpc_timer.specs.Turns.{has_turn}
use Rattle.dpc_timer.proofs.InOrder.{parted_at, above_from, above_found, above_least, above_none}
use Rattle.dpc_timer.proofs.turns.first_above.Goals as goal

pub returns-in-Some-clause-found : goal.returns-in-Some-clause-found
returns-in-Some-clause-found c =
    let xs = c.args.turns.now.items in
    let i = c.partition_point-place.result in
    let e : Turn = c.in-Some.turn.now in
    let point = IsPartitionPoint-from_clause (λ x. leb x.moment c.args.now) xs i c.partition_point-place.ensures.partitioned (parted_at xs c.args.now c.requires) (λ a r q k. search rules) in
    let within : i ≤ length xs = omega (arith, c.args.turns.now.ok.0, c.partition_point-place.ensures.bound) in
    let lt : i < length xs = omega (arith, c.args.turns.now.ok.0, c.in-Some.ensures.variant.0 refl) in
    let w = above_found xs i c.args.now e (above_from xs i c.args.now within point) lt in
    let read = c.in-Some.ensures.lookup in
    (subst (λ (z : Turn). c.args.now < z.moment) (sym read) w.0, e.address, subst (λ (z : Turn). has_turn xs z.moment z.address ≡ true) (sym read) w.1)

pub returns-in-Some-clause-least : goal.returns-in-Some-clause-least
returns-in-Some-clause-least c =
    let xs = c.args.turns.now.items in
    let i = c.partition_point-place.result in
    let e : Turn = c.in-Some.turn.now in
    let point = IsPartitionPoint-from_clause (λ x. leb x.moment c.args.now) xs i c.partition_point-place.ensures.partitioned (parted_at xs c.args.now c.requires) (λ a r q k. search rules) in
    let within : i ≤ length xs = omega (arith, c.args.turns.now.ok.0, c.partition_point-place.ensures.bound) in
    let lt : i < length xs = omega (arith, c.args.turns.now.ok.0, c.in-Some.ensures.variant.0 refl) in
    λ later t h above. subst (λ (z : Turn). z.moment ≤ later) (sym c.in-Some.ensures.lookup) (above_least xs i c.args.now e later t c.requires (above_from xs i c.args.now within point) lt h above)

pub returns-in-None-clause-none : goal.returns-in-None-clause-none
returns-in-None-clause-none c =
    let xs = c.args.turns.now.items in
    let i = c.partition_point-place.result in
    let point = IsPartitionPoint-from_clause (λ x. leb x.moment c.args.now) xs i c.partition_point-place.ensures.partitioned (parted_at xs c.args.now c.requires) (λ a r q k. search rules) in
    let within : i ≤ length xs = omega (arith, c.args.turns.now.ok.0, c.partition_point-place.ensures.bound) in
    let past : length xs ≤ i =
    ⊎_elim (λ (lt : i < length xs). let inside : i < deque_len c.args.turns.now = omega (arith, c.args.turns.now.ok.0) in absurd (false≢true (c.in-None.ensures.variant.1 inside)))
    (λ (ge : length xs ≤ i). ge)
    (cases_lt i (length xs)) in
    λ m t h. above_none xs i c.args.now m t (above_from xs i c.args.now within point) past h
