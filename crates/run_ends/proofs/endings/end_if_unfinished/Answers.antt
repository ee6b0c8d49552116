use Rattle.std.proofs.Common.{◌≡◌, true, false, ap, ◌∙◌, sym, arith}
use Rattle.owner_machine.specs.State.{Owner, stands}
use Rattle.owner_machine.specs.Handlers.{outstanding}
use Rattle.legal_run.specs.State.{State}
use Rattle.legal_run.specs.Owed.{is_finished}
use Rattle.run_stops.specs.Standing.{state_of}
use Rattle.run_stops.specs.Stopping.{owner_of}
use Rattle.run_ends.proofs.Row.{none_ends, one_ends, standing}
use Rattle.run_ends.proofs.endings.end_if_unfinished.Goals as goal

pub stop-requires-clause-stands : goal.stop-requires-clause-stands
stop-requires-clause-stands g c =
    let not_yet : is_finished (state_of g.o.inputs c.args.run.now) c.args.a.0 ≡ false = ap (λ (s : State). is_finished s c.args.a.0) (sym c.requires.0) ∙ sym c.is_finished.ensures ∙ c.if-not-is_finished.true in
    ap (λ (o : Owner). stands o c.args.a.0) c.requires.1.0.owner ∙ standing c.lists_keep_their_lengths.ensures g.o.inputs c.args.a.0 c.args.run.now c.requires.1.0 c.requires.1.1 not_yet

pub stop-requires-clause-spare : goal.stop-requires-clause-spare
stop-requires-clause-spare g c =
    let not_yet : is_finished (state_of g.o.inputs c.args.run.now) c.args.a.0 ≡ false = ap (λ (s : State). is_finished s c.args.a.0) (sym c.requires.0) ∙ sym c.is_finished.ensures ∙ c.if-not-is_finished.true in
    let there = standing c.lists_keep_their_lengths.ensures g.o.inputs c.args.a.0 c.args.run.now c.requires.1.0 c.requires.1.1 not_yet in
    let one = c.stops_take_room.ensures.one (owner_of g.o.inputs c.args.run.now) c.args.a.0 there in
    let same = ap (λ (o : Owner). outstanding o c.args.a.0) c.requires.1.0.owner in
    let enough = c.requires.1.0.room in
    omega (arith, one, same, enough)

pub returns-then-not-is_finished : goal.returns-then-not-is_finished
returns-then-not-is_finished g c =
    let not_yet : is_finished (state_of g.o.inputs c.args.run.now) c.args.a.0 ≡ false = ap (λ (s : State). is_finished s c.args.a.0) (sym c.requires.0) ∙ sym c.is_finished.ensures ∙ c.if-not-is_finished.true in
    one_ends c.run_laws.ensures c.lists_keep_their_lengths.ensures c.tails_go_on.ensures c.stops_take_room.ensures g.o.inputs c.args.a c.args.run.now _ c.requires.1.0 c.requires.1.1 not_yet c.stop.ensures.stops c.stop.ensures.spare

pub returns-else-not-is_finished : goal.returns-else-not-is_finished
returns-else-not-is_finished g c =
    let is : is_finished (state_of g.o.inputs c.args.run.now) c.args.a.0 ≡ true = ap (λ (s : State). is_finished s c.args.a.0) (sym c.requires.0) ∙ sym c.is_finished.ensures ∙ c.if-not-is_finished.false in
    none_ends g.o.inputs c.args.a.0 c.args.run.now c.requires.1.0 is
