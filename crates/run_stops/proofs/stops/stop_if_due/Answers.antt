use Rattle.std.proofs.Common.{◌≡◌, true, false, ap, ◌∙◌, sym}
use Rattle.owner_machine.specs.State.{Owner, stands}
use Rattle.run_stops.specs.Stopping.{owner_of}
use Rattle.run_stops.proofs.Several.{counted, due_standing, stop_one, stop_none}
use Rattle.run_stops.proofs.stops.stop_if_due.Goals as goal

pub stop_next-requires : goal.stop_next-requires
stop_next-requires g c =
    let stopping = c.requires.0 in
    let is : stands (owner_of g.c c.args.run.now) c.args.a.0 ≡ true = ap (λ (o : Owner). stands o c.args.a.0) (sym stopping.runs.kept.owner) ∙ sym c.stands.ensures ∙ c.if-stands.true in
    let due = due_standing g.c c.args.a.0 c.args.cause c.args.run.now (counted c.lists_keep_their_lengths.ensures g.c c.args.run.now stopping.runs) c.requires.1.1.0 stopping is in
    (stopping.runs, (due.1, (c.requires.1.1.1.0, (c.requires.1.1.1.1.1, due.2))))

pub returns-then-stands : goal.returns-then-stands
returns-then-stands g c =
    let stopping = c.requires.0 in
    let is : stands (owner_of g.c c.args.run.now) c.args.a.0 ≡ true = ap (λ (o : Owner). stands o c.args.a.0) (sym stopping.runs.kept.owner) ∙ sym c.stands.ensures ∙ c.if-stands.true in
    stop_one g.c c.args.a.0 c.args.cause c.args.run.now c.stop_next.new.run (counted c.lists_keep_their_lengths.ensures g.c c.args.run.now stopping.runs) c.requires.1.1.0 c.requires.1.1.1.1.0 stopping c.requires.1.0 is c.stop_next.ensures

pub returns-else-stands : goal.returns-else-stands
returns-else-stands g c =
    let stopping = c.requires.0 in
    let is : stands (owner_of g.c c.args.run.now) c.args.a.0 ≡ false = ap (λ (o : Owner). stands o c.args.a.0) (sym stopping.runs.kept.owner) ∙ sym c.stands.ensures ∙ c.if-stands.false in
    stop_none g.c c.args.a.0 c.args.cause c.args.run.now (counted c.lists_keep_their_lengths.ensures g.c c.args.run.now stopping.runs) c.requires.1.1.0 stopping c.requires.1.0 is
