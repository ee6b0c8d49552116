use Rattle.std.proofs.Common.{◌≡◌, Some, None, ap, ◌∙◌, sym}
use Rattle.std.specs.List.{position}
use Rattle.owner_machine.specs.State.{Owner}
use Rattle.owner_machine.specs.Packets.{held_of}
use Rattle.run_stops.specs.Stopping.{owner_of}
use Rattle.run_leaves.proofs.Aborting.{abort_may, aborted, aborts_by}
use Rattle.run_leaves.proofs.aborts.abort_one.Goals as goal

pub complete-requires : goal.complete-requires
complete-requires g c =
    let found : position (held_of c.args.a.0) (owner_of g.c c.args.run.now).packets ≡ Some c.in-Some.k = sym (ap (λ (o : Owner). position (held_of c.args.a.0) o.packets) c.requires.runs.kept.owner) ∙ sym c.first_packet.ensures ∙ c.in-Some.is in
    (c.requires.runs, abort_may c.each_duty_is_served.ensures g.c c.args.a c.in-Some.k c.args.run.now c.requires found)

pub returns-in-Some-clause-one : goal.returns-in-Some-clause-one
returns-in-Some-clause-one g c =
    let found : position (held_of c.args.a.0) (owner_of g.c c.args.run.now).packets ≡ Some c.in-Some.k = sym (ap (λ (o : Owner). position (held_of c.args.a.0) o.packets) c.requires.runs.kept.owner) ∙ sym c.first_packet.ensures ∙ c.in-Some.is in
    aborted c.moves_add.ensures g.c c.args.a c.in-Some.k c.args.run.now c.complete.new.self c.requires found c.complete.ensures

pub returns-clause-none : goal.returns-clause-none
returns-clause-none g c =
    let found : position (held_of c.args.a.0) (owner_of g.c c.args.run.now).packets ≡ None = sym (ap (λ (o : Owner). position (held_of c.args.a.0) o.packets) c.requires.runs.kept.owner) ∙ sym c.first_packet.ensures ∙ c.in_default.is in
    aborts_by g.c c.args.a None c.args.run.now c.requires found
