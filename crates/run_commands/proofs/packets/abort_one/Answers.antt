use Rattle.std.proofs.Common.{◌≡◌, Some, sym, ap, ◌∙◌}
use Rattle.call_log.specs.declared.entry.Entry.TheVariants as entries
use Rattle.owner_machine.specs.State.{Owner, request_aborted}
use Rattle.run_stops.specs.Stopping.{owner_of}
use Rattle.run_commands.specs.Commands.{queued}
use Rattle.run_commands.proofs.Cancels.{abort_may, aborts_one}
use Rattle.run_commands.proofs.packets.abort_one.Goals as goal

pub complete-requires : goal.complete-requires
complete-requires g c =
    let q = c.requires in
    let found : queued (owner_of g.c c.args.run.now) c.args.driver c.args.id ≡ Some c.in-Some.k = sym (ap (λ (o : Owner). queued o c.args.driver c.args.id) q.runs.kept.owner) ∙ sym c.first_packet.ensures ∙ c.in-Some.is in
    (q.runs, abort_may g.c c.args.driver c.args.id c.in-Some.k c.args.run.now q found)

pub returns-in-Some-clause-one : goal.returns-in-Some-clause-one
returns-in-Some-clause-one g c =
    let q = c.requires in
    let e = entries.Complete (record { 0 = c.in-Some.k }) (record { 0 = request_aborted }) in
    let found : queued (owner_of g.c c.args.run.now) c.args.driver c.args.id ≡ Some c.in-Some.k = sym (ap (λ (o : Owner). queued o c.args.driver c.args.id) q.runs.kept.owner) ∙ sym c.first_packet.ensures ∙ c.in-Some.is in
    aborts_one c.run_laws.ensures c.rooms_stay.ensures g.c c.args.driver c.args.id c.in-Some.k c.args.run.now c.complete.new.self q found (c.moves_add.ensures g.c e c.args.run.now c.complete.new.self c.complete.ensures)
