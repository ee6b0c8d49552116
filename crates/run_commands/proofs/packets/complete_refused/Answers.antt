use Rattle.std.proofs.Common.{◌≡◌, true, Some, None, refl, sym, ap, ◌∙◌, arith}
use Rattle.std.specs.Option.{option_map}
use Rattle.call_log.specs.declared.entry.Entry.TheVariants as entries
use Rattle.owner_machine.specs.State.{Owner}
use Rattle.owner_machine.specs.Must.{Completes, must_behind, owner_must, refused_packet}
use Rattle.owner_machine.specs.declared.rows.Next.TheVariants.{Sent}
use Rattle.run_stops.specs.Standing.{state_of}
use Rattle.run_stops.specs.Stopping.{owner_of}
use Rattle.run_commands.specs.Commands.{status_due}
use Rattle.run_commands.proofs.Behind.{send_due, send_meets}
use Rattle.run_commands.proofs.Settling.{none_behind_refusal, settles_at_once, settles_behind}
use Rattle.run_commands.proofs.packets.complete_refused.Goals as goal

pub complete-requires : goal.complete-requires
complete-requires g c =
    let q = c.requires in
    let o = owner_of g.c c.args.run.now in
    let found : status_due (owner_must o) ≡ Some c.in-Some.status = ap (λ (o : Owner). status_due (owner_must o)) (sym q.runs.kept.owner) ∙ sym (ap status_due c.must.ensures) ∙ sym c.status_due.ensures ∙ c.in-Some.is in
    let asks : owner_must o ≡ refused_packet o true c.args.sent.0 = ap (must_behind o) q.last in
    let due = send_due o true c.args.sent.0 asks ∙ ap (option_map (λ status. Completes true c.args.sent.0 status)) found in
    let room = q.room in
    (q.runs, (send_meets g.c (state_of g.c c.args.run.now) true c.args.sent.0 c.in-Some.status q.calm asks due, omega (arith, room)))

pub returns-in-Some : goal.returns-in-Some
returns-in-Some g c =
    let e = entries.Complete c.args.sent (record { 0 = c.in-Some.status }) in
    settles_behind c.run_laws.ensures c.rooms_stay.ensures g.c (Sent c.args.sent) e c.args.run.now c.complete.new.self c.requires
    (c.moves_add.ensures g.c e c.args.run.now c.complete.new.self c.complete.ensures) refl refl refl
    (none_behind_refusal g.c (state_of g.c c.args.run.now) c.args.sent c.in-Some.status c.requires.last)

pub returns-in_default : goal.returns-in_default
returns-in_default g c =
    let q = c.requires in
    let o = owner_of g.c c.args.run.now in
    let none : status_due (owner_must o) ≡ None = ap (λ (o : Owner). status_due (owner_must o)) (sym q.runs.kept.owner) ∙ sym (ap status_due c.must.ensures) ∙ sym c.status_due.ensures ∙ c.in_default.is in
    let asks : owner_must o ≡ refused_packet o true c.args.sent.0 = ap (must_behind o) q.last in
    settles_at_once g.c (Sent c.args.sent) c.args.run.now q (send_due o true c.args.sent.0 asks ∙ ap (option_map (λ status. Completes true c.args.sent.0 status)) none)
