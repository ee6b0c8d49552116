use Rattle.std.proofs.Common.{◌≡◌, [], Some, None, refl, sym, ap, ◌∙◌, arith}
use Rattle.std.specs.Option.{option_map}
use Rattle.call_log.specs.declared.entry.Entry.TheVariants as entries
use Rattle.owner_machine.specs.State.{Owner}
use Rattle.owner_machine.specs.Must.{Answers, owner_must}
use Rattle.owner_machine.specs.declared.rows.Next.TheVariants.{Asked}
use Rattle.run_stops.specs.Standing.{state_of}
use Rattle.run_stops.specs.Stopping.{owner_of}
use Rattle.run_commands.specs.Commands.{status_due}
use Rattle.run_commands.proofs.Behind.{ask_due, refusal_meets}
use Rattle.run_commands.proofs.Settling.{none_behind_answer, settles_at_once, settles_behind}
use Rattle.run_commands.proofs.requests.answer_refused.Goals as goal

pub answer_without-requires : goal.answer_without-requires
answer_without-requires g c =
    let q = c.requires in
    let o = owner_of g.c c.args.run.now in
    let found : status_due (owner_must o) ≡ Some c.in-Some.status = ap (λ (o : Owner). status_due (owner_must o)) (sym q.runs.kept.owner) ∙ sym (ap status_due c.must.ensures) ∙ sym c.status_due.ensures ∙ c.in-Some.is in
    let due = ask_due o c.args.asked q.last ∙ ap (option_map (λ status. Answers c.args.asked.0 status)) found in
    let may = refusal_meets g.c (state_of g.c c.args.run.now) c.args.asked c.args.asked.0 c.in-Some.status q.calm q.last due in
    let room = q.room in
    (q.runs, (may.0, (may.1.1, omega (arith, room))))

pub returns-in-Some : goal.returns-in-Some
returns-in-Some g c =
    let e = entries.Answer c.args.asked (record { 0 = c.in-Some.status }) [] in
    settles_behind c.run_laws.ensures c.rooms_stay.ensures g.c (Asked c.args.asked) e c.args.run.now c.answer_without.new.run c.requires
    (c.moves_add.ensures g.c e c.args.run.now c.answer_without.new.run c.answer_without.ensures) refl refl refl
    (none_behind_answer g.c (state_of g.c c.args.run.now) c.args.asked c.args.asked.0 c.in-Some.status c.requires.last)

pub returns-in_default : goal.returns-in_default
returns-in_default g c =
    let q = c.requires in
    let o = owner_of g.c c.args.run.now in
    let none : status_due (owner_must o) ≡ None = ap (λ (o : Owner). status_due (owner_must o)) (sym q.runs.kept.owner) ∙ sym (ap status_due c.must.ensures) ∙ sym c.status_due.ensures ∙ c.in_default.is in
    settles_at_once g.c (Asked c.args.asked) c.args.run.now q (ask_due o c.args.asked q.last ∙ ap (option_map (λ status. Answers c.args.asked.0 status)) none)
