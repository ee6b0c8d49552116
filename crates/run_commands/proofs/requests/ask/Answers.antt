use Rattle.std.proofs.Common.{Result, refl, sym, subst}
use Rattle.call_log.specs.declared.entry.Entry.TheVariants as entries
use Rattle.owner_machine.specs.declared.rows.Next.TheVariants.{Asked}
use Rattle.nd_base.specs.declared.OutOfMemory.{OutOfMemory}
use Rattle.std.proofs.lemmas.Result.{err_from_is_err_and}
use Rattle.run_commands.specs.Commands.{next_request}
use Rattle.run_stops.specs.Standing.{SettlesByOr}
use Rattle.run_stops.specs.Stopping.{owner_of}
use Rattle.run_commands.proofs.Settling.{lost, stands_behind}
use Rattle.run_commands.proofs.requests.ask.Goals as goal

pub returns-in_err-write_ask : goal.returns-in_err-write_ask
returns-in_err-write_ask g c =
    let p = err_from_is_err_and c.from_residual.result c.from_residual.ensures.1 in
    subst (λ (result : Result (Unit {0}) OutOfMemory). SettlesByOr g.c (entries.Ask c.args.driver (next_request (owner_of g.c c.args.run.now)) c.args.question) c.args.run.now c.write_ask.new.run result) (sym p.1)
    (lost g.c c.args.run.now c.write_ask.new.run c.requires.0 c.in_err-write_ask.ensures.0 c.in_err-write_ask.ensures.1)

pub answer_refused-requires : goal.answer_refused-requires
answer_refused-requires g c =
    let e = entries.Ask c.args.driver (record { 0 = c.requests.result }) c.args.question in
    stands_behind c.run_laws.ensures c.rooms_stay.ensures g.c (Asked (record { 0 = c.requests.result })) e c.args.run.now c.write_ask.new.run c.requires.0 c.requires.1.1
    (c.moves_add.ensures g.c e c.args.run.now c.write_ask.new.run c.in_ok-write_ask.ensures) refl refl refl
