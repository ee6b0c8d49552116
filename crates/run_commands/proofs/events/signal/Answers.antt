use Rattle.std.proofs.Common.{Result, refl, sym, subst}
use Rattle.std.proofs.lemmas.Result.{err_from_is_err_and}
use Rattle.nd_base.specs.declared.OutOfMemory.{OutOfMemory}
use Rattle.call_log.specs.declared.entry.Entry.TheVariants as entries
use Rattle.run_stops.specs.Standing.{SettlesByOr}
use Rattle.run_commands.proofs.Settling.{lost, settles_by}
use Rattle.run_commands.proofs.events.signal.Goals as goal

pub returns-in_err-write_event : goal.returns-in_err-write_event
returns-in_err-write_event g c =
    let p = err_from_is_err_and c.from_residual.result c.from_residual.ensures.1 in
    subst (λ (result : Result (Unit {0}) OutOfMemory). SettlesByOr g.c (entries.Event c.args.driver c.args.number c.args.bytes c.args.taken) c.args.run.now c.write_event.new.run result) (sym p.1)
    (lost g.c c.args.run.now c.write_event.new.run c.requires.0 c.in_err-write_event.ensures.0 c.in_err-write_event.ensures.1)

pub returns : goal.returns
returns g c =
    let e = entries.Event c.args.driver c.args.number c.args.bytes c.args.taken in
    settles_by c.run_laws.ensures c.rooms_stay.ensures g.c e c.args.run.now c.write_event.new.run c.requires.0 c.requires.1.1 (c.moves_add.ensures g.c e c.args.run.now c.write_event.new.run c.in_ok-write_event.ensures) refl refl refl refl
