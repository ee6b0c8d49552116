use Rattle.std.proofs.Common.{Result, refl, sym, subst}
use Rattle.std.proofs.lemmas.Result.{err_from_is_err_and}
use Rattle.nd_base.specs.declared.OutOfMemory.{OutOfMemory}
use Rattle.call_log.specs.declared.entry.Entry.TheVariants as entries
use Rattle.owner_machine.specs.declared.rows.Next.TheVariants.{Sent}
use Rattle.run_stops.specs.Standing.{SettlesByOr}
use Rattle.run_stops.specs.Stopping.{owner_of}
use Rattle.run_commands.specs.Commands.{next_packet}
use Rattle.run_commands.proofs.Settling.{lost, stands_behind}
use Rattle.run_commands.proofs.packets.send.Goals as goal

pub returns-in_err-write_send : goal.returns-in_err-write_send
returns-in_err-write_send g c =
    let p = err_from_is_err_and c.from_residual.result c.from_residual.ensures.1 in
    subst (λ (result : Result (Unit {0}) OutOfMemory). SettlesByOr g.c (entries.Send c.args.driver (next_packet (owner_of g.c c.args.run.now)) c.args.bytes) c.args.run.now c.write_send.new.run result) (sym p.1)
    (lost g.c c.args.run.now c.write_send.new.run c.requires.0 c.in_err-write_send.ensures.0 c.in_err-write_send.ensures.1)

pub complete_refused-requires : goal.complete_refused-requires
complete_refused-requires g c =
    let e = entries.Send c.args.driver (record { 0 = c.packets.result }) c.args.bytes in
    stands_behind c.run_laws.ensures c.rooms_stay.ensures g.c (Sent (record { 0 = c.packets.result })) e c.args.run.now c.write_send.new.run c.requires.0 c.requires.1.1
    (c.moves_add.ensures g.c e c.args.run.now c.write_send.new.run c.in_ok-write_send.ensures) refl refl refl
