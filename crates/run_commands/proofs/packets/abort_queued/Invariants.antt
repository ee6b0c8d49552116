use Rattle.std.specs.Prelude.{count_by}
use Rattle.owner_machine.specs.Packets.{queued_with_id}
use Rattle.run_stops.specs.Stopping.{owner_of}
use Rattle.run_commands.proofs.Cancels.{IsAborting}
use Rattle.run_commands.proofs.packets.abort_queued.Given as goal

abbrev pub ghost-abort_one : goal.ghost-abort_one
ghost-abort_one g a = g.c

abbrev pub invariant-aborts : goal.invariant-aborts
invariant-aborts g l = IsAborting g.c l.fn.driver l.fn.id l.fn.run l.run

abbrev pub decreases-aborts : goal.decreases-aborts
decreases-aborts g l = count_by (queued_with_id l.fn.driver.0 l.fn.id) (owner_of g.c l.run).packets
