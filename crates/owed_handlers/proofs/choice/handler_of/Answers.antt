use Rattle.std.proofs.Common.{sym, ◌∙◌, ◌≤◌, length, arith}
use Rattle.legal_run.specs.State.{is_alive}
use Rattle.owed_handlers.specs.Kept.{inputs_of, state_of}
use Rattle.owed_handlers.proofs.Found.{nothing_of}
use Rattle.owed_handlers.proofs.Stands.{phase_test, not_there}
use Rattle.owed_handlers.proofs.choice.handler_of.Goals as goal

pub returns-then-adapters-from : goal.returns-then-adapters-from
returns-then-adapters-from c =
    let beyond : length c.args.book.now.adapters ≤ c.args.a.0 = omega arith in
    sym (nothing_of (inputs_of c.args.adapters.now) (state_of c.args.adapters.now c.args.book.now c.args.world.now) c.args.a.0 c.args.handlers.now (not_there is_alive c.args.book.now c.args.a.0 beyond))

pub returns-else-is_alive : goal.returns-else-is_alive
returns-else-is_alive c =
    let dead = phase_test is_alive c.args.book.now c.args.a.0 c.standing-standing.result c.standing-standing.ensures ∙ sym c.is_alive.ensures ∙ c.if-is_alive.false in
    sym (nothing_of (inputs_of c.args.adapters.now) (state_of c.args.adapters.now c.args.book.now c.args.world.now) c.args.a.0 c.args.handlers.now dead)
