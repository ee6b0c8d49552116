use Rattle.std.proofs.Common.{◌≡◌, true, false, not, is_some, sym, ap, ◌∙◌}
use Rattle.owner_machine.specs.State.{phase_is, is_running}
use Rattle.legal_run.specs.State.{is_serving}
use Rattle.owed_handlers.specs.Kept.{state_of}
use Rattle.owed_handlers.proofs.Stands.{phase_test, sends_is, asks_is, row, row_without}
use Rattle.owed_handlers.proofs.rows.owed_row.Goals as goal

pub returns-in-Sync : goal.returns-in-Sync
returns-in-Sync c = rw c.in-Sync.is (c.is_some.ensures ∙ ap is_some (c.sync_caller.ensures c.args.world.now))

pub returns-then-serving-3 : goal.returns-then-serving-3
returns-then-serving-3 c =
    let serves : phase_is is_serving c.args.book.now c.args.a.0 ≡ true = phase_test is_serving c.args.book.now c.args.a.0 c.args.standing.now c.requires ∙ sym c.is_serving-serving.ensures ∙ c.if-serving-3.true in
    rw c.in-Timer.is (row _ _ _ serves (c.has_due_timer.ensures (state_of c.args.adapters.now c.args.book.now c.args.world.now)))

pub returns-then-running-3 : goal.returns-then-running-3
returns-then-running-3 c =
    let runs : phase_is is_running c.args.book.now c.args.a.0 ≡ true = phase_test is_running c.args.book.now c.args.a.0 c.args.standing.now c.requires ∙ sym c.is_running-running.ensures ∙ c.if-running-3.true in
    rw c.in-Query.is (row _ _ _ runs (c.asks.ensures ∙ sym (asks_is false (state_of c.args.adapters.now c.args.book.now c.args.world.now) c.args.a.0 c.args.standing.now c.requires)))

pub returns-then-standing : goal.returns-then-standing
returns-then-standing c =
    let runs : phase_is is_running c.args.book.now c.args.a.0 ≡ true = phase_test is_running c.args.book.now c.args.a.0 c.args.standing.now c.requires ∙ sym c.is_running-running.ensures ∙ c.if-running-5.true in
    let sends = sends_is c.args.book.now c.args.a.0 c.args.standing.now c.requires ∙ c.if-standing.true in
    rw c.in-Send.is (row _ _ _ runs (row _ _ _ sends (ap not c.has_handler.ensures)))

pub returns-else-standing : goal.returns-else-standing
returns-else-standing c =
    let runs : phase_is is_running c.args.book.now c.args.a.0 ≡ true = phase_test is_running c.args.book.now c.args.a.0 c.args.standing.now c.requires ∙ sym c.is_running-running.ensures ∙ c.if-running-5.true in
    let sends = sends_is c.args.book.now c.args.a.0 c.args.standing.now c.requires ∙ c.if-standing.false in
    rw c.in-Send.is (row_without _ _ _ _ runs sends c.if-standing.false)

pub returns-then-standing-2 : goal.returns-then-standing-2
returns-then-standing-2 c =
    let runs : phase_is is_running c.args.book.now c.args.a.0 ≡ true = phase_test is_running c.args.book.now c.args.a.0 c.args.standing.now c.requires ∙ sym c.is_running-running.ensures ∙ c.if-running-6.true in
    let sends = sends_is c.args.book.now c.args.a.0 c.args.standing.now c.requires ∙ c.if-standing-2.true in
    rw c.in-SendPackets.is (row _ _ _ runs (row _ _ _ sends c.has_handler-then-standing-2.ensures))

pub returns-else-standing-2 : goal.returns-else-standing-2
returns-else-standing-2 c =
    let runs : phase_is is_running c.args.book.now c.args.a.0 ≡ true = phase_test is_running c.args.book.now c.args.a.0 c.args.standing.now c.requires ∙ sym c.is_running-running.ensures ∙ c.if-running-6.true in
    let sends = sends_is c.args.book.now c.args.a.0 c.args.standing.now c.requires ∙ c.if-standing-2.false in
    rw c.in-SendPackets.is (row_without _ _ _ _ runs sends c.if-standing-2.false)

pub returns-then-running-7 : goal.returns-then-running-7
returns-then-running-7 c =
    let runs : phase_is is_running c.args.book.now c.args.a.0 ≡ true = phase_test is_running c.args.book.now c.args.a.0 c.args.standing.now c.requires ∙ sym c.is_running-running.ensures ∙ c.if-running-7.true in
    rw c.in-CheckForHang.is (row _ _ _ runs (c.is_hang_check_due.ensures (state_of c.args.adapters.now c.args.book.now c.args.world.now)))
