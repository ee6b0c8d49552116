use Rattle.std.proofs.Common.{◌≤◌, length, sym, ◌∙◌, arith}
use Rattle.owner_machine.specs.State.{is_resetting}
use Rattle.verdict_parts.proofs.Stands.{none_at, phase_test}
use Rattle.verdict_parts.proofs.standings.is_resetting.Goals as goal

pub returns-then-adapters-from : goal.returns-then-adapters-from
returns-then-adapters-from c =
    let beyond : length c.args.book.now.adapters ≤ c.args.a.0 = omega arith in
    sym (none_at (λ row. is_resetting row.phase) c.args.book.now.adapters c.args.a.0 beyond)

pub returns : goal.returns
returns c = c.is_reset.ensures ∙ sym (phase_test is_resetting c.args.book.now c.args.a.0 c.standing.result c.standing.ensures)
