use Rattle.std.proofs.Common.{◌≤◌, length, sym, arith}
use Rattle.std.specs.Prelude.{not}
use Rattle.verdict_parts.proofs.Stands.{none_at}
use Rattle.verdict_parts.proofs.standings.is_serialized.Goals as goal

pub returns-then-adapters-from : goal.returns-then-adapters-from
returns-then-adapters-from c =
    let beyond : length c.args.book.now.adapters ≤ c.args.a.0 = omega arith in
    sym (none_at (λ row. not row.deserialized) c.args.book.now.adapters c.args.a.0 beyond)
