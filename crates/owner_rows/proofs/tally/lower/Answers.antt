use Rattle.std.proofs.Common.{◌-◌, arith}
use Rattle.owner_rows.proofs.Rows.{written_count}
use Rattle.owner_rows.proofs.tally.lower.Goals as goal

pub returns : goal.returns
returns c = written_count (λ m. m - 1) c.args.counts.now c.args.n c.saturating_sub.result (omega arith) c.saturating_sub.ensures
