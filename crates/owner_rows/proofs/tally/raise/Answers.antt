use Rattle.std.proofs.Common.{◌+◌, refl, arith}
use Rattle.owner_rows.proofs.Rows.{written_count}
use Rattle.owner_rows.proofs.tally.raise.Goals as goal

pub returns : goal.returns
returns c = written_count (λ m. m + 1) c.args.counts.now c.args.n _ (omega arith) refl
