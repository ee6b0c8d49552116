use Rattle.std.proofs.Common.{arith}
use Rattle.import_table.proofs.NumberedRows.{found}
use Rattle.import_table.proofs.lookup.row_in.Goals as goal

pub returns : goal.returns
returns c = found c.args.table.now c.args.n _ c.requires.table (omega arith)
