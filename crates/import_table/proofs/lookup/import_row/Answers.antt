use Rattle.std.proofs.Common.{refl}
use Rattle.log_fields.specs.Names.{import_name, import_names}
use Rattle.import_table.specs.Table.{rows}
use Rattle.import_table.proofs.lookup.import_row.Goals as goal

pub row_in-requires-clause-table : goal.row_in-requires-clause-table
unfolding rows import_name import_names
row_in-requires-clause-table c = refl
