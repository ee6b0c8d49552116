use Rattle.std.proofs.Common.{refl}
use Rattle.nd_base.specs.Layout.{rows, seen}
use Rattle.nd_base.proofs.layout_field.row_at.Goals as goal

pub row_in-requires-clause-table : goal.row_in-requires-clause-table
unfolding rows seen
row_in-requires-clause-table c = refl
