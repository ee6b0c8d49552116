use Rattle.nd_mem.proofs.Laws.{fault_none, fault_none_at, fault_split, fault_wrapped, fault_put, fault_put_at, fault_any, fault_low}
use Rattle.nd_mem.proofs.SpaceLaws.{first_is, first_has}
use Rattle.nd_mem.proofs.space_laws.fault_laws.Goals as goal

pub returns : goal.returns
returns c = record {
  none = fault_none;
  none_at = fault_none_at;
  first = first_is;
  first_at = first_has;
  split = fault_split;
  wraps = fault_wrapped;
  written = fault_put;
  written_at = fault_put_at;
  mapped = fault_any;
  low = fault_low;
}
