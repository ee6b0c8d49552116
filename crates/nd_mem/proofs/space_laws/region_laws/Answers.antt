use Rattle.nd_mem.proofs.Laws.{get_zeros, read_zeros, read_zeros_out, fault_zeros_in, fault_zeros_out, mapped_none, mapped_none_at}
use Rattle.nd_mem.proofs.SpaceLaws.{region_taken, region_taken_at, region_overlaps, region_written}
use Rattle.nd_mem.proofs.space_laws.region_laws.Goals as goal

pub returns : goal.returns
returns c = record {
  found = get_zeros;
  zeros = read_zeros;
  allowed = fault_zeros_in;
  others = read_zeros_out;
  faults = fault_zeros_out;
  taken = region_taken;
  taken_at = region_taken_at;
  overlaps = region_overlaps;
  free = mapped_none;
  free_at = mapped_none_at;
  written = region_written;
}
