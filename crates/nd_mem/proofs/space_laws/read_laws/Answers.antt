use Rattle.nd_mem.proofs.Laws.{length_bytes, get_bytes, bytes_split, bytes_wrapped, bytes_same, read_after_write, read_apart}
use Rattle.nd_mem.proofs.space_laws.read_laws.Goals as goal

pub returns : goal.returns
returns c = record {
  count = length_bytes;
  byte = λ cells a n k less. get_bytes cells a n k 0 less;
  split = bytes_split;
  wraps = bytes_wrapped;
  same = bytes_same;
  written = read_after_write;
  others = read_apart;
}
