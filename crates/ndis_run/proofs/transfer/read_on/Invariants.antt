use Rattle.std.proofs.Common.{◌≡◌, ◌≤◌, ◌+◌, ◌-◌, Some, take, length, IsTrue}
use Rattle.nd_base.specs.Files.{Kept, bytes_at, OnlyReads}
use Rattle.ndis_run.proofs.transfer.read_on.Given as goal

abbrev pub invariant-loop-bytes : goal.invariant-loop-bytes
invariant-loop-bytes g l = record {
  within : length l.bytes.items ≤ l.limit;
  readable : IsTrue (g.F.Files.may_read l.files l.name);
  told : (m : Kept) → g.F.Files.kept l.fn.files ≡ Some m → l.bytes.items ≡ take (length l.bytes.items) (bytes_at m l.name);
  quiet : g.F.Files.read_faults l.files ≡ g.F.Files.read_faults l.fn.files;
  only : OnlyReads g.F.Files.kept g.F.Files.read_faults g.F.Files.write_faults g.F.Files.may_read g.F.Files.may_write l.fn.files l.files;
}

abbrev pub decreases-loop-bytes : goal.decreases-loop-bytes
decreases-loop-bytes g l = l.limit + 1 - length l.bytes.items
