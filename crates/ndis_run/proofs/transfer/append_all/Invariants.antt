use Rattle.std.proofs.Common.{◌≡◌, ◌≤◌, ◌-◌, ◌++◌, ℕ, List, Some, take, length, IsTrue}
use Rattle.std.specs.FinMap.{insert}
use Rattle.nd_base.specs.Files.{Kept, OnlyWrites}
use Rattle.ndis_run.proofs.transfer.append_all.Given as goal

abbrev pub invariant-loop-done : goal.invariant-loop-done
invariant-loop-done g l = record {
  within : l.done ≤ length l.bytes;
  writable : IsTrue (g.F.Files.may_write l.files l.name);
  told : (m : Kept) (before : List ℕ) → g.F.Files.kept l.fn.files ≡ Some (insert m l.name before) → g.F.Files.kept l.files ≡ Some (insert m l.name (before ++ take l.done l.bytes));
  quiet : g.F.Files.write_faults l.files ≡ g.F.Files.write_faults l.fn.files;
  only : OnlyWrites g.F.Files.read_faults g.F.Files.write_faults g.F.Files.may_read g.F.Files.may_write l.fn.files l.files;
}

abbrev pub decreases-loop-done : goal.decreases-loop-done
decreases-loop-done g l = length l.bytes - l.done
