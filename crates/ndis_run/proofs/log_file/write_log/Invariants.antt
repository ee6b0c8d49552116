use Rattle.std.proofs.Common.{◌≡◌, ◌≤◌, ◌-◌, Some, take, length, IsTrue}
use Rattle.std.specs.FinMap.{insert}
use Rattle.nd_base.specs.Files.{Kept, OnlyWrites}
use Rattle.call_log.specs.Lines.{log_text}
use Rattle.ndis_run.proofs.log_file.write_log.Given as goal

abbrev pub invariant-loop-done : goal.invariant-loop-done
invariant-loop-done g l = record {
  within : l.done ≤ length l.log.entries;
  writable : IsTrue (g.F.Files.may_write l.files l.name);
  told : (m : Kept) → g.F.Files.kept l.fn.files ≡ Some m → g.F.Files.kept l.files ≡ Some (insert m l.name (log_text (take l.done l.log.entries)));
  quiet : g.F.Files.write_faults l.files ≡ g.F.Files.write_faults l.fn.files;
  only : OnlyWrites g.F.Files.read_faults g.F.Files.write_faults g.F.Files.may_read g.F.Files.may_write l.fn.files l.files;
}

abbrev pub decreases-loop-done : goal.decreases-loop-done
decreases-loop-done g l = length l.log.entries - l.done
