use Rattle.std.proofs.Common.{◌≡◌, take}
use Rattle.legal_run.specs.Guest.{with_writes}
use Rattle.guest_writes.proofs.puts.put_all.Given as goal

abbrev pub invariant-loop-write : goal.invariant-loop-write
invariant-loop-write l = record { memory : l.memory ≡ with_writes l.fn.memory (take l.write-index l.writes) }
