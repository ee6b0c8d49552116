use Rattle.std.proofs.Common.{◌≡◌, ◌+◌, take}
use Rattle.nd_mem.specs.Space.{wrapped, put_from}
use Rattle.guest_writes.proofs.puts.put_each.Given as goal

abbrev pub invariant-loop-byte : goal.invariant-loop-byte
invariant-loop-byte l = record {
  next : l.next ≡ wrapped (l.fn.at.0 + l.byte-index);
  memory : l.memory ≡ put_from l.fn.memory l.fn.at.0 (take l.byte-index l.bytes);
}
