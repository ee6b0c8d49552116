use Rattle.std.proofs.Common.{◌≡◌, ◌≤◌, ◌+◌, ◌-◌, length}
use Rattle.frame_wire.specs.Reading.{first_time, frames_from, entries_of, count_of}
use Rattle.frame_wire.proofs.Loop.{counted}
use Rattle.frame_wire.proofs.reading.entry_count.Given as goal

abbrev pub invariant-loop-rest : goal.invariant-loop-rest
invariant-loop-rest l = record {
  so_far : counted l.count (frames_from l.order (first_time l.order l.bytes) l.last l.at (65536 - l.count) l.rest) ≡ count_of (entries_of l.order l.bytes);
  count : l.count ≤ 65536;
  inside : l.at + length l.rest ≤ 24 + length l.bytes;
}

abbrev pub decreases-loop-rest : goal.decreases-loop-rest
decreases-loop-rest l = length l.rest
