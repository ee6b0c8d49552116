use Rattle.std.proofs.Common.{◌≡◌, ◌+◌, ◌*◌, take}
use Rattle.std.specs.List.{flat_map}
use Rattle.std.specs.Int.{to_le_bytes, w32}
use Rattle.nd_mem.specs.Space.{put_from}
use Rattle.handler_entries.proofs.stacks.put_words.Given as goal

abbrev pub invariant-loop-word : goal.invariant-loop-word
invariant-loop-word l = record {
  next : l.next ≡ l.at + 4 * l.word-index;
  memory : l.memory ≡ put_from l.fn.memory l.at (flat_map (to_le_bytes w32) (take l.word-index l.words));
}
