use Rattle.std.proofs.Common.{◌≡◌, take}
use Rattle.dp8390.specs.Ring.{put_bytes}
use Rattle.dp8390.proofs.board.Board.put_bytes.Given as goal

abbrev pub invariant-loop-byte : goal.invariant-loop-byte
invariant-loop-byte l =
    let put = put_bytes l.initial.self.registers (l.initial.self.memory, l.start) (take l.byte-index l.bytes) in record {
      memory : l.self ≡ record l.initial.self { memory = put.0 };
      next : l.next ≡ put.1;
    }
