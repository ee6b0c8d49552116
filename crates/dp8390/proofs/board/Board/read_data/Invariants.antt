use Rattle.std.proofs.Common.{◌≡◌, take}
use Rattle.dp8390.specs.RemoteDma.{after_data_reads, data_bytes}
use Rattle.dp8390.proofs.board.Board.read_data.Given as goal

abbrev pub invariant-loop-byte : goal.invariant-loop-byte
invariant-loop-byte l = record {
  bytes : take l.byte-index l.out ≡ data_bytes l.initial.self l.byte-index;
  board : l.self ≡ after_data_reads l.initial.self l.byte-index;
}
