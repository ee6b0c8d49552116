use Rattle.std.proofs.Common.{◌≡◌, take}
use Rattle.dp8390.specs.RemoteDma.{after_data_writes}
use Rattle.dp8390.proofs.board.Board.write_data.Given as goal

abbrev pub invariant-loop-byte : goal.invariant-loop-byte
invariant-loop-byte l = l.self ≡ after_data_writes l.initial.self (take l.byte-index l.bytes)
