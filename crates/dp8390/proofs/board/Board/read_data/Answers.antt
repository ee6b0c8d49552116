use Rattle.std.proofs.Common.{◌∙◌, refl, arith}
use Rattle.std.proofs.lemmas.List.{take_more_set}
use Rattle.dp8390.specs.RemoteDma.{data_bytes, after_data_reads}
use Rattle.dp8390.proofs.DataPort.{data_bytes_more, data_reads_more}
use Rattle.dp8390.proofs.board.Board.read_data.Goals as goal

pub loop-byte-init : goal.loop-byte-init
unfolding data_bytes after_data_reads
loop-byte-init c = record { bytes = refl; board = refl }

pub loop-byte-preserved : goal.loop-byte-preserved
loop-byte-preserved c =
    let b = c.args.self.now in
    let n = c.loop-byte.byte-index in record {
      bytes = take_more_set c.loop-byte.out n c.read_data_byte.result (omega arith)
          ∙ rw (data_bytes_more b n, c.loop-byte.invariant.bytes, c.read_data_byte.ensures.value, c.loop-byte.invariant.board) refl;
      board = rw (data_reads_more b n, c.read_data_byte.ensures.after, c.loop-byte.invariant.board) refl;
    }
