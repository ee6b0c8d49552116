-- One byte more of an access to the data port.
use Rattle.std.proofs.Common.{◌≡◌, ℕ, ◌+◌, [], ◌∷◌, ◌++◌, refl, add-one}
use Rattle.dp8390.specs.declared.board.Board.{Board}
use Rattle.dp8390.specs.RemoteDma.{data_byte, data_bytes, after_data_read, after_data_reads}

pub data_bytes_more : (b : Board) (n : ℕ) → data_bytes b (n + 1) ≡ data_bytes b n ++ data_byte (after_data_reads b n) ∷ []
unfolding data_bytes
data_bytes_more b n = rw add-one refl

pub data_reads_more : (b : Board) (n : ℕ) → after_data_reads b (n + 1) ≡ after_data_read (after_data_reads b n)
unfolding after_data_reads
data_reads_more b n = rw add-one refl
