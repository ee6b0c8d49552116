use Rattle.nd_base.proofs.FileCalls.{bytes_at-insert, bytes_at-insert_other, insert-insert}
use Rattle.nd_base.proofs.laws.set_files_are_kept.Goals as goal

pub returns : goal.returns
returns c = record { set = bytes_at-insert; others = bytes_at-insert_other; last = insert-insert }
