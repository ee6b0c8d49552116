use Rattle.call_replies.proofs.Undo.{block_undone, descriptor_undone}
use Rattle.call_replies.proofs.laws.undo_laws.Goals as goal

pub returns : goal.returns
returns c = record { block = block_undone c.room_laws.ensures; descriptor = descriptor_undone }
