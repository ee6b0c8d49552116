use Rattle.ndis_run.specs.Showing.{shown}
use Rattle.ndis_run.specs.Shown.{answer}
use Rattle.ndis_run.proofs.Lines.{prints_same}
use Rattle.ndis_run.proofs.tool.tell_image.Goals as goal

pub returns-in-Ok : goal.returns-in-Ok
returns-in-Ok g c = shown (answer c.in-Ok.answer.status c.in-Ok.answer.text) c.in-Ok.ensures (prints_same _ _ _ _ _ _ _ c.as_slice.ensures c.tell.ensures)
