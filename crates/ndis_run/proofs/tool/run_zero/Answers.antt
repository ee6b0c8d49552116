use Rattle.ndis_run.specs.RunZero.{ran, refused}
use Rattle.ndis_run.proofs.Lines.{prints_same}
use Rattle.ndis_run.proofs.tool.run_zero.Goals as goal

pub returns-in-Ok : goal.returns-in-Ok
returns-in-Ok g c = ran c.in-Ok.finished.ending c.in-Ok.finished.charged c.in-Ok.ensures c.tell_end.ensures

pub returns-in-Err-Refused : goal.returns-in-Err-Refused
returns-in-Err-Refused g c = refused c.in-Err-Refused.line (rw c.in-Err-Refused.field-0-is at c.in-Err-Refused.ensures) (prints_same _ _ _ _ _ _ _ c.as_slice.ensures c.tell.ensures)
