use Rattle.std.proofs.Common.{◌∙◌}
use Rattle.ndis_run.proofs.Lines.{forgotten, prints_same}
use Rattle.ndis_run.proofs.printing.tell_unread.Goals as goal

pub returns-in-Ok : goal.returns-in-Ok
returns-in-Ok g c = prints_same _ _ _ _ _ _ _ (c.as_bytes.ensures.value ∙ c.in-Ok.ensures) c.tell.ensures

pub returns-in-Err : goal.returns-in-Err
returns-in-Err g c = forgotten _ _ _ _ _ _ c.tell_memory.ensures.told
