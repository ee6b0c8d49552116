use Rattle.std.proofs.Common.{◌∙◌, ap, Err, refl}
use Rattle.ndis_run.specs.Prints.{failed, whole}
use Rattle.ndis_run.proofs.Lines.{broken_by_memory, first_alone, forgotten, prints_same}
use Rattle.ndis_run.proofs.printing.tell_unwritten.Goals as goal

pub returns-in_default : goal.returns-in_default
returns-in_default g c = forgotten _ _ _ _ _ _ c.tell_memory.ensures.told

pub returns-in-Err-Failed : goal.returns-in-Err-Failed
returns-in-Err-Failed g c = prints_same _ _ _ _ _ _ _ (c.as_bytes.ensures.value ∙ c.in-Ok.ensures)
    (failed refl (c.in-Err-Failed.ensures.cause (ap Err c.in-Err-Failed.field-0-is)) (first_alone _ _ _ c.print.ensures.front))
