use Rattle.std.proofs.Common.{ap, Err, refl}
use Rattle.ndis_run.specs.Prints.{whole, failed}
use Rattle.ndis_run.proofs.Lines.{broken_by_memory, fronts_of}
use Rattle.ndis_run.proofs.printing.tell.Goals as goal

pub returns-in-Ok : goal.returns-in-Ok
returns-in-Ok g c = whole refl c.in-Ok.ensures.ok c.in-Ok.ensures.quiet

pub returns-in-Err-Memory : goal.returns-in-Err-Memory
returns-in-Err-Memory g c = broken_by_memory _ _ _ _ _ _ _ c.print.ensures.front c.tell_memory.ensures.told

pub returns-in-Err-Failed : goal.returns-in-Err-Failed
returns-in-Err-Failed g c = failed c.tell_unprinted.ensures.status
    (c.risen_counts_stay_risen.ensures.later _ _ _ c.print.ensures.later c.tell_unprinted.ensures.later (c.in-Err-Failed.ensures.cause (ap Err c.in-Err-Failed.field-0-is)))
    (fronts_of _ _ _ _ _ c.print.ensures.front c.tell_unprinted.ensures.front)
