use Rattle.std.proofs.Common.{◌∙◌, ap, Err, inl, refl}
use Rattle.ndis_run.proofs.Logging.{logged, not_run, stopped}
use Rattle.ndis_run.proofs.run_zero.log_run.Goals as goal

pub returns-in-Err : goal.returns-in-Err
returns-in-Err g c = not_run _ _ _ _ _ c.in-Err.ensures.refused c.in-Err.ensures.not_written c.in-Err.ensures.cause c.in-Err.ensures.quiet_refusal c.read_image.ensures.only.same_files c.read_image.ensures.only.same_write_faults
