use Rattle.ndis_run.proofs.Forging.{stopped_in_image, stopped_in_inf}
use Rattle.ndis_run.proofs.forge_command.write_miniport.Goals as goal

pub returns-in-Err-Memory : goal.returns-in-Err-Memory
returns-in-Err-Memory g c = stopped_in_image _ _ _ _ _ _ _ _ c.in-Ok.ensures c.as_slice.ensures c.write_file.ensures.front

pub returns : goal.returns
returns g c = stopped_in_inf _ _ _ _ _ _ _ _ _ _ c.in-Ok.ensures c.as_slice.ensures c.as_slice-2.ensures c.in-Ok-write_file.ensures.ok c.write_file-2.ensures.front
