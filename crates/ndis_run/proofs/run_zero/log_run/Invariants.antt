use Rattle.ndis_run.specs.RunZero.{usual}
use Rattle.ndis_run.proofs.run_zero.log_run.Given as goal

abbrev pub ghost-run_image : goal.ghost-run_image
ghost-run_image g a = usual a.loaded.now.image
