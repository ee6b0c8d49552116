use Rattle.ndis_run.proofs.run_zero.run_image.Given as goal

abbrev pub ghost-finish : goal.ghost-finish
ghost-finish g a = g.setting
