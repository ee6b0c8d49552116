use Rattle.verdict_parts.proofs.requests.fits.Given as goal

abbrev pub ghost-written_count : goal.ghost-written_count
ghost-written_count g a = g.s
