use Rattle.run_calls.proofs.asking.judged.Given as goal

abbrev pub ghost-made : goal.ghost-made
ghost-made g a = g.o.state
