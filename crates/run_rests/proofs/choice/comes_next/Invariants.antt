use Rattle.run_rests.proofs.choice.comes_next.Given as goal

abbrev pub ghost-frame_due : goal.ghost-frame_due
ghost-frame_due g a = g.o

abbrev pub ghost-next_enter : goal.ghost-next_enter
ghost-next_enter g a = g.o

abbrev pub ghost-ready : goal.ghost-ready
ghost-ready g a = g.o

abbrev pub ghost-at_rest : goal.ghost-at_rest
ghost-at_rest g a = g.o
