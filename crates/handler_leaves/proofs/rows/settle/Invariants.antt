use Rattle.handler_leaves.proofs.rows.settle.Given as goal

abbrev pub ghost-hang_period : goal.ghost-hang_period
ghost-hang_period g a = g.o.state

abbrev pub ghost-set_check : goal.ghost-set_check
ghost-set_check g a = g.o

abbrev pub ghost-recognized : goal.ghost-recognized
ghost-recognized g a = g.o.state

abbrev pub ghost-set_enables : goal.ghost-set_enables
ghost-set_enables g a = g.o

abbrev pub ghost-set_wait : goal.ghost-set_wait
ghost-set_wait g a = g.o
