use Rattle.miniport.proofs.replies.reply.Given as goal

abbrev pub ghost-used : goal.ghost-used
ghost-used g a = g.o

abbrev pub ghost-quiet_if_off : goal.ghost-quiet_if_off
ghost-quiet_if_off g a = g.o.state

abbrev pub ghost-write : goal.ghost-write
ghost-write g a = g.o

abbrev pub ghost-tell_handlers : goal.ghost-tell_handlers
ghost-tell_handlers g a = record g.o.state { world = a.world.now }

abbrev pub ghost-charge : goal.ghost-charge
ghost-charge g a = record { inputs = g.o.inputs; state = record g.o.state { contexts = a.adapters.now.contexts } }
