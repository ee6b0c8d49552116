use Rattle.run_commands.proofs.packets.cancel.Given as goal

abbrev pub ghost-cancel_all : goal.ghost-cancel_all
ghost-cancel_all g a = g.c
