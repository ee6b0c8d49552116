use Rattle.call_verdicts.proofs.ports.port_deed.Given as goal

abbrev pub ghost-offset_of_port : goal.ghost-offset_of_port
ghost-offset_of_port g a = g.s

abbrev pub ghost-port_entries : goal.ghost-port_entries
ghost-port_entries g a = g.s
