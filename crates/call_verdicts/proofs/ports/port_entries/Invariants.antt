use Rattle.call_verdicts.proofs.ports.port_entries.Given as goal

abbrev pub ghost-bytes_moved : goal.ghost-bytes_moved
ghost-bytes_moved g a = g.s
