use Rattle.call_verdicts.proofs.calls.served.Given as goal

abbrev pub ghost-send_complete : goal.ghost-send_complete
ghost-send_complete g a = g.s

abbrev pub ghost-indication : goal.ghost-indication
ghost-indication g a = g.s

abbrev pub ghost-reset_end : goal.ghost-reset_end
ghost-reset_end g a = g.s

abbrev pub ghost-request_end : goal.ghost-request_end
ghost-request_end g a = g.s

abbrev pub ghost-port_deed : goal.ghost-port_deed
ghost-port_deed g a = g.s
