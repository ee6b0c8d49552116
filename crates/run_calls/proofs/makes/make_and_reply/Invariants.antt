use Rattle.run_calls.proofs.makes.make_and_reply.Given as goal

abbrev pub ghost-make_each : goal.ghost-make_each
ghost-make_each g a = g.v

abbrev pub ghost-reply_due : goal.ghost-reply_due
ghost-reply_due g a = g.v.inputs
