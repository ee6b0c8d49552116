use Rattle.run_calls.proofs.replies.reply_due.Given as goal

abbrev pub ghost-reply_whole : goal.ghost-reply_whole
ghost-reply_whole g a = g.c
