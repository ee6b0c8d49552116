use Rattle.verdict_parts.proofs.requests.answer.Given as goal

abbrev pub ghost-answer_bytes : goal.ghost-answer_bytes
ghost-answer_bytes g a = g.s
