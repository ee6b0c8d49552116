use Rattle.verdict_parts.proofs.requests.answer_bytes.Given as goal

abbrev pub ghost-written_count : goal.ghost-written_count
ghost-written_count g a = g.s
