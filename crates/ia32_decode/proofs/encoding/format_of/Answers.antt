use Rattle.std.proofs.Common.{true, false}
use Rattle.std.proofs.lemmas.Bool.{false≢true}
use Rattle.ia32_decode.proofs.encoding.format_of.Goals as goal

pub returns-in-None-clause-first : goal.returns-in-None-clause-first
returns-in-None-clause-first c true opcode tail low h = c.format_behind-in-None.ensures.first opcode tail low h
returns-in-None-clause-first c false opcode tail low h = absurd (false≢true (c.in-None.ensures.first opcode tail low h))

pub returns-in-None-clause-second : goal.returns-in-None-clause-second
returns-in-None-clause-second c true opcode tail low h = c.format_behind-in-None.ensures.second opcode tail low h
returns-in-None-clause-second c false opcode tail low h = absurd (false≢true (c.in-None.ensures.second opcode tail low h))
