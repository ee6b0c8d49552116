use Rattle.run_stops.specs.Standing.{point_of}
use Rattle.run_commands.proofs.requests.ask.Given as goal

abbrev pub ghost-write_ask : goal.ghost-write_ask
ghost-write_ask g a = point_of g.c a.run.now

abbrev pub ghost-answer_refused : goal.ghost-answer_refused
ghost-answer_refused g a = g.c
