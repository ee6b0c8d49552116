use Rattle.run_stops.specs.Standing.{point_of}
use Rattle.run_commands.proofs.requests.answer_refused.Given as goal

abbrev pub ghost-answer_without : goal.ghost-answer_without
ghost-answer_without g a = point_of g.c a.run.now
