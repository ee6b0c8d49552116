use Rattle.legal_run.specs.After.{import_of}
use Rattle.run_stops.specs.Standing.{point_of, state_of}
use Rattle.run_calls.proofs.calls.answer_at_once.Given as goal

abbrev pub ghost-write_call : goal.ghost-write_call
ghost-write_call g a = point_of g.c a.run.now

abbrev pub ghost-make_and_reply : goal.ghost-make_and_reply
ghost-make_and_reply g a = record { inputs = g.c; context = a.x; import = import_of (state_of g.c a.run.now) a.x; reply = a.reply }
