use Rattle.run_stops.specs.Standing.{point_of}
use Rattle.run_calls.proofs.replies.reply_whole.Given as goal

abbrev pub ghost-reply : goal.ghost-reply
ghost-reply g a = point_of g.c a.self.now

abbrev pub ghost-stop_for : goal.ghost-stop_for
ghost-stop_for g a = g.c
