use Rattle.legal_run.specs.State.{start}
use Rattle.run_stops.specs.Standing.{point_of}
use Rattle.run_enters.proofs.homes.enter_home.Given as goal

abbrev pub ghost-loan_named : goal.ghost-loan_named
ghost-loan_named g a = record (start g.c) { owner = a.book.now; lent = a.lent.now }

abbrev pub ghost-enter_ready : goal.ghost-enter_ready
ghost-enter_ready g a = g.c

abbrev pub ghost-back : goal.ghost-back
ghost-back g a = point_of g.c a.self.now
