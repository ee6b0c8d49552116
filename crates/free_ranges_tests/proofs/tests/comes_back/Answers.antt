use Rattle.free_ranges_tests.proofs.tests.comes_back.Goals as goal

pub give_back-requires-clause-taken : goal.give_back-requires-clause-taken
give_back-requires-clause-taken c = λ k within free. c.in_ok-first.ensures.change.taken k free within
