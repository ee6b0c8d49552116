-- What is taken stays so when another range is taken, and when one beside it is given back.
use Rattle.std.proofs.Common.{⊎_elim}
use Rattle.free_ranges_tests.proofs.tests.joins.Goals as goal

pub give_back-requires-clause-taken : goal.give_back-requires-clause-taken
give_back-requires-clause-taken c = λ k within free. c.in_ok-left.ensures.change.taken k (c.in_ok-right.ensures.change.kept k free) within

pub give_back-requires-then-left_first-clause-taken : goal.give_back-requires-then-left_first-clause-taken
give_back-requires-then-left_first-clause-taken c = λ k within free.
    ⊎_elim (λ a. c.in_ok-left.ensures.change.taken k (c.in_ok-right.ensures.fit.0 k within) a) (λ was. c.in_ok-right.ensures.change.taken k was within) (c.give_back.ensures.others k free)

pub give_back-requires-else-left_first-clause-taken : goal.give_back-requires-else-left_first-clause-taken
give_back-requires-else-left_first-clause-taken c = λ k within free. c.in_ok-right.ensures.change.taken k free within

pub give_back-requires-else-left_first-2-clause-taken : goal.give_back-requires-else-left_first-2-clause-taken
give_back-requires-else-left_first-2-clause-taken c = λ k within free.
    ⊎_elim (λ a. c.in_ok-left.ensures.change.taken k (c.in_ok-right.ensures.fit.0 k a) within) (λ was. c.in_ok-left.ensures.change.taken k (c.in_ok-right.ensures.change.kept k was) within) (c.give_back-else-left_first.ensures.others k free)
