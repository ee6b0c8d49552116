use Rattle.std.proofs.Common.{◌∙◌}
use Rattle.run_rests.proofs.Owing.{some_enters}
use Rattle.run_rests.proofs.resting.some_enters.Goals as goal

pub returns : goal.returns
returns g c = c.is_some.ensures ∙ some_enters g.o.inputs g.o.state c.next_enter.result c.owed_laws.ensures c.next_enter.ensures
