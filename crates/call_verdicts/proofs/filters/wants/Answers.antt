use Rattle.std.proofs.Common.{sym, ◌∙◌}
use Rattle.call_verdicts.proofs.Addresses.{wants_when}
use Rattle.call_verdicts.proofs.filters.wants.Goals as goal

pub returns-then-own : goal.returns-then-own
returns-then-own c = wants_when c.args.a c.args.bytes.now c.args.driver.now c.as_slice.result.now c.destination.result.now c.takes.result (sym c.is_bound-bound.ensures ∙ c.if-bound.true) c.if-own.true c.as_slice.ensures c.destination.ensures c.takes.ensures
