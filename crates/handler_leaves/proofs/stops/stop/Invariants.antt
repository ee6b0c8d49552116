use Rattle.std.proofs.Common.{◌≡◌, drop}
use Rattle.std.specs.Prelude.{filter}
use Rattle.legal_run.specs.State.{all_contexts}
use Rattle.legal_run.specs.After.{all_ended, ends_context, quieted}
use Rattle.handler_leaves.proofs.stops.stop.Given as goal

abbrev pub ghost-is_last : goal.ghost-is_last
ghost-is_last g a = g.o

abbrev pub ghost-ends : goal.ghost-ends
ghost-ends g a = g.o

-- what is left to do leads to what is left
abbrev pub invariant-loop-n : goal.invariant-loop-n
invariant-loop-n g l =
    all_ended l.world (filter (ends_context g.o.inputs g.o.state l.fn.a.0) (drop l.n all_contexts))
    ≡ all_ended (quieted g.o.state g.o.state.world l.fn.a.0) (filter (ends_context g.o.inputs g.o.state l.fn.a.0) all_contexts)
