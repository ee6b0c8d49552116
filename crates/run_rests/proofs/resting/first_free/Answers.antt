use Rattle.std.proofs.Common.{◌≤◌, sym, ◌∙◌, arith}
use Rattle.owner_machine.specs.State.{at}
use Rattle.legal_run.specs.State.{is_free_context}
use Rattle.run_rests.proofs.Lowest.{first_more, first_found, none_found}
use Rattle.run_rests.proofs.resting.first_free.Goals as goal

pub returns-then-is_free : goal.returns-then-is_free
returns-then-is_free c = sym (c.loop-n.invariant ∙ first_found (at is_free_context c.args.book.now.contexts) c.loop-n.n 16 c.loop-n-test.true (sym c.is_free.ensures ∙ c.if-is_free.true))

pub loop-n-preserved : goal.loop-n-preserved
loop-n-preserved c = c.loop-n.invariant ∙ first_more (at is_free_context c.args.book.now.contexts) c.loop-n.n 16 c.loop-n-test.true (sym c.is_free.ensures ∙ c.if-is_free.false)

pub returns : goal.returns
returns c =
    let end : 16 ≤ c.loop-n.n = omega arith in
    sym (c.loop-n.invariant ∙ none_found (at is_free_context c.args.book.now.contexts) c.loop-n.n 16 end)
