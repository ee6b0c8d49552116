use Rattle.std.proofs.Common.{◌<◌, length, sym, ◌∙◌, arith}
use Rattle.owed_handlers.specs.Kept.{inputs_of, state_of}
use Rattle.owed_handlers.proofs.Found.{next_adapter, this_adapter}
use Rattle.owed_handlers.proofs.choice.first_of.Goals as goal

pub returns-in-Some : goal.returns-in-Some
returns-in-Some c =
    let lt : c.loop-n.n < length c.args.adapters.now.charges.items = omega (arith, c.args.adapters.now.charges.ok.0) in
    sym (c.loop-n.invariant
    ∙ this_adapter (inputs_of c.args.adapters.now) (state_of c.args.adapters.now c.args.book.now c.args.world.now) c.args.handlers.now c.loop-n.n (length c.args.adapters.now.charges.items) c.in-Some.h lt
    (sym c.handler_of.ensures ∙ c.in-Some.is))

pub loop-n-preserved : goal.loop-n-preserved
loop-n-preserved c =
    let lt : c.loop-n.n < length c.args.adapters.now.charges.items = omega (arith, c.args.adapters.now.charges.ok.0) in
    c.loop-n.invariant
    ∙ next_adapter (inputs_of c.args.adapters.now) (state_of c.args.adapters.now c.args.book.now c.args.world.now) c.args.handlers.now c.loop-n.n (length c.args.adapters.now.charges.items) lt (sym c.handler_of.ensures ∙ c.in_default.is)
