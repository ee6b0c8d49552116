use Rattle.miniport.proofs.Budgets.{charged_own, charged_each}
use Rattle.std.proofs.Common.{arith}
use Rattle.miniport.proofs.charges.charge.Goals as goal

pub returns-in-None : goal.returns-in-None
returns-in-None g c = charged_own g.o.inputs g.o.state c.args.adapters.now c.args.adapter c.args.n c.requires.0 c.requires.1.0 c.requires.1.1 c.in-None.is

pub returns-then-place-len : goal.returns-then-place-len
returns-then-place-len g c =
    charged_each g.o.inputs g.o.state c.args.adapters.now c.args.adapter c.args.n c.in-Some.a c.from-place.result c.index_mut.result.now c.requires.0 c.requires.1.0 c.requires.1.1 c.in-Some.is c.from-place.ensures
    (omega (arith, c.if-place-len.true, c.len.ensures)) c.index_mut.ensures.value
