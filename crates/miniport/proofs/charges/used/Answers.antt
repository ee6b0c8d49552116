use Rattle.std.proofs.Common.{ℕ, List, subst}
use Rattle.miniport.specs.Charges.{IsOwn}
use Rattle.miniport.proofs.Budgets.{used_is}
use Rattle.miniport.proofs.charges.used.Goals as goal

pub returns : goal.returns
returns g c = λ n. used_is g.o.inputs g.o.state c.args.adapters.now c.args.adapter c.own_charge.result n c.requires
    (subst (λ (cs : List ℕ). IsOwn cs c.args.adapter c.own_charge.result) c.deref.ensures.value c.own_charge.ensures)
