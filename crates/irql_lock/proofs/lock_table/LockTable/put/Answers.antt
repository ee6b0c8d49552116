use Rattle.std.proofs.Common.{◌≡◌, None, ap, sym, subst, ◌∙◌, IsSome}
use Rattle.std.proofs.lemmas.Bool.{false≢true}
use Rattle.std.specs.FinMap.{get}
use Rattle.nd_base.specs.KeptMap.{get-kept, kept-insert}
use Rattle.irql_lock.specs.LockState.{Locks}
use Rattle.irql_lock.proofs.lock_table.LockTable.put.Goals as goal

pub unreachable-requires : goal.unreachable-requires
unreachable-requires c =
    let gone : get c.args.self.now c.args.lock.0 ≡ None =
    ap (λ (t : Locks). get t c.args.lock.0) (sym c.self.view_is) ∙ get-kept c.self.inside.locks c.args.lock.0 ∙ (rw c.in-Err.is at c.insert.ensures.absent) in
    absurd (false≢true (subst IsSome gone c.requires))

pub returns : goal.returns
returns c = rw (← c.self.view_is) (kept-insert c.self.inside.locks c.insert.new.self c.args.lock.0 c.args.held c.in-Ok.ensures.updates)
