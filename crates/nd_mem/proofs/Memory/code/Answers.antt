use Rattle.std.proofs.Common.{List, ℕ, IfOk, IfErr, Result, Ok, Err, Some, Bor, ◌≡◌, sym, subst}
use Rattle.std.specs.FinMap as map
use Rattle.nd_mem.specs.Space.{Cells, Executing, IsCode, fault_at}
use Rattle.nd_mem.specs.Regions.{IsRun, cells_of}
use Rattle.nd_mem.proofs.Mapped.{cells_seen}
use Rattle.nd_mem.proofs.Runs.{code_of_run}
use Rattle.nd_mem.proofs.Memory.code.Goals as goal

coded : {E : Type 0} (cells : Cells) (a : ℕ) (r : Result (Bor (List ℕ)) E) → IfOk r (λ run. IsRun Executing cells a run.now) → IfOk r (λ run. IsCode cells a run.now)
coded cells a (Ok run) h = code_of_run cells a run.now h
coded cells a (Err e) h = tt

pub returns-clause-ok : goal.returns-clause-ok
returns-clause-ok c =
    let seen = cells_seen c.deref.result.now c.self.inside.regions.items c.args.self.now c.self.view_is c.deref.ensures.value c.self.invariant in
    subst (λ (f : Cells). IfOk c.run_from.result (λ run. IsCode f c.args.at.0 run.now)) (sym seen)
    (coded (cells_of c.deref.result.now) c.args.at.0 c.run_from.result c.run_from.ensures.ok)

pub returns-clause-err : goal.returns-clause-err
returns-clause-err c =
    let seen = cells_seen c.deref.result.now c.self.inside.regions.items c.args.self.now c.self.view_is c.deref.ensures.value c.self.invariant in
    subst (λ (f : Cells). IfErr c.run_from.result (λ fault. fault_at Executing f c.args.at.0 ≡ Some fault)) (sym seen) c.run_from.ensures.err
