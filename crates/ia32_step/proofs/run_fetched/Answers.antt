use Rattle.std.proofs.Common.{arith}
use Rattle.std.specs.FinMap as map
use Rattle.std.proofs.lemmas.Grind.{common_steps}
use Rattle.ia32_step.proofs.Fetching.{fetched_le}
use Rattle.ia32_step.proofs.run_fetched.Goals as goal

pub slice_bounds-code-end : goal.slice_bounds-code-end
slice_bounds-code-end c =
    let within = fetched_le c.in-Ok.length (map.get c.args.m.now) c.args.r.now.eip c.in-Ok.ensures.answer in
    grind (arith, common_steps)

pub slice_bounds-run-end : goal.slice_bounds-run-end
slice_bounds-run-end c =
    let within = fetched_le c.in-Ok.length (map.get c.args.m.now) c.args.r.now.eip c.in-Ok.ensures.answer in
    grind (arith, common_steps)
