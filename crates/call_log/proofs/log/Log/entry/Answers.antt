use Rattle.std.proofs.Common.{◌≡◌, arith}
use Rattle.std.proofs.lemmas.Grind.{common_steps}
use Rattle.std.proofs.lemmas.Option.{gets}
use Rattle.std.specs.Prelude.{slice_get, option_copied}
use Rattle.call_log.proofs.Ranges.{entry_range}
use Rattle.call_log.proofs.log.Log.entry.Goals as goal

pub returns-clause-ranges : goal.returns-clause-ranges
returns-clause-ranges c =
    let e : option_copied c.get.result ≡ slice_get c.self.inside.entries.items c.args.i = grind (arith, common_steps, gets) in
    entry_range c.self.inside.entries.items c.args.i c.get.result c.self.invariant.1 e
