use Rattle.std.proofs.Common.{◌<◌, length, arith}
use Rattle.binding.proofs.Bursts.{more_done}
use Rattle.binding.proofs.section.step_done.Goals as goal

pub returns-in-Some-clause-done : goal.returns-in-Some-clause-done
returns-in-Some-clause-done c =
    let some : 0 < length c.args.lines.now = omega arith in
    more_done c.args.sent c.in-Some.more c.args.lines.now c.first-item.result some c.first-item.is c.requires.sent c.in-Some.ensures
