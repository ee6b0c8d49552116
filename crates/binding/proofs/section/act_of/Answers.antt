use Rattle.std.proofs.Common.{◌≡◌, ◌<◌, length, IfOk, subst, arith}
use Rattle.binding.specs.declared.events.Act.{Act}
use Rattle.binding.proofs.Bursts.{act_front}
use Rattle.binding.proofs.section.act_of.Goals as goal

pub returns-in-len1-up : goal.returns-in-len1-up
returns-in-len1-up c =
    let some : 0 < length c.args.lines.now = omega arith in
    subst (λ (a : Act). IfOk c.act_of_line.result (λ act. act ≡ a)) (act_front c.args.mac.now c.args.sent c.args.lines.now c.first-item.result some c.first-item.is c.requires.sent) c.act_of_line.ensures
