use Rattle.std.proofs.Common.{◌≡◌, length, arith}
use Rattle.owed_handlers.proofs.NextMoment.{alarm_at}
use Rattle.owed_handlers.proofs.alarms.next_alarm.Goals as goal

pub returns : goal.returns
returns g c =
    let len : c.len.result ≡ length c.args.adapters.now.charges.items = omega (arith, c.args.adapters.now.charges.ok.0) in
    alarm_at g.o c.args.adapters.now c.args.book.now c.args.world.now c.living-living.result c.len.result c.next_alarm.result c.requires len c.living-living.ensures c.next_alarm.ensures
