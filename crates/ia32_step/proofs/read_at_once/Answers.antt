use Rattle.std.proofs.Common.{arith}
use Rattle.std.specs.FinMap as map
use Rattle.ia32_step.proofs.AtOnce.{read_there}
use Rattle.ia32_step.proofs.read_at_once.Goals as goal

pub returns-in-One : goal.returns-in-One
returns-in-One c =
    read_there c.fetch_laws.ensures c.read_laws.ensures c.spelled_is_decoded.ensures (map.get c.args.m.now) c.args.eip.0 c.min.result c.in-One.length c.in-Ok.run'.now c.in-One.i c.in-Ok.ensures.ok
    (omega (arith, c.min.ensures)) (omega (arith, c.min.ensures)) c.in-One.ensures.only
