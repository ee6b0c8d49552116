use Rattle.std.proofs.Common.{refl, arith}
use Rattle.entry_session.proofs.Entering.{entered_reaches, first_moment, none_there, none_held}
use Rattle.entry_session.proofs.session.Session.enter.Goals as goal

pub returns : goal.returns
returns c = record {
  reached = entered_reaches c.run_laws.ensures c.entry_laws.ensures _ c.in_ok-world.world c.in_ok-memory.memory _ c.begin.new.self _ c.in_ok-world.ensures c.in_ok-memory.ensures c.entered_registers-regs.ensures c.begin.ensures.moved c.in_ok-log.ensures;
  budget = record { given = refl; most = c.requires.most; unspent = c.requires.some };
  alone = record {
    opened = c.begin.ensures.open;
    adapters = none_there c.in_ok-world.world _ _ c.in_ok-world.ensures;
    holds = none_held c.in_ok-world.world _ _ c.begin.new.self c.in_ok-world.ensures c.begin.ensures.moved;
  };
  time = omega (arith, first_moment c.in_ok-world.world _ _ c.in_ok-world.ensures);
}
