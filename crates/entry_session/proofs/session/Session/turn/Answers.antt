use Rattle.std.proofs.Common.{◌≡◌, ℕ, ◌*◌, ◌+◌, ◌-◌, ap, sym, ◌∙◌, refl, arith}
use Rattle.std.specs.Prelude.{min}
use Rattle.ia32_step.specs.Machine.{machine}
use Rattle.legal_run.specs.After.{turned}
use Rattle.entry_session.specs.Session.{going_of, machine_of}
use Rattle.entry_session.proofs.Charging.{tested, unspent, in_time}
use Rattle.entry_session.proofs.Reaching.{ended_spent, adds_none, adds_one}
use Rattle.entry_session.proofs.Turning.{turns, none_turned, turned_on, turned_out}
use Rattle.entry_session.proofs.session.Session.turn.Goals as goal

pub returns-then-turned-eq0 : goal.returns-then-turned-eq0
returns-then-turned-eq0 g c =
    let made = c.make_turn-turned in
    let s = c.args.self.now in
    record {
      running = record {
        reached = none_turned g.setting s (machine made.new.regs made.new.memory) made.result.count s.log.entries c.if-turned-eq0.true made.ensures.state c.requires.reached;
        budget = record { given = c.requires.budget.given; most = c.requires.budget.most; unspent = c.requires.budget.unspent };
        alone = record { opened = c.requires.alone.opened; adapters = c.requires.alone.adapters; holds = c.requires.alone.holds };
        time = c.requires.time;
      };
      known = made.ensures.ending;
      went = λ is. let all = made.ensures.whole is in absurd (omega (arith, all, c.if-turned-eq0.true, c.requires.budget.unspent));
      charged = omega arith;
      added = adds_none s.log.entries s.log.entries refl;
    }

pub returns-then-is_spent : goal.returns-then-is_spent
returns-then-is_spent g c =
    let made = c.make_turn-turned in
    let s = c.args.self.now in
    let most : c.min-most.result ≡ min (g.setting.budget - s.charged) 64 = omega (arith, c.min-most.ensures, c.from.ensures, c.requires.budget.given) in
    let sum : s.charged + c.from-count.result ≡ s.charged + made.result.count = omega (arith, c.from-count.ensures) in
    let turn = turns g.setting (going_of s) made.result.count c.min-most.result (machine made.new.regs made.new.memory) made.result.last (omega (arith, c.if-turned-eq0.false)) made.ensures.count most (omega (arith, c.requires.budget.unspent, c.requires.budget.given)) made.ensures.moves made.ensures.state made.ensures.whole made.ensures.ending in
    ended_spent g.setting _ _ (turned_out c.run_laws.ensures c.entry_laws.ensures g.setting s made.result.count c.from-count.result (s.charged + c.from-count.result) c.push.new.self.entries c.requires.reached turn c.in_ok-push.ensures.ok c.from-count.ensures refl (tested s.budget g.setting.budget _ c.is_spent.result _ c.requires.budget.given c.is_spent.ensures c.if-is_spent.true)) refl sum

pub returns : goal.returns
returns g c =
    let made = c.make_turn-turned in
    let s = c.args.self.now in
    let most : c.min-most.result ≡ min (g.setting.budget - s.charged) 64 = omega (arith, c.min-most.ensures, c.from.ensures, c.requires.budget.given) in
    let turn = turns g.setting (going_of s) made.result.count c.min-most.result (machine made.new.regs made.new.memory) made.result.last (omega (arith, c.if-turned-eq0.false)) made.ensures.count most (omega (arith, c.requires.budget.unspent, c.requires.budget.given)) made.ensures.moves made.ensures.state made.ensures.whole made.ensures.ending in
    record {
      running = record {
        reached = turned_on c.run_laws.ensures c.entry_laws.ensures g.setting s made.result.count c.from-count.result (machine made.new.regs made.new.memory) c.rise.new.self (s.charged + c.from-count.result) c.push.new.self.entries c.requires.reached turn c.in_ok-push.ensures.ok c.from-count.ensures made.ensures.state c.rise.ensures refl (tested s.budget g.setting.budget _ c.is_spent.result _ c.requires.budget.given c.is_spent.ensures c.if-is_spent.false);
        budget = record { given = c.requires.budget.given; most = c.requires.budget.most; unspent = unspent s.budget _ c.is_spent.result c.is_spent.ensures c.if-is_spent.false };
        alone = record { opened = c.requires.alone.opened; adapters = c.requires.alone.adapters; holds = c.requires.alone.holds };
        time = in_time s.world.clock c.rise.new.self s.charged c.from-count.result c.rise.ensures c.requires.time;
      };
      known = made.ensures.ending;
      went = λ is. omega (arith, c.from-count.ensures, c.if-turned-eq0.false);
      charged = omega arith;
      added = adds_one s.log.entries c.push.new.self.entries _ c.in_ok-push.ensures.ok;
    }
