use Rattle.std.proofs.Common.{◌≡◌, ◌+◌, ◌-◌, ◌*◌, ◌^◌, ◌≤◌, ◌<◌, ◌++◌, ◌∷◌, [], refl, sym, arith, ap, ◌∙◌}
use Rattle.call_log.specs.declared.entry.Entry.TheVariants as entries
use Rattle.dpc_timer.specs.ClockState.{ClockState, Rise, moved}
use Rattle.entry_session.proofs.Reaching.{adds_one}
use Rattle.entry_session.proofs.Replying.{jumped, woken_time}
use Rattle.entry_session.proofs.session.Session.wait.Goals as goal

pub returns : goal.returns
returns g c =
    let s = c.args.self.now in
    let may = c.requires.1 in
    let later : s.world.clock.clock < g.sleeping.wake = omega (arith, c.now-now.ensures, c.requires.0, c.if-wake-now.false) in
    let rises : c.rise.new.self ≡ moved s.world.clock (Rise (g.sleeping.wake - s.world.clock.clock)) = c.rise.ensures ∙ ap (λ n. moved s.world.clock (Rise n)) (omega (arith, c.now-now.ensures, c.requires.0)) in
    let woken = woken_time s.world.clock c.rise.new.self s.charged g.sleeping.wake rises later may.moment may.time in
    record {
      reached = jumped c.run_laws.ensures c.entry_laws.ensures g.sleeping s may later c.rise.new.self rises c.push.new.self.entries (c.in_ok-push.ensures.ok ∙ ap (λ n. s.log.entries ++ entries.Time n ∷ []) c.requires.0);
      come = woken.0;
      returns = may.returns;
      time = woken.1;
      budget = record { given = may.budget.given; most = may.budget.most; unspent = may.budget.unspent };
      alone = record { opened = may.alone.opened; adapters = may.alone.adapters; holds = may.alone.holds };
      charged = refl;
      added = adds_one s.log.entries c.push.new.self.entries _ c.in_ok-push.ensures.ok;
    }
