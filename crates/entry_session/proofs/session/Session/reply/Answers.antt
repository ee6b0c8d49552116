use Rattle.std.proofs.Common.{◌≡◌, ℕ, ◌*◌, ◌+◌, ◌^◌, ◌≤◌, ap, sym, ◌∙◌, refl, arith}
use Rattle.std.specs.FinMap as table
use Rattle.import_table.specs.Table.{Row, row_of}
use Rattle.nd_mem.specs.Space.{Space}
use Rattle.ia32_step.specs.Registers.{Registers}
use Rattle.ia32_step.specs.Machine.{machine}
use Rattle.legal_run.specs.Guest.{with_writes}
use Rattle.legal_run.specs.Replies.{returned}
use Rattle.entry_session.proofs.Charging.{tested, unspent, in_time_behind}
use Rattle.entry_session.proofs.Reaching.{ended_spent, adds_one}
use Rattle.entry_session.proofs.Replying.{replied_on, replied_out}
use Rattle.entry_session.proofs.session.Session.reply.Goals as goal

pub rise-requires : goal.rise-requires
rise-requires g c =
    let may = c.requires.1 in
    let time : c.args.self.now.world.clock.clock ≤ c.args.self.now.charged * 2 ^ 33 + 2 ^ 32 = may.time in
    let cost : c.args.reply.cost ≤ 2 ^ 32 = may.cost.1 in
    omega (arith, time, cost, may.budget.most, may.budget.unspent)

pub returns-then-is_spent : goal.returns-then-is_spent
returns-then-is_spent g c =
    let may = c.requires.1 in
    let s = c.args.self.now in
    ended_spent g.asked.setting _ _ (replied_out c.run_laws.ensures g.asked s c.args.reply may c.push.new.self.entries c.in_ok-push.ensures.ok (s.charged + c.args.reply.cost) refl (tested s.budget g.asked.setting.budget _ c.is_spent.result _ may.budget.given c.is_spent.ensures c.if-is_spent.true)) refl refl

pub returns : goal.returns
returns g c =
    let may = c.requires.1 in
    let s = c.args.self.now in
    let made : machine c.returned-self.result c.put_all.new.memory ≡ machine (returned (table.get s.world.memory) s.regs (row_of g.asked.import) c.args.reply.eax) (with_writes s.world.memory c.args.reply.writes) =
    ap (λ (x : Registers). machine x c.put_all.new.memory) (c.returned-self.ensures ∙ ap (λ (x : Row). returned (table.get s.world.memory) s.regs x c.args.reply.eax) c.requires.0)
    ∙ ap (λ (x : Space). machine (returned (table.get s.world.memory) s.regs (row_of g.asked.import) c.args.reply.eax) x) c.put_all.ensures in (
      record {
        reached = replied_on c.run_laws.ensures g.asked s c.args.reply may c.push.new.self.entries c.in_ok-push.ensures.ok (machine c.returned-self.result c.put_all.new.memory) c.rise.new.self (s.charged + c.args.reply.cost) made c.rise.ensures refl (tested s.budget g.asked.setting.budget _ c.is_spent.result _ may.budget.given c.is_spent.ensures c.if-is_spent.false);
        budget = record { given = may.budget.given; most = may.budget.most; unspent = unspent s.budget _ c.is_spent.result c.is_spent.ensures c.if-is_spent.false };
        alone = record { opened = may.alone.opened; adapters = may.alone.adapters; holds = may.alone.holds };
        time = in_time_behind s.world.clock c.rise.new.self s.charged c.args.reply.cost may.cost.0 c.rise.ensures may.time;
      },
      (omega (arith, may.cost.0), adds_one s.log.entries c.push.new.self.entries _ c.in_ok-push.ensures.ok),
    )
