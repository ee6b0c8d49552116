use Rattle.std.proofs.Common.{◌+◌, Option, ap, ◌∙◌, sym, arith}
use Rattle.std.specs.Prelude.{nat_le, slice_get}
use Rattle.std.specs.FinMap as table
use Rattle.nd_base.specs.declared.numbers.AdapterNo.{AdapterNo}
use Rattle.nd_mem.specs.Space.{Space}
use Rattle.ia32_step.specs.Registers.{Registers}
use Rattle.import_table.specs.Table.{seen}
use Rattle.guest_world.specs.declared.world.World.{World}
use Rattle.owner_machine.specs.State.{Owner}
use Rattle.legal_run.specs.State.{adapter_in}
use Rattle.legal_run.specs.Replies.{returned}
use Rattle.legal_run.specs.After.{quiet_if_off, reaches_for, registered}
use Rattle.miniport_state.specs.declared.adapters.Adapters.{Adapters}
use Rattle.miniport.proofs.Returns.{quiet_moment, row_behind, reply_kept}
use Rattle.miniport.proofs.replies.reply.Goals as goal

pub rise-requires : goal.rise-requires
rise-requires g c =
    let may = c.requires.1.1.1.0 in
    let moment = ap (λ (w : World). w.clock.clock) c.quiet_if_off.ensures ∙ quiet_moment g.o.state _ c.adapter_of-adapter.result in
    omega (arith, moment, may.time)

pub returns-clause-step : goal.returns-clause-step
returns-clause-step g c =
    let x = c.args.x in
    let m = c.args.adapters.now in
    let w = c.args.world.now in
    let adapter = c.adapter_of-adapter.result in
    let may = c.requires.1.1.1.0 in
    let own = c.adapter_of-adapter.ensures ∙ ap (λ (b : Owner). adapter_in (slice_get b.contexts x.0)) c.requires.1.0 in
    let made = c.returned-registers.ensures ∙ ap (λ (r : Registers). returned (table.get w.memory) r (seen c.args.row.now) c.args.reply.eax) c.registers_at.ensures in
    let row = ap (λ (a : Adapters). a.contexts) c.resume_at.ensures ∙ row_behind g.o x m (seen c.args.row.now) c.args.reply.eax w.memory c.returned-registers.result c.requires.0 c.requires.1.1.0 may.memory made in
    let quiet = c.quiet_if_off.ensures ∙ ap (λ (mem : Space). quiet_if_off g.o.state (record w { memory = mem }) adapter) c.put_all.ensures in
    let told = c.tell_handlers.ensures ∙ ap (registered (record g.o.state { world = c.quiet_if_off.new.world })) c.write.ensures.book in
    record {
      logs = c.write.ensures.logs;
      shown = reply_kept g.o x c.args.reply w c.quiet_if_off.new.world c.resume_at.new.adapters.contexts adapter c.charge.new.adapters c.ran.new.adapters c.tell_handlers.new.book c.rise.new.self
          may own row quiet c.charge.ensures c.ran.ensures told c.rise.ensures;
    }

pub returns-clause-spent : goal.returns-clause-spent
returns-clause-spent g c =
    let cost = c.args.reply.cost in
    let own = c.adapter_of-adapter.ensures ∙ ap (λ (b : Owner). adapter_in (slice_get b.contexts c.args.x.0)) c.requires.1.0 in
    let budget = c.from.ensures ∙ ap (λ (a : Adapters). a.budget) c.ran.ensures ∙ c.charge.ensures.most in
    ap (λ n. nat_le n (c.used-before.result + cost)) budget ∙ sym (c.used-before.ensures cost) ∙ ap (λ (a : Option AdapterNo). reaches_for g.o.inputs g.o.state a cost) own
