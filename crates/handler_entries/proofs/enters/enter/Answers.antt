use Rattle.std.proofs.Common.{ℕ, ap, ◌∙◌, subst, arith}
use Rattle.call_log.specs.declared.entry.Entry.TheVariants as entries
use Rattle.owner_machine.specs.State.{Owner}
use Rattle.owner_machine.specs.Machine as owners
use Rattle.legal_run.specs.Guest.{stack_pointer}
use Rattle.legal_run.specs.Enters.{address_of, level_of}
use Rattle.legal_run.specs.After.{taken}
use Rattle.miniport_state.specs.Seen.{Keeps}
use Rattle.handler_entries.proofs.Behind.{still_closed, entered_on}
use Rattle.handler_entries.proofs.enters.enter.Goals as goal

pub begin-requires-clause-closed : goal.begin-requires-clause-closed
begin-requires-clause-closed g c =
    let e = c.args.entering in
    still_closed g.o.state c.take.new.world c.number_of-a.result.0 e.handler e.words e.writes c.args.x (c.take.ensures.world e.words e.writes) c.requires.1.0.closed

pub returns : goal.returns
returns g c =
    let e = c.args.entering in
    let x = c.args.x in
    let may = c.requires.1.0 in
    let number = c.number_of-a.ensures in
    let place = c.address_of-address.ensures ∙ ap (λ n. address_of g.o.inputs g.o.state n e.handler) number in
    let high = c.level_of-level.ensures ∙ ap (λ n. level_of g.o.inputs n e.handler) number in
    let low = c.stack_pointer.ensures ∙ ap (stack_pointer x.0) c.as_slice.ensures in
    let keeps = subst (λ (n : ℕ). Keeps g.o.inputs (taken g.o.state n e.handler e.words e.writes) c.take.new.adapters) number (c.take.ensures.keeps e.words e.writes) in
    let world = c.take.ensures.world e.words e.writes ∙ ap (λ n. (taken g.o.state n e.handler e.words e.writes).world) number in
    let admitted = c.in-Ok.ensures.1 ∙ ap (λ (b : Owner). owners.after b (entries.Enter e.adapter x e.handler e.words e.writes)) c.requires.0.owner in
    record {
      logs = record { meets = may.meets; written = c.append.ensures.entries; spare = omega (arith, c.append.ensures.spare, c.requires.1.1) };
      shown = entered_on g.o e.adapter x e.handler e.words e.writes c.level_of-level.result c.address_of-address.result c.stack_pointer.result c.begin_registers-registers.result e.subject.items
          c.take.new.adapters c.begin_at.new.adapters c.ran.new.adapters c.admit.new.self c.take.new.world c.begin.new.self c.begin_memory.new.memory
          place high low c.begin_registers-registers.ensures may.about keeps world c.begin.ensures.moved c.begin_memory.ensures c.begin_at.ensures c.ran.ensures admitted;
    }
