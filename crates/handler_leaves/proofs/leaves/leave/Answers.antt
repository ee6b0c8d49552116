use Rattle.std.proofs.Common.{ℕ, ◌∷◌, [], ◌++◌, ap, ◌∙◌, refl, sym, subst, arith}
use Rattle.std.specs.Option.{option_map}
use Rattle.nd_base.specs.declared.numbers.Breach.{Breach}
use Rattle.call_log.specs.declared.entry.Entry.TheVariants as entries
use Rattle.legal_run.specs.Run.{Meets}
use Rattle.miniport_state.specs.Seen.{Logs}
use Rattle.handler_leaves.proofs.Ending.{may_stand, status_is, handler_is, number_is, breaks_is, broken_off, left_on}
use Rattle.handler_leaves.proofs.leaves.leave.Goals as goal

pub returns-in-Some : goal.returns-in-Some
returns-in-Some g c =
    let at = c.requires.0 in
    let x = c.args.x in
    let status = status_is g.o x c.args.adapters.now c.registers_at.result at.keeps c.registers_at.ensures in
    let breaks = breaks_is g.o x c.args.verdict c.broken.result c.requires.1.1.0 c.broken.ensures ∙ ap (option_map {T = Breach} (λ b. b.0)) c.in-Some.is in
    record {
      step = record {
        logs = record {
          meets = may_stand c.free_entries_stand.ensures g.o x c.requires.1.0;
          written = c.append.ensures.entries ∙ ap (λ (n : ℕ). c.args.log.now.entries ++ entries.Leave x n ∷ []) status;
          spare = omega (arith, c.append.ensures.spare, c.requires.1.1.1);
        };
        shown = broken_off g.o x c.in-Some.rule.0 c.args.adapters.now c.args.book.now c.say_nothing.new.self c.args.world.now at breaks c.say_nothing.ensures;
      };
      breaks = breaks;
    }

pub write-requires : goal.write-requires
write-requires g c =
    let at = c.requires.0 in
    let x = c.args.x in
    let status = status_is g.o x c.args.adapters.now c.registers_at.result at.keeps c.registers_at.ensures in (
      subst (λ (n : ℕ). Meets g.o.inputs g.o.state (entries.Leave x n)) (sym status) (may_stand c.free_entries_stand.ensures g.o x c.requires.1.0),
      (at.owner, (refl, (tt, c.requires.1.1.1))),
    )

pub returns-in-None : goal.returns-in-None
returns-in-None g c =
    let at = c.requires.0 in
    let x = c.args.x in
    let status = status_is g.o x c.args.adapters.now c.registers_at.result at.keeps c.registers_at.ensures in
    let handler = handler_is g.o x c.args.book.now c.handler_of.result at.owner c.handler_of.ensures in
    let number = number_is g.o x c.args.book.now c.number_of.result.0 at.owner c.number_of.ensures in
    let breaks = breaks_is g.o x c.args.verdict c.broken.result c.requires.1.1.0 c.broken.ensures ∙ ap (option_map {T = Breach} (λ b. b.0)) c.in-None.is in (
      record {
        step = record {
          logs = subst (λ (n : ℕ). Logs g.o (entries.Leave x n) c.args.log.now c.write.new.log) status c.write.ensures.logs;
          shown = left_on g.o x _ c.number_of.result.0 c.handler_of.result c.settle.new.adapters c.write.new.book c.settle.new.world c.leave.new.self c.leave.result status number handler breaks
              c.settle.ensures.keeps c.settle.ensures.world c.write.ensures.book c.leave.ensures.moved;
        };
        breaks = breaks;
      },
      (handler, status),
    )
