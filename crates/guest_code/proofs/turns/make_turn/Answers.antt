use Rattle.std.proofs.Common.{◌≡◌, true, arith, below_more, sym, ap, ◌∙◌, subst}
use Rattle.ia32_step.specs.Machine.{outcome, Machine, moved}
use Rattle.legal_run.specs.Run.{is_moved}
use Rattle.guest_code.proofs.Steps.{turned_none, turned_more, moved_by_went}
use Rattle.guest_code.proofs.turns.make_turn.Goals as goal

pub loop-count-init : goal.loop-count-init
loop-count-init c = record {
  count = omega arith;
  moves = λ k less. absurd (omega arith);
  state = sym (turned_none _);
  keeps = c.new-decodings.ensures c.args.memory.now;
}

pub loop-count-preserved : goal.loop-count-preserved
loop-count-preserved c =
    let before = c.loop-count.invariant in
    let went = moved_by_went _ (sym c.in-Went.is ∙ c.step_decoded.ensures.answer) in
    record {
      count = omega arith;
      moves = below_more _ _ before.moves (subst (λ (m : Machine). is_moved (outcome m) ≡ true) before.state went);
      state = c.step_decoded.ensures.state ∙ ap moved before.state ∙ sym (turned_more _ _);
      keeps = c.step_decoded.ensures.keeps;
    }
