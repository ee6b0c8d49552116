use Rattle.std.proofs.Common.{◌≡◌, ℕ, ◌<◌, ◌≤◌, ◌-◌, true}
use Rattle.ia32_step.specs.Decodings.{Keeps}
use Rattle.ia32_step.specs.Machine.{outcome}
use Rattle.ia32_step.specs.Machine.{machine}
use Rattle.legal_run.specs.After.{turned}
use Rattle.legal_run.specs.Run.{is_moved}
use Rattle.guest_code.proofs.turns.make_turn.Given as goal

abbrev pub invariant-loop-count : goal.invariant-loop-count
invariant-loop-count l = record {
  count : l.count ≤ l.most;
  moves : (k : ℕ) → k < l.count → is_moved (outcome (turned k (machine l.fn.regs l.fn.memory))) ≡ true;
  state : machine l.regs l.memory ≡ turned l.count (machine l.fn.regs l.fn.memory);
  keeps : Keeps l.decodings l.memory;
}

abbrev pub decreases-loop-count : goal.decreases-loop-count
decreases-loop-count l = l.most - l.count
