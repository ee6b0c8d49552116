use Rattle.std.proofs.Common.{inl, inr, refl}
use Rattle.owner_machine.specs.Legal.{start}
use Rattle.owner_machine.specs.Laws.{in_tail}
use Rattle.owner_machine.proofs.Bools.{not_true}
use Rattle.owner_machine.proofs.FinishLaw.{finished_now}
use Rattle.owner_machine.proofs.StopLaw.{still_now, quiet}
use Rattle.owner_machine.proofs.TailLaw.{tail_falls, tail_ends}
use Rattle.owner_machine.proofs.laws.stop_laws.Goals as goal

pub returns : goal.returns
returns _ = record {
  finished = λ adapters drivers log o a legal st over. elim (finished_now (start adapters drivers) o log a legal (λ s. (refl, refl)) (λ s. inr refl) st) [
    | inl tailing ↦ absurd (not_true (in_tail o.next a) tailing over)
    | inr none ↦ none
  ];
  quiet = λ adapters drivers log o a e legal h st. quiet o e a h (still_now (start adapters drivers) o log a legal (λ s. (refl, refl))) st;
  falls = tail_falls;
  ends = tail_ends;
}
