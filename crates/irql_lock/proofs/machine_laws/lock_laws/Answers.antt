use Rattle.std.proofs.Common.{◌≡◌, Some, refl, IsSome, sym, ap, subst, ◌∙◌}
use Rattle.std.proofs.lemmas.Bool.{eqb-false}
use Rattle.nd_base.specs.declared.numbers.CtxNo.{CtxNo}
use Rattle.irql_lock.specs.LockState.{IsOpen, lock_at, is_held_by}
use Rattle.irql_lock.proofs.Looked.{same_some, holding_of}
use Rattle.irql_lock.proofs.Sound.{sound}
use Rattle.irql_lock.proofs.Kept.{kept}
use Rattle.irql_lock.proofs.machine_laws.lock_laws.Goals as goal

pub returns : goal.returns
returns _ = record {
  one = λ s c d lock h k. same_some c d (sym h ∙ k);
  open_holder = λ s c lock reached h. let w = holding_of (lock_at s lock) c h in subst (IsOpen s) w.2 ((sound s reached).holders lock w.0 w.1);
  spinner = λ s c lock reached spins h.
      let w = holding_of (lock_at s lock) c h in
      let apart = (sound s reached).spinners c lock spins in
      let same : apart.0 ≡ Some w.0 = same_some apart.0 (Some w.0) (sym apart.1 ∙ w.1) in
      eqb-false w.0.context.0 c.0 (ap (is_held_by c) (sym same) ∙ apart.2) (ap (λ (x : CtxNo). x.0) w.2);
  spun = λ s c lock reached spins. subst IsSome (sym ((sound s reached).spinners c lock spins).1) refl;
  room = λ s reached. (sound s reached).room;
  kept = kept;
}
