-- Instructions one after the other.
use Rattle.std.proofs.Common.{◌≡◌, ℕ, zero, suc, ◌+◌, true, false, refl, sym, ap, arith}
use Rattle.ia32_step.specs.Machine.{Machine, Outcome, Moved, Trapped, Faulted, moved, answer_to}
use Rattle.ia32_step.specs.declared.Stepped.{Stepped}
use Rattle.ia32_step.specs.declared.Stepped.TheVariants.{Went}
use Rattle.legal_run.specs.After.{turned}
use Rattle.legal_run.specs.Run.{is_moved}

pub turned_none : (m : Machine) → turned zero m ≡ m
unfolding turned
turned_none m = refl

pub turned_more : (n : ℕ) (m : Machine) → turned (n + 1) m ≡ moved (turned n m)
unfolding turned
turned_more n m = let e : n + 1 ≡ suc n = omega arith in ap (λ k. turned k m) e

pub moved_by_went : (o : Outcome) → Went ≡ answer_to o → is_moved o ≡ true
moved_by_went (Moved m) e = refl
moved_by_went (Trapped slot) e = cc
moved_by_went (Faulted kind address) e = cc

pub unmoved_by_other : (o : Outcome) (s : Stepped) → (s ≡ Went → ⊥) → answer_to o ≡ s → is_moved o ≡ false
unmoved_by_other (Moved m) s other e = absurd (other (sym e))
unmoved_by_other (Trapped slot) s other e = refl
unmoved_by_other (Faulted kind address) s other e = refl
