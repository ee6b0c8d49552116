-- What is told of an adapter, and one that is not there.
use Rattle.std.proofs.Common.{◌≡◌, ℕ, zero, suc, ◌≤◌, Bool, false, List, [], ◌∷◌, length, slice_get, Option, Some, None, refl, ap, arith}
use Rattle.std.specs.Option.{option_map_or}
use Rattle.nd_base.specs.declared.numbers.Phase.{Phase}
use Rattle.owner_machine.specs.declared.rows.Adapter.{Adapter}
use Rattle.owner_machine.specs.State.{Owner, at, phase_is}
use Rattle.owner_book.specs.declared.standing.Standing.{Standing}
use Rattle.owner_book.specs.Standings.{IsStanding}

phase_in : (test : Phase → Bool) (row : Option Adapter) (p : Phase) → option_map_or (λ x. Some x.phase) row None ≡ Some p → option_map_or (λ x. test x.phase) row false ≡ test p
phase_in test None p e = cc
phase_in test (Some x) p e = ap test (same x.phase p e)
  where
    same : (a b : Phase) → Some a ≡ Some b → a ≡ b
    same a b e = cc

pub phase_test : (test : Phase → Bool) (o : Owner) (a : ℕ) (s : Standing) → IsStanding o a s → phase_is test o a ≡ test s.phase
phase_test test o a s is = phase_in test (slice_get o.adapters a) s.phase is.phase

beyond : {A : Type 0} (xs : List A) (n : ℕ) → length xs ≤ n → slice_get xs n ≡ None
beyond [] n le = refl
beyond (x ∷ xs) zero le = absurd (omega arith)
beyond (x ∷ xs) (suc n) le = beyond xs n (omega arith)

-- nothing is so of a row that is not there
pub none_at : {A : Type 0} (test : A → Bool) (rows : List A) (n : ℕ) → length rows ≤ n → at test rows n ≡ false
none_at test rows n le = ap (λ row. option_map_or test row false) (beyond rows n le)
