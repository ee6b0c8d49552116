-- How long what is spelled is at most.
use Rattle.std.proofs.Common.{ℕ, ◌+◌, ◌≤◌, Bool, [], ◌∷◌, length, ap, ⊎_elim, length-append, arith}
use Rattle.codes.specs.Codes.{Code, done, nothing, byte, branch, either, ◌>>=◌}
use Rattle.codes.specs.Exact.{IsAtMost}

pub done_at_most : {A : Type 0} (a : A) (n : ℕ) → IsAtMost (done a) n
done_at_most a n = record { bound = λ bytes v h. rw h.0 (omega arith) }

pub nothing_at_most : {A : Type 0} (n : ℕ) → IsAtMost (nothing {A = A}) n
nothing_at_most n = record { bound = λ bytes v h. absurd h }

pub byte_at_most : (ok : ℕ → Bool) → IsAtMost (byte ok) 1
byte_at_most ok = record { bound = λ bytes v h. rw h.2 (omega arith) }

pub either_at_most : {A : Type 0} (b : Bool) (c d : Code A) (n : ℕ) → IsAtMost c n → IsAtMost d n → IsAtMost (either b c d) n
either_at_most b c d n p q = record { bound = λ bytes v. ⊎_elim (λ s. p.bound bytes v s.1) (λ s. q.bound bytes v s.1) }

pub then_at_most : {A B : Type 0} (c : Code A) (f : A → Code B) (m n k : ℕ) → m + n ≤ k → IsAtMost c m → ((x : A) → IsAtMost (f x) n) → IsAtMost (c >>= f) k
then_at_most c f m n k l p q = record {
  bound = λ bytes v h.
      let a = p.bound h.0 h.1 h.3 in
      let b = (q h.1).bound h.2 v h.4 in
      omega (arith, length-append h.0 h.2, ap length h.5);
}

pub branch_at_most : {A : Type 0} (live : ℕ → Bool) (next : ℕ → Code A) (n k : ℕ) → n + 1 ≤ k → ((b : ℕ) → IsAtMost (next b) n) → IsAtMost (branch live next) k
branch_at_most live next n k l p = record {
  bound = elim [
    | [] ↦ λ v h. absurd h
    | b ∷ bytes ↦ λ v h. let a = (p b).bound bytes v h.1 in omega arith
  ];
}

-- a weaker bound
pub at_most_more : {A : Type 0} (c : Code A) (m n : ℕ) → m ≤ n → IsAtMost c m → IsAtMost c n
at_most_more c m n l p = record { bound = λ bytes v h. let a = p.bound bytes v h in omega arith }
