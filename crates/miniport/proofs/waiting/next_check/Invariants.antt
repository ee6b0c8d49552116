use Rattle.std.proofs.Common.{◌≡◌, ◌≤◌, ◌<◌, ℕ, None, Some, IfSome, IfNone}
use Rattle.miniport.specs.Waiting.{check_in}
use Rattle.miniport.proofs.waiting.next_check.Given as goal

abbrev pub ghost-check_at : goal.ghost-check_at
ghost-check_at g a = g.o

abbrev pub invariant-loop-n : goal.invariant-loop-n
invariant-loop-n g l =
    IfSome l.first (λ m. (a : ℕ) × ((a < l.n) × (check_in g.o.state a ≡ Some m)))
    × (IfSome l.first (λ m. (a k : ℕ) → a < l.n → check_in g.o.state a ≡ Some k → m ≤ k)
    × IfNone l.first ((a : ℕ) → a < l.n → check_in g.o.state a ≡ None))
