use Rattle.std.proofs.Common.{◌≡◌, ◌≤◌, ◌<◌, ℕ, None, Some, IfSome, IfNone}
use Rattle.miniport.specs.Waiting.{wake_at}
use Rattle.miniport.proofs.waiting.next_wake.Given as goal

abbrev pub ghost-wake_at : goal.ghost-wake_at
ghost-wake_at g a = g.o

abbrev pub invariant-loop-n : goal.invariant-loop-n
invariant-loop-n g l =
    IfSome l.first (λ m. (x : ℕ) × ((x < l.n) × (wake_at g.o.state x ≡ Some m)))
    × (IfSome l.first (λ m. (x k : ℕ) → x < l.n → wake_at g.o.state x ≡ Some k → m ≤ k)
    × IfNone l.first ((x : ℕ) → x < l.n → wake_at g.o.state x ≡ None))
