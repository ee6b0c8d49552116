use Rattle.std.proofs.Common.{◌≡◌, ◌≤◌, ◌<◌, ℕ, true, false, IfSome, IfNone}
use Rattle.legal_run.specs.Owed.{can_run}
use Rattle.miniport.specs.Waiting.{when_ran}
use Rattle.miniport.proofs.waiting.ready.Given as goal

abbrev pub ghost-can_run : goal.ghost-can_run
ghost-can_run g a = g.o

abbrev pub invariant-loop-n : goal.invariant-loop-n
invariant-loop-n g l =
    IfSome l.first (λ x. (x.0 < 16) × (can_run g.o.state x.0 ≡ true))
    × (IfSome l.first (λ x. (y : ℕ) → y < l.n → can_run g.o.state y ≡ true → when_ran l.fn.adapters x.0 ≤ when_ran l.fn.adapters y)
    × IfNone l.first ((y : ℕ) → y < l.n → can_run g.o.state y ≡ false))
