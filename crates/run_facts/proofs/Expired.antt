-- At most every entry was the enter of a timer or a hang check.
use Rattle.std.proofs.Common.{ℕ, suc, ◌+◌, ◌≤◌, List, [], ◌∷◌, subst, length, arith}
use Rattle.log_fields.specs.declared.field_values.Handler.TheVariants as handler
use Rattle.call_log.specs.declared.entry.Entry.{Entry}
use Rattle.call_log.specs.declared.entry.Entry.TheVariants as entries
use Rattle.legal_run.specs.State.{Inputs, State, start}
use Rattle.legal_run.specs.After.{after, expired_after}
use Rattle.legal_run.specs.Run.{Reaches, now_from}

one_more : (n : ℕ) (e : Entry) → expired_after n e ≤ suc n
one_more n (entries.Enter a x handler.Timer words writes) = omega arith
one_more n (entries.Enter a x handler.CheckForHang words writes) = omega arith
one_more n (entries.Enter a x _ words writes) = omega arith
one_more n _ = omega arith

expired_from : (c : Inputs) (s : State) (log : List Entry) → (now_from c s log).expired ≤ s.expired + length log
unfolding now_from
expired_from c s [] = omega arith
expired_from c s (e ∷ log) =
    let rest = expired_from c (after c s e) log in
    let first = one_more s.expired e in
    omega (arith, rest, first)

no_more : (n k : ℕ) → n ≤ 0 + k → n ≤ k
no_more n k h = omega (arith, h)

pub few_expired : (c : Inputs) (s : State) (log : List Entry) → Reaches c log s → s.expired ≤ length log
few_expired c s log is = subst (λ (t : State). t.expired ≤ length log) is.state (no_more (now_from c (start c) log).expired (length log) (expired_from c (start c) log))
