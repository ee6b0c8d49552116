-- What was charged, against the budget and the clock.
use Rattle.std.proofs.Common.{◌≡◌, ℕ, ◌+◌, ◌*◌, ◌^◌, ◌<◌, ◌≤◌, Bool, true, false, sym, ap, ◌∙◌, arith, inl, inr}
use Rattle.std.specs.Prelude.{nat_le}
use Rattle.std.proofs.lemmas.Bool.{cases_lt}
use Rattle.std.proofs.lemmas.Bool.Decides.{nat_tests}
use Rattle.dpc_timer.specs.ClockState.{ClockState, Rise, moved}

-- a test of the kept budget is one of the given one
pub tested : (budget given charged : ℕ) (spent b : Bool) → budget ≡ given → spent ≡ nat_le budget charged → spent ≡ b → nat_le given charged ≡ b
tested budget given charged spent b same is test = ap (λ (x : ℕ). nat_le x charged) (sym same) ∙ sym is ∙ test

reaches : (a b : ℕ) → a ≤ b → nat_le a b ≡ true
reaches a b h = grind (arith, nat_tests)

pub unspent : (budget charged : ℕ) (spent : Bool) → spent ≡ nat_le budget charged → spent ≡ false → charged < budget
unspent budget charged spent is test = elim (cases_lt charged budget) [
  | inl less ↦ less
  | inr more ↦ let reached = reaches budget charged more in cc
]

pub in_time : (before after : ClockState) (n k : ℕ) → after ≡ moved before (Rise k) → before.clock ≤ n * 2 ^ 33 → after.clock ≤ (n + k) * 2 ^ 33
in_time before after n k rises time = let is : after.clock ≡ before.clock + k = ap (λ (x : ClockState). x.clock) rises in omega (arith, is)

-- the same where a call has slept before
pub in_time_behind : (before after : ClockState) (n k : ℕ) → 1 ≤ k → after ≡ moved before (Rise k) → before.clock ≤ n * 2 ^ 33 + 2 ^ 32 → after.clock ≤ (n + k) * 2 ^ 33
in_time_behind before after n k some rises time = let is : after.clock ≡ before.clock + k = ap (λ (x : ClockState). x.clock) rises in omega (arith, is)
