-- The adapters that stand, and those of open handlers, are among those that were given.
use Rattle.std.proofs.Common.{◌≡◌, ℕ, suc, zero, ◌<◌, Bool, true, List, [], ◌∷◌, Some, length, subst, arith}
use Rattle.nd_base.specs.declared.numbers.AdapterNo.{AdapterNo}
use Rattle.call_log.specs.declared.entry.Entry.{Entry}
use Rattle.owner_machine.specs.State.{at, stands}
use Rattle.legal_run.specs.State.{Inputs, State, adapter_of}
use Rattle.legal_run.specs.Run.{Run, now}
use Rattle.run_facts.specs.Facts.{IsOfRun}
use Rattle.run_facts.proofs.Counts.{AdaptersGiven, counts}

pub below : {A : Type 0} (test : A → Bool) (rows : List A) (k : ℕ) → at test rows k ≡ true → k < length rows
below test [] k h = absurd (cc)
below test (row ∷ rows) zero h = omega arith
below test (row ∷ rows) (suc k) h = let rest = below test rows k h in omega (arith, rest)

pub standing : AdaptersGiven → (c : Inputs) (s : State) (a : ℕ) → IsOfRun c s → stands s.owner a ≡ true → a < length c.adapters
standing given c s a is there =
    let less = below _ s.owner.adapters a there in
    let count = (counts given c s is).rows in
    omega (arith, less, count)

-- the adapter of an open handler stands (a law of crates/run_duties)
abbrev pub HandlersStand : Type 0
HandlersStand = (c : Inputs) (log : List Entry) (x : ℕ) (a : AdapterNo) → Run c log → adapter_of (now c log) x ≡ Some a → stands (now c log).owner a.0 ≡ true

pub handlers_stand : HandlersStand → (c : Inputs) (s : State) (x : ℕ) (a : AdapterNo) → IsOfRun c s → adapter_of s x ≡ Some a → stands s.owner a.0 ≡ true
handlers_stand stand c s x a is = subst (λ (t : State). adapter_of t x ≡ Some a → stands t.owner a.0 ≡ true) is.reaches.state (λ h. stand c is.log x a is.reaches.run h)

pub inside : AdaptersGiven → HandlersStand → (c : Inputs) (s : State) (x : ℕ) (a : AdapterNo) → IsOfRun c s → adapter_of s x ≡ Some a → a.0 < length c.adapters
inside given stand c s x a is there = standing given c s a.0 is (handlers_stand stand c s x a is there)
