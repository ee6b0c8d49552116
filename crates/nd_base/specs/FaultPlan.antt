-- Which calls of a file system or a sink in memory are to fail.
use Rattle.std.specs.Prelude.{◌≡◌, ℕ, ◌+◌, ◌⊎◌, ◌==◌, if◌then◌else◌, List, Result, Ok, Err, refl}
use Rattle.std.specs.List.{Contains}
use Rattle.std.specs.Coded.{Coded, code_by, coded×, coded_ℕ, coded_list}
use Rattle.nd_base.specs.Files.{last_count}
use Rattle.nd_base.specs.declared.fault.IoFault.{IoFault}
use Rattle.nd_base.specs.declared.fault.IoFault.TheVariants.{Failed, Memory}

-- how many calls were made, and the numbers, from 1, of those that are to fail
pub record Plan : Type 0 where
  pub calls : ℕ
  pub failing : List ℕ

-- as the pair of its fields
abbrev pub plan_code : Coded Plan
plan_code = code_by (ℕ × List ℕ) (coded× coded_ℕ (coded_list coded_ℕ)) (λ p. (p.calls, p.failing)) (λ p. record { calls = p.0; failing = p.1 }) (λ _. refl)

-- one more, but for the last count, which stays
abbrev pub one_more : ℕ → ℕ
one_more n = if n == last_count then n else n + 1

-- a plan after one more call
abbrev pub after_call : Plan → Plan
after_call p = record p { calls = one_more p.calls }

-- the next call is to fail: its number is among those, or the calls can no more be counted
abbrev pub IsNextToFail : Plan → Type 0
IsNextToFail p = Contains p.failing (p.calls + 1) ⊎ (p.calls ≡ last_count)

-- the next call is refused: it is to fail, or its faults can no more be counted
abbrev pub IsRefused : Plan → ℕ → Type 0
IsRefused plan faults = IsNextToFail plan ⊎ (faults ≡ last_count)

-- a count of faults after a call with this answer
abbrev pub raised_by : {A : Type 0} → Result A IoFault → ℕ → ℕ
raised_by (Ok x) faults = faults
raised_by (Err Failed) faults = one_more faults
raised_by (Err Memory) faults = faults
