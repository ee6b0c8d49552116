-- The state of a sink in memory of which some calls are to fail.
use Rattle.std.specs.Prelude.{ℕ, List, Result, refl}
use Rattle.std.specs.Coded.{Coded, code_by, coded×, coded_ℕ, coded_list}
use Rattle.nd_base.specs.FaultPlan.{Plan, plan_code, after_call, raised_by}
use Rattle.nd_base.specs.declared.fault.IoFault.{IoFault}

-- what was written, the plan of failing calls, and the count of faults
pub record SinkState : Type 0 where
  pub written : List ℕ
  pub plan : Plan
  pub faults : ℕ

-- as the tuple of its fields
abbrev pub sink_code : Coded SinkState
sink_code =
    code_by (List ℕ × (Plan × ℕ)) (coded× (coded_list coded_ℕ) (coded× plan_code coded_ℕ))
    (λ s. (s.written, (s.plan, s.faults)))
    (λ p. record { written = p.0; plan = p.1.0; faults = p.1.1 })
    (λ _. refl)

-- the state after a write with this answer, which leaves these bytes
abbrev pub after_line : {A : Type 0} → SinkState → Result A IoFault → List ℕ → SinkState
after_line s answer bytes = record { written = bytes; plan = after_call s.plan; faults = raised_by answer s.faults }
