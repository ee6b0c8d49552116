-- The state of a file system in memory of which some calls are to fail.
use Rattle.std.specs.Prelude.{ℕ, Result, refl}
use Rattle.std.specs.Coded.{Coded, code_by, coded×, coded_ℕ, coded_list}
use Rattle.std.specs.FinMap as map
use Rattle.nd_base.specs.Files.{Kept}
use Rattle.nd_base.specs.FaultPlan.{Plan, plan_code, after_call, raised_by}
use Rattle.nd_base.specs.declared.fault.IoFault.{IoFault}

-- the files, the plan of failing calls, and the counts of faults
pub record FileState : Type 0 where
  pub files : Kept
  pub plan : Plan
  pub read_faults : ℕ
  pub write_faults : ℕ

-- as the tuple of its fields
abbrev pub state_code : Coded FileState
state_code =
    code_by (Kept × (Plan × (ℕ × ℕ))) (coded× (map.code (coded_list coded_ℕ) (coded_list coded_ℕ)) (coded× plan_code (coded× coded_ℕ coded_ℕ)))
    (λ s. (s.files, (s.plan, (s.read_faults, s.write_faults))))
    (λ p. record { files = p.0; plan = p.1.0; read_faults = p.1.1.0; write_faults = p.1.1.1 })
    (λ _. refl)

-- the state after a size or a read with this answer
abbrev pub after_look : {A : Type 0} → FileState → Result A IoFault → FileState
after_look s answer = record s { plan = after_call s.plan; read_faults = raised_by answer s.read_faults }

-- the state after a create or an append with this answer, which leaves these files
abbrev pub after_write : {A : Type 0} → FileState → Result A IoFault → Kept → FileState
after_write s answer files = record s { files = files; plan = after_call s.plan; write_faults = raised_by answer s.write_faults }
