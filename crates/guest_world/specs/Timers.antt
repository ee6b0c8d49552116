-- The timers that were initialized, as a finite map by their addresses.
use Rattle.std.specs.Prelude.{ℕ, refl}
use Rattle.std.specs.Ordering.{nat_cmp}
use Rattle.std.specs.BTreeMap.{BTreeMap}
use Rattle.std.specs.FinMap as table
use Rattle.std.specs.Coded.{Coded, coded_ℕ, coded×, code_by}
use Rattle.guest_world.specs.declared.miniport.TimerFunction.{TimerFunction}

abbrev pub Timers : Type 0
Timers = table.FinMap nat_cmp TimerFunction

abbrev pub function_code : Coded TimerFunction
function_code =
    code_by (ℕ × (ℕ × ℕ)) (coded× coded_ℕ (coded× coded_ℕ coded_ℕ)) (λ t. (t.adapter.0, (t.function, t.context)))
    (λ p. record { adapter = record { 0 = p.0 }; function = p.1.0; context = p.1.1 }) (λ _. refl)

abbrev pub timers_code : Coded Timers
timers_code = table.code coded_ℕ function_code

abbrev pub timers_in : BTreeMap ℕ TimerFunction → Timers
timers_in given = table.from_entries given.entries
