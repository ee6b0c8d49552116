use Rattle.std.proofs.Common.{◌≡◌, drop}
use Rattle.std.specs.List.{find}
use Rattle.inf_text.specs.Names.{is_same}
use Rattle.import_answers.specs.Configuration.{network_address}
use Rattle.calls_setup.proofs.station_address.network_address.Given as goal

abbrev pub invariant-loop-param : goal.invariant-loop-param
invariant-loop-param l = find (λ p. is_same network_address p.name) (drop l.param-index l.params) ≡ find (λ p. is_same network_address p.name) l.params
