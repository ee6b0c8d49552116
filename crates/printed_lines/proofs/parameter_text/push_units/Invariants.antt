use Rattle.std.proofs.Common.{◌≡◌, ◌++◌, take}
use Rattle.std.specs.List.{flat_map}
use Rattle.printed_lines.specs.ParameterLines.{unit_text}
use Rattle.printed_lines.proofs.parameter_text.push_units.Given as goal

abbrev pub invariant-loop-unit : goal.invariant-loop-unit
invariant-loop-unit l = l.text ≡ l.fn.text ++ flat_map unit_text (take l.unit-index l.units)
