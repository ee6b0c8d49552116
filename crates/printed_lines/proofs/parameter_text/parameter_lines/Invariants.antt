use Rattle.std.proofs.Common.{◌≡◌, take}
use Rattle.std.specs.List.{flat_map}
use Rattle.printed_lines.specs.ParameterLines.{parameter_line}
use Rattle.printed_lines.proofs.parameter_text.parameter_lines.Given as goal

abbrev pub invariant-loop-parameter : goal.invariant-loop-parameter
invariant-loop-parameter l = l.text ≡ flat_map parameter_line (take l.parameter-index l.parameters)
