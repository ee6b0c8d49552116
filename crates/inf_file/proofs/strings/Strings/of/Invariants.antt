use Rattle.std.proofs.Common.{◌≡◌, take}
use Rattle.std.specs.List.{fold}
use Rattle.inf_file.specs.Keyed.{string_in}
use Rattle.inf_file.specs.Strings.{with_string, no_strings}
use Rattle.inf_file.proofs.strings.Strings.of.Given as goal

abbrev pub invariant-loop-line : goal.invariant-loop-line
invariant-loop-line l = string_in l.strings ≡ fold with_string no_strings (take l.line-index l.lines)
