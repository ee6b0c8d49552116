use Rattle.std.proofs.Common.{◌≡◌, ◌<◌, ◌^◌, drop}
use Rattle.std.specs.List.{list_all}
use Rattle.std.specs.Char.{is_digit}
use Rattle.std.specs.Str.Parse.{digits_value_after, digits_value}
use Rattle.calls_setup.proofs.values.digits.Given as goal

abbrev pub invariant-loop-unit : goal.invariant-loop-unit
invariant-loop-unit l = record {
  small : l.value < 2 ^ 32;
  numeral : list_all (λ c. is_digit c l.base) (drop l.unit-index l.text) ≡ list_all (λ c. is_digit c l.base) l.text;
  so_far : digits_value_after l.base l.value (drop l.unit-index l.text) ≡ digits_value l.base l.text;
}
