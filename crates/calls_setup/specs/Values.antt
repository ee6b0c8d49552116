-- The values of parameters as the code has them.
use Rattle.std.specs.Prelude.{◌≤◌, ◌*◌, length, ⊤, Option}
use Rattle.std.specs.Option.{option_map}
use Rattle.import_answers.specs.Configuration.{Read, Integer, String}
use Rattle.calls_setup.specs.declared.values.Value.{Value}
use Rattle.calls_setup.specs.declared.values.Value.TheVariants as variant

abbrev pub read_in : Value → Read
read_in (variant.Integer n) = Integer n
read_in (variant.Text text) = String text.now

abbrev pub read_in_some : Option Value → Option Read
read_in_some found = option_map read_in found

-- the bytes of a string are counted in two bytes
abbrev pub IsShort : Value → Type 0
IsShort (variant.Integer n) = ⊤
IsShort (variant.Text text) = 2 * length text.now ≤ 65535
