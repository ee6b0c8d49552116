-- How the crate's own tables hold strings and parameters: each under its name. What a file says does not rest on these words.
use Rattle.std.specs.Prelude.{ℕ, List, map, Option, None, Some, if◌then◌else◌}
use Rattle.std.specs.Option.{option_or}
use Rattle.std.specs.Map.{lookup}
use Rattle.inf_text.specs.Names.{is_same}
use Rattle.inf_file.specs.declared.param.Param.{Param}
use Rattle.inf_file.specs.declared.param.ParamValue.{ParamValue}

-- the string of a key
unfoldable pub string_in : List (List ℕ × List ℕ) → List ℕ → Option (List ℕ)
string_in table key = lookup (is_same key) table

-- the strings with one more, unless its key has a string
abbrev pub or_string : (List ℕ → Option (List ℕ)) → List ℕ → List ℕ → List ℕ → Option (List ℕ)
or_string strings key text = λ asked. option_or (strings asked) (if is_same asked key then Some text else None)

abbrev pub param_in : List ℕ × ParamValue → Param
param_in e = record { name = e.0; value = e.1 }

-- the parameters that a table holds
abbrev pub params_in : List (List ℕ × ParamValue) → List Param
params_in es = map param_in es
