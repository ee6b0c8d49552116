-- The rows of add-registry sections that give a network adapter its parameters (Windows Driver Kit, "INF AddReg Directive",
-- "Specifying Configuration Parameters for the Advanced Properties Page"): root, subkey, name, flags and value.
use Rattle.std.specs.Prelude.{codes, ℕ, Bool, true, false, ◌&&◌, ◌==◌, List, [], ◌∷◌, ◌++◌, take, drop, Option, None, Some, if◌then◌else◌}
use Rattle.std.specs.List.{fold, filter_map}
use Rattle.inf_text.specs.Names.{is_same}
use Rattle.inf_text.specs.Sections.{Line, value_at}
use Rattle.inf_file.specs.Strings.{Strings, is_empty, replaced}
use Rattle.inf_file.specs.Numbers.{number_of}
use Rattle.inf_file.specs.declared.param.Param.{Param}
use Rattle.inf_file.specs.declared.param.ParamValue.TheVariants.{Text, Number}
use Rattle.inf_file.specs.declared.row.Saying.{Saying}
use Rattle.inf_file.specs.declared.row.Saying.TheVariants.{Nothing, Sets, Defaults, Bad}

abbrev pub text_param : List ℕ → List ℕ → Param
text_param name value = record { name = name; value = Text value }

-- a row of the type FLG_ADDREG_TYPE_DWORD, whose value has to be a number
abbrev pub dword_row : List ℕ → Option ℕ → Saying
dword_row name None = Bad
dword_row name (Some n) = Sets (record { name = name; value = Number n })

-- a row by its flags: 0 is FLG_ADDREG_TYPE_SZ, a string, and 0x00010001 is FLG_ADDREG_TYPE_DWORD; other types say nothing
abbrev pub typed_row : List ℕ → Option ℕ → List ℕ → Saying
typed_row name None value = Nothing
typed_row name (Some flags) value = if flags == 0 then Sets (text_param name value) else if flags == 0x10001 then dword_row name (number_of value) else Nothing

-- a row of the driver's key itself sets a parameter; no flags are those of a string
unfoldable pub driver_key_row : List ℕ → List ℕ → List ℕ → Saying
driver_key_row name flags value = if is_empty flags then Sets (text_param name value) else typed_row name (number_of flags) value

abbrev pub is_zero : Option ℕ → Bool
is_zero None = false
is_zero (Some n) = n == 0

-- `Ndi\params\`, in front of a parameter's name
abbrev pub params_key : List ℕ
params_key = codes "Ndi" ++ 92 ∷ (codes "params" ++ 92 ∷ [])

-- a row of a parameter's key gives its default
unfoldable pub default_row : List ℕ → List ℕ → List ℕ → List ℕ → Saying
default_row subkey name flags value =
    if is_same params_key (take 11 subkey) && (is_same (codes "default") name && is_zero (number_of flags)) then Defaults (text_param (drop 11 subkey) value) else Nothing

abbrev pub row : List ℕ → List ℕ → List ℕ → List ℕ → List ℕ → Saying
row root subkey name flags value = if is_same (codes "HKR") root then (if is_empty subkey then driver_key_row name flags value else default_row subkey name flags value) else Nothing

-- what a line says of the parameters
unfoldable pub saying : Strings → Line → Saying
saying strings line = row (replaced strings (value_at 0 line)) (replaced strings (value_at 1 line)) (replaced strings (value_at 2 line)) (replaced strings (value_at 3 line)) (replaced strings (value_at 4 line))

abbrev pub bad_saying : Saying → Bool
bad_saying Bad = true
bad_saying _ = false

-- a row whose number is none
unfoldable pub is_bad : Strings → Line → Bool
is_bad strings line = bad_saying (saying strings line)

-- a parameter that is there keeps its place and spelling and takes the value; a new one goes last
unfoldable pub with_param : List Param → Param → List Param
with_param [] p = p ∷ []
with_param (q ∷ qs) p = if is_same p.name q.name then record { name = q.name; value = p.value } ∷ qs else q ∷ with_param qs p

-- a parameter that is there stays as it is; a new one goes last
unfoldable pub with_default : List Param → Param → List Param
with_default [] p = p ∷ []
with_default (q ∷ qs) p = if is_same p.name q.name then q ∷ qs else q ∷ with_default qs p

abbrev pub set_by : Saying → Option Param
set_by (Sets p) = Some p
set_by _ = None

abbrev pub default_by : Saying → Option Param
default_by (Defaults p) = Some p
default_by _ = None

-- the default that a line gives
abbrev pub given_default : Strings → Line → Option Param
given_default strings line = default_by (saying strings line)

abbrev pub set_some : List Param → Option Param → List Param
set_some params None = params
set_some params (Some p) = with_param params p

-- a line sets the parameter that it gives
abbrev pub setting : Strings → List Param → Line → List Param
setting strings params line = set_some params (set_by (saying strings line))

-- the parameters of the rows, and behind them the defaults of those that no row sets
unfoldable pub params_of : Strings → List Line → List Param
params_of strings rows = fold with_default (fold (setting strings) [] rows) (filter_map (given_default strings) rows)
