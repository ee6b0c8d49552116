-- The lines that show the parameters of a hardware id, and the line of each refusal of an INF file. (The project's own texts: docs/PRINTED.md.)
use Rattle.std.specs.Prelude.{ℕ, ◌&&◌, nat_le, if◌then◌else◌, List, [], ◌∷◌, ◌++◌, codes}
use Rattle.std.specs.List.{flat_map}
use Rattle.nd_base.specs.Text.{hex_word, hex_unit, line, numbered}
use Rattle.inf_file.specs.declared.param.Param.{Param}
use Rattle.inf_file.specs.declared.param.ParamValue.{ParamValue}
use Rattle.inf_file.specs.declared.param.ParamValue.TheVariants.{Text, Number}
use Rattle.inf_text.specs.declared.refusal.InfRefusal.{InfRefusal}
use Rattle.inf_text.specs.declared.refusal.InfRefusal.TheVariants as inf
use Rattle.inf_file.specs.declared.param.ParamRefusal.{ParamRefusal}
use Rattle.inf_file.specs.declared.param.ParamRefusal.TheVariants as param

-- a unit that is a space or a visible ASCII character stands for itself; another is `\u` and its digits
abbrev pub unit_text : ℕ → List ℕ
unit_text unit = if nat_le 0x20 unit && nat_le unit 0x7E then unit ∷ [] else codes "\\u" ++ hex_unit unit

abbrev pub units_text : List ℕ → List ℕ
units_text units = flat_map unit_text units

abbrev pub value_text : ParamValue → List ℕ
value_text (Text units) = codes "string " ++ units_text units
value_text (Number n) = codes "dword " ++ hex_word n

-- a parameter's name, and its text or its number
abbrev pub parameter_line : Param → List ℕ
parameter_line parameter = line (codes "param" ∷ units_text parameter.name ∷ value_text parameter.value ∷ [])

-- what `show-inf` prints of the parameters
unfoldable pub parameter_lines : List Param → List ℕ
parameter_lines parameters = flat_map parameter_line parameters

-- the line of an INF file's refusal
abbrev pub inf_line : InfRefusal → List ℕ
inf_line inf.OutOfMemory = codes "memory\n"
inf_line inf.TooLong = codes "inf too-long\n"
inf_line (inf.BadText at) = numbered (codes "inf") (codes "bad-text") at
inf_line (inf.Line n) = numbered (codes "inf") (codes "line") n

-- the line of a refusal of an id's parameters
abbrev pub parameters_line : ParamRefusal → List ℕ
parameters_line param.OutOfMemory = codes "memory\n"
parameters_line param.NoVersion = codes "inf no-version\n"
parameters_line param.NoModel = codes "inf no-model\n"
parameters_line param.NoInstall = codes "inf no-install\n"
parameters_line (param.NoString n) = numbered (codes "inf") (codes "no-string") n
parameters_line (param.BadValue n) = numbered (codes "inf") (codes "bad-value") n
