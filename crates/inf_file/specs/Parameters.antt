-- The parameters that an INF file gives a hardware id, or why it gives none.
use Rattle.std.specs.Prelude.{codes, ℕ, Bool, List, ◌∷◌, ◌++◌, filter, Option, None, Some, Result, Ok, Err, if◌then◌else◌}
use Rattle.std.specs.List.{filter_map, flat_map}
use Rattle.std.specs.Option.{option_and_then}
use Rattle.inf_text.specs.Sections.{Line, Section, place_named, lines_at, lines_named, has_key}
use Rattle.inf_file.specs.Strings.{Strings, strings_of, replaced, line_lacks}
use Rattle.inf_file.specs.Earliest.{earliest}
use Rattle.inf_file.specs.Models.{is_signed, model_of, install_place}
use Rattle.inf_file.specs.Rows.{is_bad, params_of}
use Rattle.inf_file.specs.declared.param.Param.{Param}
use Rattle.inf_file.specs.declared.param.ParamRefusal.{ParamRefusal}
use Rattle.inf_file.specs.declared.param.ParamRefusal.TheVariants.{NoVersion, NoModel, NoInstall, NoString, BadValue}

abbrev pub strings_in : List Section → Strings
strings_in sections = strings_of (lines_named (codes "Strings") sections)

-- the lines of the manufacturers
abbrev pub makers_in : List Section → List Line
makers_in sections = lines_named (codes "Manufacturer") sections

-- the model line of a hardware id, and the place of the install section that it names
abbrev pub model_in : List Section → List ℕ → Option Line
model_in sections id = model_of (strings_in sections) sections (makers_in sections) id

abbrev pub install_of : List Section → List ℕ → Option ℕ
install_of sections id = option_and_then (install_place (strings_in sections) sections) (model_in sections id)

abbrev pub is_directive : Line → Bool
is_directive line = has_key (codes "AddReg") line

-- the lines of an install section that have the key AddReg
abbrev pub directives_of : List Line → List Line
directives_of lines = filter is_directive lines

-- the places of the sections that values name, in order; one that is absent is skipped
unfoldable pub named_places : Strings → List Section → List (List ℕ) → List ℕ
named_places strings sections values = filter_map (λ value. place_named (replaced strings value) sections) values

-- the places of the add-registry sections that directives name
abbrev pub reg_places : Strings → List Section → List Line → List ℕ
reg_places strings sections directives = named_places strings sections (flat_map (λ line. line.values) directives)

-- the lines of the sections at these places
abbrev pub lines_of_all : List Section → List ℕ → List Line
lines_of_all sections places = flat_map (lines_at sections) places

-- the rows: the lines of the sections that directives name
abbrev pub rows_named : Strings → List Section → List Line → List Line
rows_named strings sections directives = lines_of_all sections (reg_places strings sections directives)

-- the lines that are read: those of the manufacturers, the model's, the AddReg lines and the rows
abbrev pub lines_read : List Line → Line → List Line → List Line → List Line
lines_read makers model directives rows = makers ++ model ∷ (directives ++ rows)

-- unless a row wants a number and has none
abbrev pub unless_bad : Option Line → List Param → Result (List Param) ParamRefusal
unless_bad (Some row) params = Err (BadValue row.number)
unless_bad None params = Ok params

-- unless a line lacks a string
abbrev pub unless_lacking : Option Line → Result (List Param) ParamRefusal → Result (List Param) ParamRefusal
unless_lacking (Some line) answer = Err (NoString line.number)
unless_lacking None answer = answer

abbrev pub of_rows : Strings → List Line → List Line → Result (List Param) ParamRefusal
of_rows strings read rows = unless_lacking (earliest (line_lacks strings) read) (unless_bad (earliest (is_bad strings) rows) (params_of strings rows))

abbrev pub of_directives : Strings → List Section → List Line → Line → List Line → Result (List Param) ParamRefusal
of_directives strings sections makers model directives =
    let rows = rows_named strings sections directives in
    of_rows strings (lines_read makers model directives rows) rows

-- what is answered where this is the model line of a hardware id, and this the place of its install section
abbrev pub answer : List Section → Option Line → Option ℕ → Result (List Param) ParamRefusal
answer sections None install = Err NoModel
answer sections (Some model) None = Err NoInstall
answer sections (Some model) (Some install) = of_directives (strings_in sections) sections (makers_in sections) model (directives_of (lines_at sections install))

unfoldable pub parameters_of : List Section → List ℕ → Result (List Param) ParamRefusal
parameters_of sections id = if is_signed (lines_named (codes "Version") sections) then answer sections (model_in sections id) (install_of sections id) else Err NoVersion
