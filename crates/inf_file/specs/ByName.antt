-- The parameters of a hardware id, name by name (Windows Driver Kit, "INF AddReg Directive"): which rows give it parameters,
-- and which of them gives a name its value.
use Rattle.std.specs.Prelude.{ℕ, Bool, List, [], map, Option, None, Some}
use Rattle.std.specs.List.{filter_map, find}
use Rattle.std.specs.Option.{option_map}
use Rattle.indexmap.specs.IndexSet.{insert_all}
use Rattle.inf_text.specs.Names.{is_same}
use Rattle.inf_text.specs.Sections.{Line, Section, lines_at}
use Rattle.inf_file.specs.Strings.{line_lacks}
use Rattle.inf_file.specs.Earliest.{HasNone, HasFirst}
use Rattle.inf_file.specs.Models.{models, has_id}
use Rattle.inf_file.specs.Parameters.{strings_in, makers_in, model_in, install_of, directives_of, rows_named, lines_read}
use Rattle.inf_file.specs.Rows.{is_bad, saying, set_by, given_default}
use Rattle.inf_file.specs.declared.param.Param.{Param}
use Rattle.inf_file.specs.declared.param.ParamValue.{ParamValue}

-- the model lines of all manufacturers, and those of them that list a hardware id
abbrev pub models_in : List Section → List Line
models_in sections = models (strings_in sections) sections (makers_in sections)

abbrev pub lists_id : List Section → List ℕ → Line → Bool
lists_id sections id model = has_id (strings_in sections) id model

-- the lines of the section at a place, if there is one
abbrev pub lines_at_some : List Section → Option ℕ → List Line
lines_at_some sections None = []
lines_at_some sections (Some place) = lines_at sections place

-- the AddReg lines of the install section
abbrev pub directives_in : List Section → List ℕ → List Line
directives_in sections id = directives_of (lines_at_some sections (install_of sections id))

-- the rows of the sections that these name
unfoldable pub rows_of : List Section → List ℕ → List Line
rows_of sections id = rows_named (strings_in sections) sections (directives_in sections id)

-- the parameters that these rows set, a name as often as rows set it
abbrev pub set_by_rows : List Section → List ℕ → List Param
set_by_rows sections id = filter_map (λ row. set_by (saying (strings_in sections) row)) (rows_of sections id)

-- the defaults that they give
abbrev pub defaults_by_rows : List Section → List ℕ → List Param
defaults_by_rows sections id = filter_map (given_default (strings_in sections)) (rows_of sections id)

abbrev pub names : List Param → List (List ℕ)
names params = map (λ p. p.name) params

-- each name once, as it was spelled first: the keys of a set that names are put into one after the other
abbrev pub each_once : List (List ℕ) → List (List ℕ)
each_once all = insert_all is_same [] all

-- the first value of a name
abbrev pub value_of : List ℕ → List Param → Option ParamValue
value_of name params = option_map (λ p. p.value) (find (λ p. is_same name p.name) params)

-- ---- the line at fault where there are no parameters: of all such lines the one with the least number

-- the lines that are read where this is the model line
abbrev pub lines_with : List Section → List Line → List Line → Option Line → List Line
lines_with sections directives rows None = []
lines_with sections directives rows (Some model) = lines_read (makers_in sections) model directives rows

abbrev pub lines_for : List Section → List ℕ → List Line
lines_for sections id = lines_with sections (directives_in sections id) (rows_of sections id) (model_in sections id)

-- no line that is read lacks a string
abbrev pub LacksNone : List Section → List ℕ → Type 0
LacksNone sections id = HasNone (line_lacks (strings_in sections)) (lines_for sections id)

abbrev pub FirstLacking : List Section → List ℕ → ℕ → Type 0
FirstLacking sections id n = HasFirst (line_lacks (strings_in sections)) (lines_for sections id) n

-- no row that wants a number has none
abbrev pub BadNone : List Section → List ℕ → Type 0
BadNone sections id = HasNone (is_bad (strings_in sections)) (rows_of sections id)

abbrev pub FirstBad : List Section → List ℕ → ℕ → Type 0
FirstBad sections id n = HasFirst (is_bad (strings_in sections)) (rows_of sections id) n
