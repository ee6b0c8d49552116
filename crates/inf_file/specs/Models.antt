-- How a hardware id leads to an install section (Windows Driver Kit, "INF Version Section", "INF Manufacturer Section",
-- "INF Models Section", "INF DDInstall Section").
use Rattle.std.specs.Prelude.{codes, ℕ, Bool, ◌&&◌, ◌||◌, List, [], ◌∷◌, ◌++◌, take, drop, Option, None, if◌then◌else◌}
use Rattle.std.specs.List.{list_any, flat_map, filter_map}
use Rattle.std.specs.Option.{option_or}
use Rattle.inf_text.specs.Names.{is_same}
use Rattle.inf_text.specs.Sections.{Line, Section, place_named, lines_at, has_key, value_at}
use Rattle.inf_file.specs.Strings.{Strings, replaced}
use Rattle.inf_file.specs.Earliest.{earliest}

unfoldable pub is_good_signature : List ℕ → Bool
is_good_signature text = is_same (codes "$Windows NT$") text || (is_same (codes "$Chicago$") text || is_same (codes "$Windows 95$") text)

unfoldable pub is_signed_by : Line → Bool
is_signed_by line = has_key (codes "Signature") line && is_good_signature (value_at 0 line)

-- the lines of [Version] have a good signature
unfoldable pub is_signed : List Line → Bool
is_signed lines = list_any is_signed_by lines

unfoldable pub dotted : List ℕ → List ℕ → List ℕ
dotted name decoration = name ++ 46 ∷ decoration

-- the names of a section for i386, the closest first
unfoldable pub usual_names : List ℕ → List (List ℕ)
usual_names name = dotted name (codes "NTx86") ∷ dotted name (codes "NT") ∷ name ∷ []

-- the place of the first section that exists of these names
unfoldable pub first_place : List (List ℕ) → List Section → Option ℕ
first_place [] sections = None
first_place (name ∷ names) sections = option_or (place_named name sections) (first_place names sections)

unfoldable pub is_nt_x86 : List ℕ → Bool
is_nt_x86 decoration = is_same (codes "NTx86") (take 5 decoration)

-- the place of the section with a decoration, where that is meant for i386
unfoldable pub decoration_place : Strings → List Section → List ℕ → List ℕ → Option ℕ
decoration_place strings sections name decoration = if is_nt_x86 (replaced strings decoration) then place_named (dotted name (replaced strings decoration)) sections else None

-- the place of the first section that exists with one of the decorations
unfoldable pub decorated_place : Strings → List Section → List ℕ → List (List ℕ) → Option ℕ
decorated_place strings sections name [] = None
decorated_place strings sections name (d ∷ ds) = option_or (decoration_place strings sections name d) (decorated_place strings sections name ds)

-- a manufacturer's line names its models section, and then the decorations that it has
unfoldable pub models_place : Strings → List Section → Line → Option ℕ
models_place strings sections line =
    let name = replaced strings (value_at 0 line) in
    option_or (decorated_place strings sections name (drop 1 line.values)) (first_place (usual_names name) sections)

-- the model lines of the manufacturers
abbrev pub models : Strings → List Section → List Line → List Line
models strings sections makers = flat_map (lines_at sections) (filter_map (models_place strings sections) makers)

-- a model line, whose values are its install section and then its ids, has the hardware id among these
unfoldable pub has_id : Strings → List ℕ → Line → Bool
has_id strings id model = list_any (λ value. is_same id (replaced strings value)) (drop 1 model.values)

-- the first line of the file among the model lines that have the id
abbrev pub model_of : Strings → List Section → List Line → List ℕ → Option Line
model_of strings sections makers id = earliest (has_id strings id) (models strings sections makers)

-- the place of the install section that a model line names
unfoldable pub install_place : Strings → List Section → Line → Option ℕ
install_place strings sections model = first_place (usual_names (replaced strings (value_at 0 model))) sections
