-- What the commands that show an input answer and print for its bytes.
use Rattle.std.specs.Prelude.{ℕ, List, Option, None, Some, Result, Ok, Err}
use Rattle.std.specs.List.{flat_map}
use Rattle.std.specs.Str.{chars}
use Rattle.std.specs.Char.Escape.{encode_utf16}
use Rattle.pe_image.specs.Image.{ImageParts}
use Rattle.import_slots.specs.Slots.{first_unknown}
use Rattle.pe_image.specs.Reading.{reading}
use Rattle.pe_image.specs.declared.refusal.PeRefusal.{PeRefusal}
use Rattle.inf_text.specs.Sections.{Section}
use Rattle.inf_text.specs.Reading as inf
use Rattle.inf_file.specs.Parameters.{parameters_of}
use Rattle.inf_file.specs.declared.param.Param.{Param}
use Rattle.inf_file.specs.declared.param.ParamRefusal.{ParamRefusal}
use Rattle.inf_text.specs.declared.refusal.InfRefusal.{InfRefusal}
use Rattle.printed_lines.specs.ParameterLines.{parameter_lines, inf_line, parameters_line}
use Rattle.printed_lines.specs.ImageLines.{image_lines, image_line, unknown_import_line}

-- a status and the text that is printed with it
pub record Answer : Type 0 where
  pub status : ℕ
  pub text : List ℕ

abbrev pub answer : ℕ → List ℕ → Answer
answer status text = record { status = status; text = text }

abbrev pub shown_image_of : Result ImageParts PeRefusal → Answer
shown_image_of (Ok image) = answer 0 (image_lines image)
shown_image_of (Err refusal) = answer 5 (image_line refusal)

-- `show-image` of a file with these bytes
abbrev pub shown_image : List ℕ → Answer
shown_image bytes = shown_image_of (reading bytes)

-- the UTF-16 units of a text
abbrev pub utf16 : List ℕ → List ℕ
utf16 text = flat_map encode_utf16 (chars text)

abbrev pub shown_parameters : Result (List Param) ParamRefusal → Answer
shown_parameters (Ok parameters) = answer 0 (parameter_lines parameters)
shown_parameters (Err refusal) = answer 6 (parameters_line refusal)

abbrev pub shown_sections : List ℕ → Result (List Section) InfRefusal → Answer
shown_sections units (Ok sections) = shown_parameters (parameters_of sections units)
shown_sections units (Err refusal) = answer 6 (inf_line refusal)

-- `show-inf` of a hardware id and a file with these bytes
abbrev pub shown_inf : List ℕ → List ℕ → Answer
shown_inf id bytes = shown_sections (utf16 id) (inf.sections_of bytes)

-- an image of which an import is in no table is refused with the first such name
abbrev pub served : ImageParts → Option (List ℕ) → Result ImageParts (List ℕ)
served image None = Ok image
served image (Some name) = Err (unknown_import_line name)

abbrev pub served_image : Result ImageParts PeRefusal → Result ImageParts (List ℕ)
served_image (Ok image) = served image (first_unknown image.imports)
served_image (Err refusal) = Err (image_line refusal)

-- the image that `run0` runs for a file with these bytes, or the line of its refusal
unfoldable pub judged : List ℕ → Result ImageParts (List ℕ)
judged bytes = served_image (reading bytes)
