-- What a file says of its image, as a reader keeps it on the way.
use Rattle.std.specs.Prelude.{◌≡◌, ℕ, List, map, Result, Ok, Err}
use Rattle.std.specs.Option.{option_map}
use Rattle.pe_image.specs.declared.refusal.PeRefusal.{PeRefusal}
use Rattle.pe_image.specs.declared.reading.Placed.{Placed}
use Rattle.pe_image.specs.declared.reading.Contents.{Contents}
use Rattle.pe_image.specs.Gathering.{IsGathered}
use Rattle.pe_image.specs.Image.{ImageParts}
use Rattle.pe_image.specs.Reading.{image_of, relocated, reading}
use Rattle.pe_image.specs.Sections.{seen}

-- The checks that need no memory were all met, and these are the headers, the sections and the section of the Base Relocation Table; or the
-- first that was not met says why the file is refused.
abbrev pub IsPlacing : List ℕ → Result Placed PeRefusal → Type 0
IsPlacing bytes (Ok placed) = reading bytes ≡ relocated bytes placed.headers (map seen placed.parts.items) (option_map seen placed.table)
IsPlacing bytes (Err e) = reading bytes ≡ Err e

-- an image's relocations and imports, unless memory ran out, and the rest of it
pub record Holds (bytes : List ℕ) (contents : Contents) (image : ImageParts) : Type 0 where
  pub relocations : IsGathered contents.relocations image.relocations
  pub imports : IsGathered contents.imports image.imports
  pub rest : image ≡ image_of bytes contents.placed.headers (map seen contents.placed.parts.items) image.relocations image.imports

-- the image that the file has, or why it has none
abbrev pub IsReading : List ℕ → Result Contents PeRefusal → Type 0
IsReading bytes (Ok contents) = (image : ImageParts) × (reading bytes ≡ Ok image) × Holds bytes contents image
IsReading bytes (Err e) = reading bytes ≡ Err e
