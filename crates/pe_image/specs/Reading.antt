-- The reading of a PE32 image for i386, with the first thing that is wrong with it (Microsoft PE/COFF specification).
use Rattle.std.specs.Prelude.{ℕ, Bool, ◌&&◌, ◌||◌, ◌==◌, nat_le, bit_and, is_some, List, length, take, Option, Result, Ok}
use Rattle.std.specs.List.{list_any}
use Rattle.pe_image.specs.declared.refusal.PeRefusal.{PeRefusal}
use Rattle.pe_image.specs.declared.refusal.PeRefusal.TheVariants.{TooLarge, BadEntry, BadDirectory, RelocsStripped}
use Rattle.pe_image.specs.declared.headers.Headers.{Headers}
use Rattle.pe_image.specs.Image.{SectionPart, ImportParts, ImageParts}
use Rattle.pe_image.specs.Headers.{headers_of}
use Rattle.pe_image.specs.Sections.{sections_in}
use Rattle.pe_image.specs.Lookup.{holds_byte, section_with}
use Rattle.pe_image.specs.Relocations.{relocation_section, relocations_in}
use Rattle.pe_image.specs.Imports.{imports_in}
use Rattle.nd_base.specs.Results.{◌>>=◌, require}

-- a section that can be executed has the entry point
abbrev pub has_entry : List SectionPart → (entry : ℕ) → Bool
has_entry parts entry = list_any (λ part. holds_byte part entry && part.section.rights.execute) parts

-- there is no table, or a section has its first byte
abbrev pub is_placed : List SectionPart → (rva : ℕ) → Bool
is_placed parts rva = (rva == 0) || is_some (section_with parts rva)

-- ImageBase is where drivers are mapped, or IMAGE_FILE_RELOCS_STRIPPED is not set
abbrev pub can_be_placed : Headers → Bool
can_be_placed headers = (headers.image.image_base == 0x80100000) || (bit_and headers.file.characteristics 1 == 0)

abbrev pub image_of : List ℕ → Headers → List SectionPart → (relocations : List ℕ) → List ImportParts → ImageParts
image_of bytes headers sections relocations imports = record {
  base = headers.image.image_base;
  entry = headers.image.entry;
  size = headers.image.image_size;
  header_size = headers.image.header_size;
  headers = take headers.image.header_size bytes;
  sections = sections;
  relocations = relocations;
  imports = imports;
}

-- what is left to read behind the relocations
abbrev pub imported : List ℕ → Headers → List SectionPart → (relocations : List ℕ) → Result ImageParts PeRefusal
imported bytes headers sections relocations = do
  _ ← require (can_be_placed headers) RelocsStripped
  imports ← imports_in sections headers.image.imports.rva
  Ok (image_of bytes headers sections relocations imports)

-- what is left to read where the section of the Base Relocation Table is known
abbrev pub relocated : List ℕ → Headers → List SectionPart → (table : Option SectionPart) → Result ImageParts PeRefusal
relocated bytes headers sections table = do
  relocations ← relocations_in sections headers.image.relocations table
  imported bytes headers sections relocations

-- what is left to read behind the sections
abbrev pub entered : List ℕ → Headers → List SectionPart → Result ImageParts PeRefusal
entered bytes headers sections = do
  _ ← require (has_entry sections headers.image.entry) BadEntry
  _ ← require (is_placed sections headers.image.imports.rva) (BadDirectory 1)
  table ← relocation_section sections headers.image.relocations
  relocated bytes headers sections table

-- the image in a file of at most 4 MiB
unfoldable pub reading : List ℕ → Result ImageParts PeRefusal
reading bytes = do
  _ ← require (nat_le (length bytes) 0x400000) TooLarge
  headers ← headers_of bytes
  sections ← sections_in bytes headers
  entered bytes headers sections
