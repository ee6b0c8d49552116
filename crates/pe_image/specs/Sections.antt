-- The sections of an image ("Section Table" of the PE/COFF specification), and the first thing that is wrong with them.
use Rattle.std.specs.Prelude.{ℕ, zero, suc, ◌+◌, ◌≤◌, Bool, not, ◌&&◌, ◌||◌, nat_le, nat_lt, List, [], ◌∷◌, ◌++◌, length, map, min, max, take, drop, Result, Ok}
use Rattle.std.specs.List.{list_any}
use Rattle.pe_image.specs.declared.refusal.PeRefusal.{PeRefusal}
use Rattle.pe_image.specs.declared.refusal.PeRefusal.TheVariants.{Short, BadSection, Overlap}
use Rattle.pe_image.specs.declared.headers.OptionalHeader.{OptionalHeader}
use Rattle.pe_image.specs.declared.headers.SectionHeader.{SectionHeader}
use Rattle.pe_image.specs.declared.headers.Headers.{Headers}
use Rattle.pe_image.specs.declared.sections.Part.{Part}
use Rattle.pe_image.specs.File.{section_header, span_of, raw_of, section_of}
use Rattle.pe_image.specs.Image.{SectionPart}
use Rattle.nd_base.specs.Results.{◌>>=◌, require}

-- the headers of the section table, 40 bytes each
unfoldable pub section_table : List ℕ → (at count : ℕ) → Result (List SectionHeader) PeRefusal
section_table bytes at zero = Ok []
section_table bytes at (suc count) = do
  _ ← require (nat_le (at + 40) (length bytes)) (Short at)
  others ← section_table bytes (at + 40) count
  Ok (section_header bytes at ∷ others)

-- where a section ends in the image
abbrev pub end_of : SectionHeader → ℕ
end_of header = header.virtual_address + span_of header

-- a section lies within the image, and its raw part within the file
abbrev pub is_inside : OptionalHeader → (file_size : ℕ) → SectionHeader → Bool
is_inside image file_size header = nat_le (end_of header) image.image_size && nat_le (header.raw_pointer + raw_of header) file_size

-- a section shares an address with those from `start` on below `end`
abbrev pub meets : SectionHeader → (start end : ℕ) → Bool
meets header start end = nat_lt (max header.virtual_address start) (min (end_of header) end)

-- a section shares an address with the headers or an earlier section
abbrev pub overlaps : OptionalHeader → (earlier : List SectionHeader) → SectionHeader → Bool
overlaps image earlier header = meets header 0 image.header_size || list_any (λ other. meets header other.virtual_address (end_of other)) earlier

-- a section behind earlier ones is right
unfoldable pub section_judged : OptionalHeader → (file_size : ℕ) → (earlier : List SectionHeader) → SectionHeader → Result (Unit {0}) PeRefusal
section_judged image file_size earlier header = do
  _ ← require (is_inside image file_size header) (BadSection (length earlier))
  require (not (overlaps image earlier header)) (Overlap (length earlier))

-- each section is
unfoldable pub sections_judged : OptionalHeader → (file_size : ℕ) → (earlier headers : List SectionHeader) → Result (Unit {0}) PeRefusal
sections_judged image file_size earlier [] = Ok (tt {0})
sections_judged image file_size earlier (header ∷ headers) = do
  _ ← section_judged image file_size earlier header
  sections_judged image file_size (earlier ++ header ∷ []) headers

-- a section with its raw part
abbrev pub section_part : List ℕ → SectionHeader → SectionPart
section_part bytes header = record { section = section_of header; bytes = take (raw_of header) (drop header.raw_pointer bytes) }

-- the sections of a file with these headers
unfoldable pub sections_in : List ℕ → Headers → Result (List SectionPart) PeRefusal
sections_in bytes headers = do
  table ← section_table bytes headers.section_table headers.file.section_count
  _ ← sections_judged headers.image (length bytes) [] table
  Ok (map (section_part bytes) table)

-- a section with its raw part, wherever that lies in memory
abbrev pub seen : Part → SectionPart
seen part = record { section = part.section; bytes = part.raw.now }

-- a raw part lies in the file
abbrev pub HasRawPart : List ℕ → SectionHeader → Type 0
HasRawPart bytes header = header.raw_pointer + raw_of header ≤ length bytes

-- a section ends below 4 MiB
abbrev pub IsLow : SectionPart → Type 0
IsLow part = part.section.rva + part.section.span ≤ 0x400000
