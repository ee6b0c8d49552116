-- A PE32 image as its parts, and the memory that it fills once it is mapped (Microsoft PE/COFF specification, "Section Table",
-- "The .reloc Section" and "The .idata Section"). An RVA is an address less that of the image's first byte.
use Rattle.std.specs.Prelude.{◌≡◌, ℕ, ◌+◌, ◌-◌, ◌%◌, ◌^◌, ◌<◌, ◌≤◌, ◌⊎◌, ◌&&◌, true, false, nat_le, nat_lt, if◌then◌else◌, List, [], ◌∷◌, length, map, take, slice_index, Option, None, Some, is_some, All, Any}
use Rattle.std.specs.List.{AllPairs}
use Rattle.byteorder.specs.Endian.{little_number, little_bytes}
use Rattle.nd_mem.specs.Cell.{Cell, cell_with}
use Rattle.std.specs.Option.{option_or}
use Rattle.nd_mem.specs.Space.{Cells, byte_in, region_refusal}
use Rattle.nd_mem.specs.declared.Rights.{Rights}
use Rattle.nd_mem.specs.declared.RegionRefusal.{RegionRefusal}
use Rattle.pe_image.specs.declared.headers.Section.{Section}
use Rattle.pe_image.specs.declared.imports.Import.{Import}

-- a section, and its raw part: those of its bytes that are in the file
pub record SectionPart : Type 0 where
  pub section : Section
  pub bytes : List ℕ

-- an imported function: its DLL, its name, and the RVA of the word that gets its address
abbrev pub ImportParts : Type 0
ImportParts = Import

-- ImageBase, AddressOfEntryPoint, SizeOfImage, SizeOfHeaders, the headers themselves as far as the file has them, the sections, the RVA
-- of each word that is relocated, in order, and the imports in the order of the file
pub record ImageParts : Type 0 where
  pub base : ℕ
  pub entry : ℕ
  pub size : ℕ
  pub header_size : ℕ
  pub headers : List ℕ
  pub sections : List SectionPart
  pub relocations : List ℕ
  pub imports : List ImportParts

-- each section with its bytes
abbrev pub section_parts : List Section → List (List ℕ) → List SectionPart
section_parts [] contents = []
section_parts (section ∷ sections) [] = []
section_parts (section ∷ sections) (bytes ∷ contents) = record { section = section; bytes = bytes } ∷ section_parts sections contents

abbrev pub sections_of : ImageParts → List Section
sections_of image = map (λ part. part.section) image.sections

-- ---- what the file has at an address
-- what a range of n bytes from `at` on, which begins with these bytes and goes on with zeros, has at an address
abbrev pub range_cell : (at n : ℕ) → List ℕ → Rights → ℕ → Option Cell
range_cell at n bytes rights a =
    if nat_le at a && nat_lt a (at + n) then Some (record { byte = slice_index bytes (a - at); rights = rights }) else None

abbrev pub read_only : Rights
read_only = record { read = true; write = false; execute = false }

abbrev pub section_cell : (base : ℕ) → SectionPart → ℕ → Option Cell
section_cell base part a = range_cell (base + part.section.rva) part.section.span part.bytes part.section.rights a

abbrev pub sections_cell : (base : ℕ) → List SectionPart → ℕ → Option Cell
sections_cell base [] a = None
sections_cell base (part ∷ parts) a = option_or (section_cell base part a) (sections_cell base parts a)

-- what the file's bytes, laid out from `base` on, have at an address: the headers for reading alone, and each section with its rights
abbrev pub image_cell : ImageParts → (base a : ℕ) → Option Cell
image_cell image base a = option_or (range_cell base image.header_size image.headers read_only a) (sections_cell base image.sections a)

-- ---- what the loader changes of it
-- bytes from an address on become these: rights stay, and what is not mapped stays so
abbrev pub overlay : Cells → (at : ℕ) → List ℕ → Cells
overlay cells at bytes a =
    if nat_le at a && nat_lt a (at + length bytes) then cell_with (slice_index bytes (a - at)) (cells a) else cells a

-- the little-endian number in the 4 bytes from an address on
abbrev pub word_in : Cells → ℕ → ℕ
word_in cells a =
    little_number 4 (byte_in (cells a) ∷ byte_in (cells (a + 1)) ∷ byte_in (cells (a + 2)) ∷ byte_in (cells (a + 3)) ∷ [])

abbrev pub with_word : Cells → (at word : ℕ) → Cells
with_word cells at word = overlay cells at (little_bytes 4 word)

-- how far an image at `base` lies behind its ImageBase, modulo 2^32
abbrev pub delta : ImageParts → (base : ℕ) → ℕ
delta image base = (base + 2 ^ 32 - image.base) % 2 ^ 32

-- an IMAGE_REL_BASED_HIGHLOW relocation at each of these RVAs, one after the other: a word of the image gets the difference added
unfoldable pub relocated : (base difference : ℕ) → List ℕ → Cells → Cells
relocated base difference [] cells = cells
relocated base difference (rva ∷ rvas) cells =
    relocated base difference rvas (with_word cells (base + rva) ((word_in cells (base + rva) + difference) % 2 ^ 32))

-- the import address table is filled: the word of each import becomes its address, in the order of the imports
unfoldable pub slotted : (base : ℕ) → List ImportParts → (addresses : List ℕ) → Cells → Cells
slotted base [] addresses cells = cells
slotted base (function ∷ functions) [] cells = cells
slotted base (function ∷ functions) (at ∷ addresses) cells =
    slotted base functions addresses (with_word cells (base + function.slot) at)

-- what the image, mapped at `base`, has at each address, where `slots` are the addresses of its imports
abbrev pub image_cells : ImageParts → (base : ℕ) → (slots : List ℕ) → Cells
image_cells image base slots = slotted base image.imports slots (relocated base (delta image base) image.relocations (image_cell image base))

-- an address is none of the 4 bytes of the word at `at`
abbrev pub IsOutside : (at a : ℕ) → Type 0
IsOutside at a = at ≤ a → at + 4 ≤ a

-- the words at two RVAs share no byte
abbrev pub AreWordsApart : ℕ → ℕ → Type 0
AreWordsApart first second = (first + 4 ≤ second) ⊎ (second + 4 ≤ first)

-- what the mapped image has in its headers and its first n sections
abbrev pub front_cells : ImageParts → (base : ℕ) → (slots : List ℕ) → (n : ℕ) → Cells
front_cells image base slots n a =
    if is_some (image_cell (record image { sections = take n image.sections }) base a) then image_cells image base slots a else None

-- Memory has gained nothing, or the headers and the first n of more sections, each of them whole and as the mapped image has it. What was
-- mapped stays.
abbrev pub HasGainedPart : ImageParts → (base : ℕ) → (slots : List ℕ) → (old new : Cells) → Type 0
HasGainedPart image base slots old new =
    ((a : ℕ) → new a ≡ old a) ⊎ ((n : ℕ) × (n < length image.sections) × ((a : ℕ) → new a ≡ option_or (old a) (front_cells image base slots n a)))

-- ---- whether it can be mapped
abbrev pub sections_refusal : Cells → (base : ℕ) → List Section → Option RegionRefusal
sections_refusal cells base [] = None
sections_refusal cells base (section ∷ sections) = option_or (region_refusal cells (base + section.rva) section.span) (sections_refusal cells base sections)

-- why the image can't be mapped at `base`: the headers' range can't be added, or else the first section's that can't
abbrev pub map_refusal : Cells → (base : ℕ) → ImageParts → Option RegionRefusal
map_refusal cells base image = option_or (region_refusal cells base image.header_size) (sections_refusal cells base (sections_of image))

-- ---- what each image that was read keeps
-- the byte at an RVA is one of the section's
pub record HoldsByte (rva : ℕ) (part : SectionPart) : Type 0 where
  pub from : part.section.rva ≤ rva
  pub to : rva < part.section.rva + part.section.span

-- all 4 bytes of the word at an RVA are
pub record HoldsWord (rva : ℕ) (part : SectionPart) : Type 0 where
  pub from : part.section.rva ≤ rva
  pub to : rva + 4 ≤ part.section.rva + part.section.span

-- no byte is in both sections
abbrev pub AreApart : SectionPart → SectionPart → Type 0
AreApart first second = (rva : ℕ) → HoldsByte rva first → HoldsByte rva second → ⊥

-- a section's bytes lie within the image and behind the headers, and no more than the section has room for are in the file
pub record IsSectionLaidOut (image : ImageParts) (part : SectionPart) : Type 0 where
  pub inside : part.section.rva + part.section.span ≤ image.size
  pub behind_headers : 0 < part.section.span → image.header_size ≤ part.section.rva
  pub raw : length part.bytes ≡ part.section.raw
  pub raw_within : part.section.raw ≤ part.section.span

-- the entry point lies in a section that can be executed
pub record HoldsEntry (image : ImageParts) (part : SectionPart) : Type 0 where
  pub from : part.section.rva ≤ image.entry
  pub to : image.entry < part.section.rva + part.section.span
  pub execute : part.section.rights.execute ≡ true

-- each byte of the word at an RVA is in a section, though not all of them need be in the same
abbrev pub IsInSections : List SectionPart → (rva : ℕ) → Type 0
IsInSections parts rva = (k : ℕ) → k < 4 → Any (HoldsByte (rva + k)) parts

pub record IsLaidOut (image : ImageParts) : Type 0 where
  pub base : image.base < 2 ^ 32
  pub size : image.size ≤ 0x400000
  pub header_size : image.header_size ≤ 0x400000
  pub headers : length image.headers ≤ image.header_size
  pub sections : All (IsSectionLaidOut image) image.sections
  pub apart : AllPairs AreApart image.sections
  pub entry : Any (HoldsEntry image) image.sections
  pub relocations : All (λ rva. Any (HoldsWord rva) image.sections) image.relocations
  pub imports : All (λ function. IsInSections image.sections function.slot) image.imports
