-- A PE32 image for i386 and the bytes of its file, as the Microsoft PE/COFF specification lays them out. Nothing here says in which order
-- the parts are looked at, or what is answered where one of them is wrong.
use Rattle.std.specs.Prelude.{◌≡◌, ◌⊎◌, ℕ, ◌+◌, ◌*◌, ◌<◌, ◌≤◌, min, bit_and, List, [], ◌∷◌, length, take, drop, All, Any, AllPairs}
use Rattle.pe_image.specs.declared.headers.Directory.{Directory}
use Rattle.pe_image.specs.declared.headers.SectionHeader.{SectionHeader}
use Rattle.pe_image.specs.File.{u16_at, u32_at, section_header, rights_of}
use Rattle.pe_image.specs.Image.{SectionPart, ImportParts, ImageParts, HoldsByte, AreApart, HoldsEntry}
use Rattle.pe_image.specs.Spellings.{Block, AreBlocks, Relocate, AreDescriptors, joined}

-- ---- where the headers stand
-- e_lfanew, the offset of the signature
abbrev pub signature_offset : List ℕ → ℕ
signature_offset bytes = u32_at bytes 0x3C

-- NumberOfSections, SizeOfOptionalHeader and Characteristics, behind the 4 bytes of the signature
abbrev pub number_of_sections : List ℕ → ℕ
number_of_sections bytes = u16_at bytes (signature_offset bytes + 6)

abbrev pub size_of_optional_header : List ℕ → ℕ
size_of_optional_header bytes = u16_at bytes (signature_offset bytes + 20)

abbrev pub characteristics_of : List ℕ → ℕ
characteristics_of bytes = u16_at bytes (signature_offset bytes + 22)

-- the optional header is behind the signature and the 20 bytes of the COFF file header, and the section table behind that
abbrev pub optional_header_offset : List ℕ → ℕ
optional_header_offset bytes = signature_offset bytes + 24

abbrev pub section_table_offset : List ℕ → ℕ
section_table_offset bytes = optional_header_offset bytes + size_of_optional_header bytes

-- ---- the headers
-- "MS-DOS Stub": 64 bytes, the first two of them `MZ`
pub record HasDosHeader (bytes : List ℕ) : Type 0 where
  pub whole : 64 ≤ length bytes
  pub magic : u16_at bytes 0 ≡ 0x5A4D

-- "Signature" and "COFF File Header": `PE`, 0, 0, and a header of IMAGE_FILE_MACHINE_I386 with at most 96 sections
pub record HasFileHeader (bytes : List ℕ) : Type 0 where
  pub whole : signature_offset bytes + 24 ≤ length bytes
  pub signature : u32_at bytes (signature_offset bytes) ≡ 0x4550
  pub machine : u16_at bytes (signature_offset bytes + 4) ≡ 0x14C
  pub sections : number_of_sections bytes ≤ 96

-- "Optional Header": that of a PE32 image of at most 4 MiB, whose fields in front of the data directories take 96 bytes
pub record HasOptionalHeader (bytes : List ℕ) (image : ImageParts) : Type 0 where
  pub whole : optional_header_offset bytes + size_of_optional_header bytes ≤ length bytes
  pub fields : 96 ≤ size_of_optional_header bytes
  pub magic : u16_at bytes (optional_header_offset bytes) ≡ 0x10B
  pub entry : u32_at bytes (optional_header_offset bytes + 16) ≡ image.entry
  pub base : u32_at bytes (optional_header_offset bytes + 28) ≡ image.base
  pub size : u32_at bytes (optional_header_offset bytes + 56) ≡ image.size
  pub small : image.size ≤ 0x400000
  pub header_size : u32_at bytes (optional_header_offset bytes + 60) ≡ image.header_size
  pub headers : image.headers ≡ take image.header_size bytes

-- "Optional Header Data Directories": NumberOfRvaAndSizes counts the one of this number, and SizeOfOptionalHeader has room for its 8 bytes
pub record HasDirectory (bytes : List ℕ) (index : ℕ) : Type 0 where
  pub counted : index < u32_at bytes (optional_header_offset bytes + 92)
  pub room : 96 + 8 * index + 8 ≤ size_of_optional_header bytes

-- the RVA and the size that it gives a table; a table whose directory is left out has the RVA 0
abbrev pub IsDirectory : List ℕ → (index : ℕ) → Directory → Type 0
IsDirectory bytes index table =
    (HasDirectory bytes index × (table.rva ≡ u32_at bytes (optional_header_offset bytes + 96 + 8 * index)) × (table.size ≡ u32_at bytes (optional_header_offset bytes + 100 + 8 * index)))
    ⊎ ((HasDirectory bytes index → ⊥) × (table.rva ≡ 0) × (table.size ≡ 0))

-- ---- "Section Table"
-- how many bytes of the image a section takes: VirtualSize, or SizeOfRawData where that is 0
abbrev pub IsSpan : SectionHeader → (span : ℕ) → Type 0
IsSpan header span = ((header.virtual_size ≡ 0) × (span ≡ header.raw_size)) ⊎ ((0 < header.virtual_size) × (span ≡ header.virtual_size))

-- how many of them are in the file: at most SizeOfRawData, and none where PointerToRawData is 0
abbrev pub IsRaw : SectionHeader → (span raw : ℕ) → Type 0
IsRaw header span raw = ((header.raw_pointer ≡ 0) × (raw ≡ 0)) ⊎ ((0 < header.raw_pointer) × (raw ≡ min span header.raw_size))

-- a section with this header, whose raw part is in the file
pub record IsSection (bytes : List ℕ) (header : SectionHeader) (part : SectionPart) : Type 0 where
  pub name : part.section.name ≡ header.name
  pub rva : part.section.rva ≡ header.virtual_address
  pub span : IsSpan header part.section.span
  pub raw : IsRaw header part.section.span part.section.raw
  pub rights : part.section.rights ≡ rights_of header.characteristics
  pub within : header.raw_pointer + part.section.raw ≤ length bytes
  pub contents : part.bytes ≡ take part.section.raw (drop header.raw_pointer bytes)

-- headers of 40 bytes stand one behind the other from an offset on, one for each section
abbrev pub AreSections : List ℕ → (at : ℕ) → List SectionPart → Type 0
AreSections bytes at [] = Unit {0}
AreSections bytes at (part ∷ parts) = (at + 40 ≤ length bytes) × IsSection bytes (section_header bytes at) part × AreSections bytes (at + 40) parts

-- a section lies in the image, and none of its addresses is one of the headers
pub record LiesInImage (image : ImageParts) (part : SectionPart) : Type 0 where
  pub inside : part.section.rva + part.section.span ≤ image.size
  pub behind_headers : (rva : ℕ) → HoldsByte rva part → image.header_size ≤ rva

-- the sections are those of the table, and no two of them share an address
pub record HasSections (bytes : List ℕ) (image : ImageParts) : Type 0 where
  pub table : AreSections bytes (section_table_offset bytes) image.sections
  pub each : length image.sections ≡ number_of_sections bytes
  pub inside : All (LiesInImage image) image.sections
  pub apart : AllPairs AreApart image.sections

-- ---- "The .reloc Section"
-- a section has all of the Base Relocation Table, and the table's blocks relocate these words
pub record HasBlocks (parts : List SectionPart) (table : Directory) (words : List ℕ) (part : SectionPart) : Type 0 where
  pub first : HoldsByte table.rva part
  pub whole : table.rva + table.size ≤ part.section.rva + part.section.span
  pub blocks : List Block
  pub stand : AreBlocks part (table.rva + table.size) table.rva blocks
  pub relocate : Relocate parts blocks words

-- an image relocates the words of its table, and none where the table's RVA is 0
abbrev pub AreRelocations : List SectionPart → (table : Directory) → (words : List ℕ) → Type 0
AreRelocations parts table words = ((table.rva ≡ 0) × (words ≡ [])) ⊎ ((0 < table.rva) × Any (HasBlocks parts table words) parts)

-- The Base Relocation Table is directory 5. An image of IMAGE_FILE_RELOCS_STRIPPED has the ImageBase at which drivers are mapped.
pub record HasRelocations (bytes : List ℕ) (image : ImageParts) : Type 0 where
  pub table : Directory
  pub stands : IsDirectory bytes 5 table
  pub words : AreRelocations image.sections table image.relocations
  pub movable : (bit_and (characteristics_of bytes) 1 ≡ 0) ⊎ (image.base ≡ 0x80100000)

-- ---- "The .idata Section"
-- these are the functions of the descriptors from an RVA on, and at most 4,096
pub record HasDescriptors (parts : List SectionPart) (rva : ℕ) (functions : List ImportParts) : Type 0 where
  pub lists : List (List ImportParts)
  pub stand : AreDescriptors parts rva lists
  pub of_lists : functions ≡ joined lists
  pub few : length functions ≤ 4096

-- an image imports the functions of its table, and none where the table's RVA is 0
abbrev pub AreImports : List SectionPart → (rva : ℕ) → List ImportParts → Type 0
AreImports parts rva functions = ((rva ≡ 0) × (functions ≡ [])) ⊎ ((0 < rva) × HasDescriptors parts rva functions)

-- the Import Table is directory 1
pub record HasImports (bytes : List ℕ) (image : ImageParts) : Type 0 where
  pub table : Directory
  pub stands : IsDirectory bytes 1 table
  pub functions : AreImports image.sections table.rva image.imports

-- ---- the whole
-- These are the bytes of a file, at most 4 MiB, and the image in it. A section that can be executed has the entry point.
pub record IsImage (bytes : List ℕ) (image : ImageParts) : Type 0 where
  pub small : length bytes ≤ 0x400000
  pub dos : HasDosHeader bytes
  pub file : HasFileHeader bytes
  pub optional : HasOptionalHeader bytes image
  pub sections : HasSections bytes image
  pub entry : Any (HoldsEntry image) image.sections
  pub relocations : HasRelocations bytes image
  pub imports : HasImports bytes image
