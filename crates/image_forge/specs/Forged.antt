-- What it is that a file is the image of a source (Microsoft PE/COFF specification, "Optional Header", "Section Table", "The .reloc Section"
-- and "The .idata Section"), and why there is none. (Where the parts stand is the project's own: docs/ASSEMBLER.md.)
use Rattle.std.specs.Prelude.{codes, ℕ, ◌≡◌, ◌+◌, ◌*◌, ◌≤◌, ◌⊎◌, true, List, [], ◌∷◌, ◌++◌, length, map, take, drop, Some, None}
use Rattle.std.specs.Str.Lines.{lines}
use Rattle.nd_mem.specs.declared.Rights.{Rights}
use Rattle.pe_image.specs.File.{section_header}
use Rattle.pe_image.specs.Image.{SectionPart, ImportParts, ImageParts}
use Rattle.pe_image.specs.Grammar.{IsImage, section_table_offset}
use Rattle.line_bytes.specs.Tables.{row_of}
use Rattle.sys_forge.specs.Whole.{IsAssembled, IsUnassembled}
use Rattle.line_bytes.specs.declared.piece.Tables.{Tables}
use Rattle.sys_forge.specs.declared.refusal.ForgeRefusal.{ForgeRefusal}
use Rattle.sys_forge.specs.declared.refusal.ForgeRefusal.TheVariants as refusals

-- ---- the section
abbrev pub all_rights : Rights
all_rights = record { read = true; write = true; execute = true }

-- there is one section, of all rights, at RVA 0x1000, and in the file it begins with these bytes
pub record HasText (out : List ℕ) (image : ImageParts) : Type 0 where
  pub part : SectionPart
  pub only : image.sections ≡ part ∷ []
  pub rva : part.section.rva ≡ 0x1000
  pub rights : part.section.rights ≡ all_rights
  pub behind : List ℕ
  pub bytes : part.bytes ≡ out ++ behind

-- the file has these bytes where the first section's raw part begins, of which so many are the section's
pub record HasRawText (file : List ℕ) (raw : ℕ) (out : List ℕ) : Type 0 where
  pub whole : length out ≤ raw
  pub first : take (length out) (drop (section_header file (section_table_offset file)).raw_pointer file) ≡ out

-- ---- the imports
-- a function of the table's place, and its slot is the word that calls of its name go through
pub record IsImport (t : Tables) (place : ℕ) (function : ImportParts) : Type 0 where
  pub dll : function.dll ≡ codes "NDIS.SYS"
  pub number : ℕ
  pub row : row_of t.imports function.name ≡ Some (place, number)
  pub slot : 0x80100000 + function.slot ≡ t.words + 4 * place

-- the functions are those of the table from a place on, in its order
abbrev pub AreImportsFrom : Tables → (place : ℕ) → List ImportParts → Type 0
AreImportsFrom t place [] = place ≡ length t.imports
AreImportsFrom t place (function ∷ functions) = IsImport t place function × AreImportsFrom t (place + 1) functions

-- ---- the image
-- the RVA of a place of the text
abbrev pub rva_of : ℕ → ℕ
rva_of place = 0x1000 + place

-- at 0x80100000, with the entry point at an address, these bytes as text, a relocation for each of these places of it and for no
-- other, and the imports of the tables
pub record IsImageOf (t : Tables) (out places : List ℕ) (address : ℕ) (image : ImageParts) : Type 0 where
  pub base : image.base ≡ 0x80100000
  pub entry : image.base + image.entry ≡ address
  pub text : HasText out image
  pub relocations : image.relocations ≡ map rva_of places
  pub imports : AreImportsFrom t 0 image.imports

-- the file is that of such an image
pub record IsFileOf (t : Tables) (out places : List ℕ) (address : ℕ) (file : List ℕ) : Type 0 where
  pub image : ImageParts
  pub read : IsImage file image
  pub is : IsImageOf t out places address image

-- the file is that of an image of the assembled source, whose entry point is the label's address
pub record IsForged (source label file : List ℕ) : Type 0 where
  pub tables : Tables
  pub out : List ℕ
  pub places : List ℕ
  pub assembled : IsAssembled source tables out places
  pub place : ℕ
  pub address : ℕ
  pub entry : row_of tables.labels label ≡ Some (place, address)
  pub is : IsFileOf tables out places address file

-- ---- why there is none
-- the source is assembled, and none of its labels is the entry's
pub record IsWithoutEntry (source label : List ℕ) : Type 0 where
  pub tables : Tables
  pub out : List ℕ
  pub places : List ℕ
  pub assembled : IsAssembled source tables out places
  pub absent : row_of tables.labels label ≡ None

-- the source is assembled, and one of its labels is
pub record IsWithEntry (source label : List ℕ) : Type 0 where
  pub tables : Tables
  pub out : List ℕ
  pub places : List ℕ
  pub assembled : IsAssembled source tables out places
  pub place : ℕ
  pub address : ℕ
  pub entry : row_of tables.labels label ≡ Some (place, address)

-- want of memory; or the line behind the last is named, where the entry is no label, and where it is and no image was made
abbrev pub IsUnmade : (source label : List ℕ) → ForgeRefusal → Type 0
IsUnmade source label refusals.OutOfMemory = Unit {0}
IsUnmade source label (refusals.Line n) = (n ≡ length (lines source) + 1) × IsWithoutEntry source label
IsUnmade source label (refusals.Range n) = (n ≡ length (lines source) + 1) × IsWithEntry source label

-- the source is not assembled, or no image is made of it
abbrev pub IsUnforged : (source label : List ℕ) → ForgeRefusal → Type 0
IsUnforged source label why = IsUnassembled source why ⊎ IsUnmade source label why
