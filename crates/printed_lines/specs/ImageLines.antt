-- The lines that show a driver's image, and the line of each refusal of one. (The project's own texts: docs/PRINTED.md.)
use Rattle.std.specs.Prelude.{ℕ, Bool, ◌&&◌, ◌==◌, nat_le, if◌then◌else◌, List, [], ◌∷◌, ◌++◌, map, codes}
use Rattle.std.specs.List.{flat_map}
use Rattle.nd_base.specs.Text.{hex_word, line, numbered}
use Rattle.nd_mem.specs.declared.Rights.{Rights}
use Rattle.pe_image.specs.Image.{ImageParts, ImportParts, sections_of}
use Rattle.pe_image.specs.declared.headers.Section.{Section}
use Rattle.pe_image.specs.declared.refusal.PeRefusal.{PeRefusal}
use Rattle.pe_image.specs.declared.refusal.PeRefusal.TheVariants.{OutOfMemory, TooLarge, Short, NotPe, NotI386, NotPe32, BadSection, Overlap, BadEntry, BadDirectory, BadReloc, RelocsStripped, BadImport, Ordinal}

-- the letter of a right that is there, and `-` for one that is missing
abbrev pub right : Bool → ℕ → ℕ
right has letter = if has then letter else 45

-- r, w and x
abbrev pub rights_text : Rights → List ℕ
rights_text rights = right rights.read 114 ∷ right rights.write 119 ∷ right rights.execute 120 ∷ []

-- a byte of a section's name that is no visible ASCII character is shown as `?`
abbrev pub name_byte : ℕ → ℕ
name_byte byte = if nat_le 0x21 byte && nat_le byte 0x7E then byte else 63

-- the bytes up to the first zero
abbrev pub up_to_zero : List ℕ → List ℕ
up_to_zero [] = []
up_to_zero (byte ∷ bytes) = if byte == 0 then [] else byte ∷ up_to_zero bytes

-- an empty name is shown as `-`
abbrev pub or_dash : List ℕ → List ℕ
or_dash [] = codes "-"
or_dash (byte ∷ bytes) = byte ∷ bytes

abbrev pub section_name : List ℕ → List ℕ
section_name name = or_dash (map name_byte (up_to_zero name))

-- ImageBase, AddressOfEntryPoint and SizeOfImage
abbrev pub head_line : ImageParts → List ℕ
head_line image = line (codes "image" ∷ codes "base" ∷ hex_word image.base ∷ codes "entry" ∷ hex_word image.entry ∷ codes "size" ∷ hex_word image.size ∷ [])

-- a section's name, its RVA, its span, the length of its raw part, and its rights
abbrev pub section_line : Section → List ℕ
section_line section = line (codes "section" ∷ section_name section.name ∷ hex_word section.rva ∷ hex_word section.span ∷ hex_word section.raw ∷ rights_text section.rights ∷ [])

-- the three numbers of that line, each behind a space
abbrev pub section_numbers : Section → List ℕ
section_numbers section = (32 ∷ hex_word section.rva) ++ (32 ∷ hex_word section.span) ++ (32 ∷ hex_word section.raw)

-- an import's DLL and name, and the RVA of its slot
abbrev pub import_line : ImportParts → List ℕ
import_line import = line (codes "import" ∷ import.dll ∷ import.name ∷ hex_word import.slot ∷ [])

-- the RVA of a relocated word
abbrev pub relocation_line : ℕ → List ℕ
relocation_line rva = line (codes "reloc" ∷ hex_word rva ∷ [])

-- what `show-image` prints of an image
unfoldable pub image_lines : ImageParts → List ℕ
image_lines image = head_line image ++ flat_map section_line (sections_of image) ++ flat_map import_line image.imports ++ flat_map relocation_line image.relocations

-- the line of a refusal
abbrev pub image_line : PeRefusal → List ℕ
image_line OutOfMemory = codes "memory\n"
image_line TooLarge = codes "image too-large\n"
image_line (Short at) = numbered (codes "image") (codes "short") at
image_line NotPe = codes "image not-pe\n"
image_line NotI386 = codes "image not-i386\n"
image_line NotPe32 = codes "image not-pe32\n"
image_line (BadSection n) = numbered (codes "image") (codes "bad-section") n
image_line (Overlap n) = numbered (codes "image") (codes "overlap") n
image_line BadEntry = codes "image bad-entry\n"
image_line (BadDirectory n) = numbered (codes "image") (codes "bad-directory") n
image_line (BadReloc at) = numbered (codes "image") (codes "bad-reloc") at
image_line RelocsStripped = codes "image relocs-stripped\n"
image_line (BadImport at) = numbered (codes "image") (codes "bad-import") at
image_line (Ordinal at) = numbered (codes "image") (codes "ordinal") at

-- the line of an import that is not served
abbrev pub unknown_import_line : List ℕ → List ℕ
unknown_import_line name = line (codes "image" ∷ codes "unknown-import" ∷ name ∷ [])
