-- The limits that every image keeps which was read (the project's own), in the words of the Microsoft PE/COFF specification.
use Rattle.std.specs.Prelude.{◌≡◌, ℕ, ◌+◌, ◌<◌, ◌≤◌, List, length, All, None}
use Rattle.nd_mem.specs.Space.{Cells}
use Rattle.pe_image.specs.Image.{ImageParts, ImportParts, IsLaidOut, image_cells, map_refusal}

-- a name of 1 to 255 printable bytes
pub record IsPrintableName (name : List ℕ) : Type 0 where
  pub some : 0 < length name
  pub short : length name < 256
  pub printable : All (λ byte. (0x20 ≤ byte) × (byte ≤ 0x7E)) name

-- an import has such a name, in a DLL of such a name
pub record HasNames (function : ImportParts) : Type 0 where
  pub dll : IsPrintableName function.dll
  pub name : IsPrintableName function.name

pub record IsLimited (image : ImageParts) : Type 0 where
  -- SizeOfImage is at most 4 MiB
  pub size : image.size ≤ 0x400000
  -- the headers, the entry point, and each word that is relocated or gets an import's address lie in it
  pub header_size : image.header_size ≤ image.size
  pub entry : image.entry < image.size
  pub relocations : All (λ rva. rva + 4 ≤ image.size) image.relocations
  pub slots : All (λ function. function.slot + 4 ≤ image.size) image.imports
  -- at most 96 sections, and fewer than 4,097 imports
  pub sections : length image.sections ≤ 96
  pub imports : length image.imports < 4097
  pub names : All HasNames image.imports

-- where a laid out image lies
pub record LiesInItsSize : Type 0 where
  -- it can be mapped wherever its SizeOfImage bytes are free and end at 0xF0000000 or before
  pub taken : (cells : Cells) (base : ℕ) (image : ImageParts) → IsLaidOut image → base + image.size ≤ 0xF0000000 → ((a : ℕ) → base ≤ a → a < base + image.size → cells a ≡ None) → map_refusal cells base image ≡ None
  -- it has nothing outside them
  pub inside : (image : ImageParts) (base : ℕ) (slots : List ℕ) (a : ℕ) → IsLaidOut image → (base ≤ a → base + image.size ≤ a) → image_cells image base slots a ≡ None
  -- and they are at most 4 MiB
  pub size : (image : ImageParts) → IsLaidOut image → image.size ≤ 0x400000
