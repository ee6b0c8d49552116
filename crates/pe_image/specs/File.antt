-- The headers of a PE32 file, as the Microsoft PE/COFF specification lays them out ("COFF File Header", "Optional Header", "Section Table").
-- A file is the list of its bytes, an offset counts bytes from its start, and numbers are little-endian.
use Rattle.std.specs.Prelude.{ℕ, ◌+◌, ◌*◌, not, ◌&&◌, ◌==◌, Bool, nat_lt, nat_le, if◌then◌else◌, List, drop, take, min, bit_and}
use Rattle.byteorder.specs.Endian.{little_number}
use Rattle.nd_mem.specs.declared.Rights.{Rights}
use Rattle.pe_image.specs.declared.headers.FileHeader.{FileHeader}
use Rattle.pe_image.specs.declared.headers.Directory.{Directory}
use Rattle.pe_image.specs.declared.headers.OptionalHeader.{OptionalHeader}
use Rattle.pe_image.specs.declared.headers.SectionHeader.{SectionHeader}
use Rattle.pe_image.specs.declared.headers.Section.{Section}

unfoldable pub u16_at : List ℕ → ℕ → ℕ
u16_at bytes at = little_number 2 (drop at bytes)

unfoldable pub u32_at : List ℕ → ℕ → ℕ
u32_at bytes at = little_number 4 (drop at bytes)

-- the 4 bytes of the signature, and the 20 of the COFF file header behind them
abbrev pub file_header : List ℕ → ℕ → FileHeader
file_header bytes at = record {
  signature = u32_at bytes at;
  machine = u16_at bytes (at + 4);
  section_count = u16_at bytes (at + 6);
  optional_size = u16_at bytes (at + 20);
  characteristics = u16_at bytes (at + 22);
}

-- whether there is a data directory of this number (8 bytes each from offset 96 on): NumberOfRvaAndSizes and SizeOfOptionalHeader
-- may leave it out
abbrev pub has_directory : List ℕ → (at optional_size index : ℕ) → Bool
has_directory bytes at optional_size index = nat_lt index (u32_at bytes (at + 92)) && nat_le (96 + 8 * index + 8) optional_size

-- its RVA and its size; one that is left out has the RVA 0
abbrev pub directory : List ℕ → (at optional_size index : ℕ) → Directory
directory bytes at optional_size index =
    if has_directory bytes at optional_size index
    then record { rva = u32_at bytes (at + 96 + 8 * index); size = u32_at bytes (at + 100 + 8 * index) }
    else record { rva = 0; size = 0 }

-- the fields of the optional header that are asked for; the Import Table is directory 1, the Base Relocation Table directory 5
abbrev pub optional_header : List ℕ → (at optional_size : ℕ) → OptionalHeader
optional_header bytes at optional_size = record {
  magic = u16_at bytes at;
  entry = u32_at bytes (at + 16);
  image_base = u32_at bytes (at + 28);
  image_size = u32_at bytes (at + 56);
  header_size = u32_at bytes (at + 60);
  imports = directory bytes at optional_size 1;
  relocations = directory bytes at optional_size 5;
}

abbrev pub section_header : List ℕ → ℕ → SectionHeader
section_header bytes at = record {
  name = take 8 (drop at bytes);
  virtual_size = u32_at bytes (at + 8);
  virtual_address = u32_at bytes (at + 12);
  raw_size = u32_at bytes (at + 16);
  raw_pointer = u32_at bytes (at + 20);
  characteristics = u32_at bytes (at + 36);
}

-- how many bytes of the image a section takes: VirtualSize, or SizeOfRawData where that is 0
abbrev pub span_of : SectionHeader → ℕ
span_of header = if header.virtual_size == 0 then header.raw_size else header.virtual_size

-- how many of them are in the file: at most SizeOfRawData, and none where PointerToRawData is 0
abbrev pub raw_of : SectionHeader → ℕ
raw_of header = if header.raw_pointer == 0 then 0 else min (span_of header) header.raw_size

-- IMAGE_SCN_MEM_READ, IMAGE_SCN_MEM_WRITE and IMAGE_SCN_MEM_EXECUTE
abbrev pub rights_of : ℕ → Rights
rights_of characteristics = record {
  read = not (bit_and characteristics 0x40000000 == 0);
  write = not (bit_and characteristics 0x80000000 == 0);
  execute = not (bit_and characteristics 0x20000000 == 0);
}

abbrev pub section_of : SectionHeader → Section
section_of header = record {
  name = header.name;
  rva = header.virtual_address;
  span = span_of header;
  raw = raw_of header;
  rights = rights_of header.characteristics;
}
