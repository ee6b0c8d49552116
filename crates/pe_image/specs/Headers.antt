-- The headers in front of the section table, and the first thing that is wrong with them.
use Rattle.std.specs.Prelude.{ℕ, ◌+◌, ◌&&◌, ◌==◌, nat_le, List, length, Result, Ok}
use Rattle.pe_image.specs.declared.refusal.PeRefusal.{PeRefusal}
use Rattle.pe_image.specs.declared.refusal.PeRefusal.TheVariants.{Short, NotPe, NotI386, NotPe32, TooLarge}
use Rattle.pe_image.specs.declared.headers.FileHeader.{FileHeader}
use Rattle.pe_image.specs.declared.headers.OptionalHeader.{OptionalHeader}
use Rattle.pe_image.specs.declared.headers.Headers.{Headers}
use Rattle.pe_image.specs.File.{u16_at, u32_at, file_header, optional_header}
use Rattle.nd_base.specs.Results.{◌>>=◌, require}

-- 64 bytes of DOS header, whose e_magic is IMAGE_DOS_SIGNATURE, `MZ`; its e_lfanew is the offset of the signature
unfoldable pub dos_header : List ℕ → Result ℕ PeRefusal
dos_header bytes = do
  _ ← require (nat_le 64 (length bytes)) (Short 0)
  _ ← require (u16_at bytes 0 == 0x5A4D) NotPe
  Ok (u32_at bytes 0x3C)

-- the signature `PE`, 0, 0, and a COFF file header of IMAGE_FILE_MACHINE_I386
unfoldable pub file_header_at : List ℕ → ℕ → Result FileHeader PeRefusal
file_header_at bytes at = do
  _ ← require (nat_le (at + 24) (length bytes)) (Short at)
  _ ← require (u32_at bytes at == 0x4550) NotPe
  _ ← require (u16_at bytes (at + 4) == 0x14C) NotI386
  Ok (file_header bytes at)

-- An optional header of a PE32 image, of as many bytes as SizeOfOptionalHeader says. A file that ends before them is Short. Fewer than the
-- 96 bytes in front of the data directories, or another magic number than that of PE32, are NotPe32.
unfoldable pub optional_header_at : List ℕ → (at size : ℕ) → Result OptionalHeader PeRefusal
optional_header_at bytes at size = do
  _ ← require (nat_le (at + size) (length bytes)) (Short at)
  _ ← require (nat_le 96 size && (u16_at bytes at == 0x10B)) NotPe32
  Ok (optional_header bytes at size)

-- the headers of a file, of an image of at most 4 MiB with at most 96 sections; the section table is behind them
unfoldable pub headers_of : List ℕ → Result Headers PeRefusal
headers_of bytes = do
  signature ← dos_header bytes
  file ← file_header_at bytes signature
  image ← optional_header_at bytes (signature + 24) file.optional_size
  _ ← require (nat_le image.image_size 0x400000 && nat_le file.section_count 96) TooLarge
  Ok (record { file = file; image = image; section_table = signature + 24 + file.optional_size })
