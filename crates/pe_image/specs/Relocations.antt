-- The base relocations of an image ("The .reloc Section" of the PE/COFF specification), and the first that is wrong.
use Rattle.std.specs.Prelude.{ℕ, zero, suc, ◌+◌, ◌-◌, ◌/◌, ◌%◌, Bool, ◌&&◌, ◌||◌, ◌==◌, nat_le, nat_lt, if◌then◌else◌, List, [], ◌∷◌, ◌++◌, Option, None, Some, Result, Ok}
use Rattle.pe_image.specs.declared.refusal.PeRefusal.{PeRefusal}
use Rattle.pe_image.specs.declared.refusal.PeRefusal.TheVariants.{BadReloc, BadDirectory}
use Rattle.pe_image.specs.declared.headers.Directory.{Directory}
use Rattle.pe_image.specs.Image.{SectionPart}
use Rattle.pe_image.specs.Lookup.{half_of, word_of, section_with, has_word}
use Rattle.nd_base.specs.Results.{◌>>=◌, require}
use Rattle.std.specs.Option.{ok_or}

-- An entry has its type in the upper 4 bits and an offset in the page in the lower 12. IMAGE_REL_BASED_ABSOLUTE, 0, says nothing.
-- IMAGE_REL_BASED_HIGHLOW, 3, relocates the word there, which lies in one section.
unfoldable pub relocated_word : List SectionPart → (page rva entry : ℕ) → Result (Option ℕ) PeRefusal
relocated_word parts page rva entry =
    if entry / 4096 == 0 then Ok None
    else require ((entry / 4096 == 3) && has_word parts (page + entry % 4096)) (BadReloc rva) >>= λ _. Ok (Some (page + entry % 4096))

abbrev pub listed : Option ℕ → List ℕ
listed None = []
listed (Some word) = word ∷ []

-- the words that n entries from an RVA on relocate
unfoldable pub entries_from : List SectionPart → SectionPart → (page rva n : ℕ) → Result (List ℕ) PeRefusal
entries_from parts table page rva zero = Ok []
entries_from parts table page rva (suc n) = do
  word ← relocated_word parts page rva (half_of table rva)
  others ← entries_from parts table page (rva + 2) n
  Ok (listed word ++ others)

-- Fewer than 8 bytes are left before the end of the table, or a block of page 0 and size 0 stands there.
abbrev pub is_over : SectionPart → (end rva : ℕ) → Bool
is_over table end rva = nat_lt end (rva + 8) || ((word_of table rva == 0) && (word_of table (rva + 4) == 0))

-- A block has the RVA of its page, its size in bytes, and its entries of 2 bytes, and ends no later than the table.
abbrev pub is_block : (end rva size : ℕ) → Bool
is_block end rva size = nat_le 8 size && (size % 2 == 0) && nat_le (rva + size) end

-- the words that the block at an RVA relocates
unfoldable pub block_at : List SectionPart → SectionPart → (end rva : ℕ) → Result (List ℕ) PeRefusal
block_at parts table end rva = do
  _ ← require (is_block end rva (word_of table (rva + 4))) (BadReloc rva)
  entries_from parts table (word_of table rva) (rva + 8) ((word_of table (rva + 4) - 8) / 2)

-- the words that the blocks from an RVA on relocate, of which there are at most n
unfoldable pub blocks_from : List SectionPart → SectionPart → (end rva n : ℕ) → Result (List ℕ) PeRefusal
blocks_from parts table end rva zero = Ok []
blocks_from parts table end rva (suc n) =
    if is_over table end rva then Ok []
    else block_at parts table end rva >>= λ words. blocks_from parts table end (rva + word_of table (rva + 4)) n >>= λ others. Ok (words ++ others)

-- the section that has all of the Base Relocation Table, where there is one
unfoldable pub relocation_section : List SectionPart → Directory → Result (Option SectionPart) PeRefusal
relocation_section parts directory =
    if directory.rva == 0 then Ok None
    else ok_or (section_with parts directory.rva) (BadDirectory 5) >>= λ part.
    require (nat_le (directory.rva + directory.size) (part.section.rva + part.section.span)) (BadDirectory 5) >>= λ _. Ok (Some part)

-- the words that the table relocates, in order; each of its blocks has at least 8 bytes
unfoldable pub relocations_in : List SectionPart → Directory → Option SectionPart → Result (List ℕ) PeRefusal
relocations_in parts directory None = Ok []
relocations_in parts directory (Some table) = blocks_from parts table (directory.rva + directory.size) directory.rva directory.size
