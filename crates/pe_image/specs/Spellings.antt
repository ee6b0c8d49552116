-- How names and sections stand in an image, as the PE/COFF specification has it.
use Rattle.std.specs.Prelude.{◌≡◌, ◌⊎◌, ℕ, ◌+◌, ◌*◌, ◌/◌, ◌%◌, ◌<◌, ◌≤◌, List, [], ◌∷◌, ◌++◌, length, Some, Any}
use Rattle.pe_image.specs.declared.headers.SectionHeader.{SectionHeader}
use Rattle.pe_image.specs.declared.imports.Descriptor.{Descriptor}
use Rattle.pe_image.specs.Image.{SectionPart, ImportParts, HoldsWord}
use Rattle.pe_image.specs.Lookup.{section_byte, word_at, half_of, word_of}
use Rattle.pe_image.specs.Sections.{end_of}

-- the bytes of a text stand one behind the other from an RVA on, each of them printable, and a zero byte behind them
abbrev pub IsText : List SectionPart → ℕ → List ℕ → Type 0
IsText parts rva [] = section_byte parts rva ≡ Some 0
IsText parts rva (byte ∷ text) = (section_byte parts rva ≡ Some byte) × (0x20 ≤ byte) × (byte ≤ 0x7E) × IsText parts (rva + 1) text

-- a name of 1 to 255 bytes
pub record IsName (parts : List SectionPart) (rva : ℕ) (name : List ℕ) : Type 0 where
  pub text : IsText parts rva name
  pub some : 0 < length name
  pub short : length name < 256

-- an address is one of a section's and one of those from `start` on below `end`
pub record IsShared (header : SectionHeader) (start end rva : ℕ) : Type 0 where
  pub from : header.virtual_address ≤ rva
  pub to : rva < end_of header
  pub low : start ≤ rva
  pub high : rva < end

-- ---- the Base Relocation Table
-- a block: the RVA of its page, and its entries
pub record Block : Type 0 where
  pub page : ℕ
  pub entries : List ℕ

-- the page's RVA and the block's size, 4 bytes each, and 2 bytes for each entry
abbrev pub block_size : Block → ℕ
block_size block = 8 + 2 * length block.entries

abbrev pub AreEntries : SectionPart → (rva : ℕ) → List ℕ → Type 0
AreEntries table rva [] = Unit {0}
AreEntries table rva (entry ∷ entries) = (half_of table rva ≡ entry) × AreEntries table (rva + 2) entries

pub record IsBlock (table : SectionPart) (end rva : ℕ) (block : Block) : Type 0 where
  pub page : word_of table rva ≡ block.page
  pub size : word_of table (rva + 4) ≡ block_size block
  pub entries : AreEntries table (rva + 8) block.entries
  pub within : rva + block_size block ≤ end

-- the table is over: fewer than 8 bytes of it are left, or a block of page 0 and size 0 stands there
abbrev pub IsOver : SectionPart → (end rva : ℕ) → Type 0
IsOver table end rva = (end < rva + 8) ⊎ ((word_of table rva ≡ 0) × (word_of table (rva + 4) ≡ 0))

-- blocks stand one behind the other from an RVA on, and behind the last the table is over
abbrev pub AreBlocks : SectionPart → (end rva : ℕ) → List Block → Type 0
AreBlocks table end rva [] = IsOver table end rva
AreBlocks table end rva (block ∷ blocks) = IsBlock table end rva block × AreBlocks table end (rva + block_size block) blocks

-- An entry is a type and an offset in its block's page. One of type 0 says nothing, and one of type 3 relocates a word that lies in
-- one section; there is no other.
abbrev pub Relocates : List SectionPart → (page entry : ℕ) → List ℕ → Type 0
Relocates parts page entry words =
    ((entry / 4096 ≡ 0) × (words ≡ [])) ⊎ ((entry / 4096 ≡ 3) × Any (HoldsWord (page + entry % 4096)) parts × (words ≡ (page + entry % 4096) ∷ []))

abbrev pub RelocateInPage : List SectionPart → (page : ℕ) → (entries words : List ℕ) → Type 0
RelocateInPage parts page [] words = words ≡ []
RelocateInPage parts page (entry ∷ entries) words = (here : List ℕ) × (others : List ℕ) × Relocates parts page entry here × RelocateInPage parts page entries others × (words ≡ here ++ others)

-- the words that blocks relocate, in order
abbrev pub Relocate : List SectionPart → List Block → (words : List ℕ) → Type 0
Relocate parts [] words = words ≡ []
Relocate parts (block ∷ blocks) words = (here : List ℕ) × (others : List ℕ) × RelocateInPage parts block.page block.entries here × Relocate parts blocks others × (words ≡ here ++ others)

-- ---- the Import Table
-- a thunk that is the RVA of two hint bytes and a name, and a word for the function's address
pub record IsThunk (parts : List SectionPart) (dll : List ℕ) (thunk slot : ℕ) (function : ImportParts) : Type 0 where
  pub hint : ℕ
  pub stands : word_at parts thunk ≡ Some hint
  pub some : 0 < hint
  pub by_name : hint < 0x80000000
  pub name : IsName parts (hint + 2) function.name
  pub of_dll : function.dll ≡ dll
  pub of_slot : function.slot ≡ slot
  pub slot_stands : (word : ℕ) × (word_at parts slot ≡ Some word)

-- thunks stand one behind the other from an RVA on, one for each function, and a zero word behind them
abbrev pub AreThunks : List SectionPart → (dll : List ℕ) → (thunk slot : ℕ) → List ImportParts → Type 0
AreThunks parts dll thunk slot [] = word_at parts thunk ≡ Some 0
AreThunks parts dll thunk slot (function ∷ functions) = IsThunk parts dll thunk slot function × AreThunks parts dll (thunk + 4) (slot + 4) functions

-- The words of a descriptor: OriginalFirstThunk, TimeDateStamp and ForwarderChain, of which any numbers may stand, Name and FirstThunk.
-- The thunks are those at OriginalFirstThunk, or at FirstThunk where that is 0.
pub record StandsAt (parts : List SectionPart) (rva : ℕ) (head : Descriptor) : Type 0 where
  pub original : ℕ
  pub original_stands : word_at parts rva ≡ Some original
  pub time_stands : (word : ℕ) × (word_at parts (rva + 4) ≡ Some word)
  pub chain_stands : (word : ℕ) × (word_at parts (rva + 8) ≡ Some word)
  pub name_stands : word_at parts (rva + 12) ≡ Some head.name
  pub first_stands : word_at parts (rva + 16) ≡ Some head.slots
  pub thunks : ((original ≡ 0) × (head.thunks ≡ head.slots)) ⊎ ((0 < original) × (head.thunks ≡ original))

-- a descriptor of a DLL, with the functions of its thunks
pub record IsDescriptor (parts : List SectionPart) (rva : ℕ) (functions : List ImportParts) : Type 0 where
  pub head : Descriptor
  pub stands : StandsAt parts rva head
  pub some : 0 < head.name
  pub dll : List ℕ
  pub dll_name : IsName parts head.name dll
  pub thunks : AreThunks parts dll head.thunks head.slots functions

-- descriptors stand one behind the other from an RVA on, and behind the last one whose Name is 0
abbrev pub AreDescriptors : List SectionPart → (rva : ℕ) → List (List ImportParts) → Type 0
AreDescriptors parts rva [] = (head : Descriptor) × StandsAt parts rva head × (head.name ≡ 0)
AreDescriptors parts rva (functions ∷ others) = IsDescriptor parts rva functions × AreDescriptors parts (rva + 20) others

-- the functions of the DLLs in a row
abbrev pub joined : List (List ImportParts) → List ImportParts
joined [] = []
joined (functions ∷ others) = functions ++ joined others
