-- The imports of an image ("The .idata Section" of the PE/COFF specification), and the first thing that is wrong with them. Their
-- structures lie in the sections as they are mapped, and may go on from one section into the next.
use Rattle.std.specs.Prelude.{ℕ, zero, suc, ◌+◌, ◌-◌, Bool, not, ◌&&◌, ◌==◌, nat_le, nat_lt, if◌then◌else◌, List, [], ◌∷◌, ◌++◌, length, Option, None, Some, Result, Ok, Err}
use Rattle.pe_image.specs.declared.refusal.PeRefusal.{PeRefusal}
use Rattle.pe_image.specs.declared.refusal.PeRefusal.TheVariants.{BadImport, Ordinal, TooLarge}
use Rattle.pe_image.specs.declared.imports.Descriptor.{Descriptor}
use Rattle.pe_image.specs.Image.{SectionPart, ImportParts}
use Rattle.pe_image.specs.Lookup.{section_byte, word_at}
use Rattle.nd_base.specs.Results.{◌>>=◌, require}
use Rattle.std.specs.Option.{ok_or}

-- ---- names
abbrev pub is_printable : ℕ → Bool
is_printable byte = nat_le 0x20 byte && nat_le byte 0x7E

-- The printable text at an RVA, up to a zero byte among the first n; or a refusal.
unfoldable pub text_from : List SectionPart → PeRefusal → (rva n : ℕ) → Result (List ℕ) PeRefusal
text_from parts refusal rva zero = Err refusal
text_from parts refusal rva (suc n) = ok_or (section_byte parts rva) refusal >>= λ byte.
    if byte == 0 then Ok []
    else require (is_printable byte) refusal >>= λ _. text_from parts refusal (rva + 1) n >>= λ others. Ok (byte ∷ others)

-- a name of 1 to 255 bytes
unfoldable pub name_at : List SectionPart → ℕ → Result (List ℕ) PeRefusal
name_at parts rva = do
  name ← text_from parts (BadImport rva) rva 256
  _ ← require (not (length name == 0)) (BadImport rva)
  Ok name

-- ---- the functions of one DLL
-- A thunk with bit 31 imports by ordinal. Another is the RVA of two hint bytes and a name.
unfoldable pub named_import : List SectionPart → (dll : List ℕ) → (thunk slot word : ℕ) → Result (Option ImportParts) PeRefusal
named_import parts dll thunk slot word = do
  _ ← require (nat_lt word 0x80000000) (Ordinal thunk)
  _ ← ok_or (word_at parts slot) (BadImport slot)
  name ← name_at parts (word + 2)
  Ok (Some (record { dll = dll; name = name; slot = slot }))

-- what a thunk imports; a zero thunk is the list's end
unfoldable pub import_at : List SectionPart → (dll : List ℕ) → (thunk slot : ℕ) → Result (Option ImportParts) PeRefusal
import_at parts dll thunk slot =
    ok_or (word_at parts thunk) (BadImport thunk) >>= λ word. if word == 0 then Ok None else named_import parts dll thunk slot word

abbrev pub continued : Option ImportParts → Result (List ImportParts) PeRefusal → Result (List ImportParts) PeRefusal
continued None others = Ok []
continued (Some function) others = others >>= λ more. Ok (function ∷ more)

-- the imports of the thunks from an RVA on, of which there may be n
unfoldable pub imports_from : List SectionPart → (dll : List ℕ) → (thunk slot n : ℕ) → Result (List ImportParts) PeRefusal
imports_from parts dll thunk slot zero = import_at parts dll thunk slot >>= λ found. continued found (Err TooLarge)
imports_from parts dll thunk slot (suc n) = import_at parts dll thunk slot >>= λ found. continued found (imports_from parts dll (thunk + 4) (slot + 4) n)

-- ---- the Import Table
abbrev pub field : List SectionPart → (structure rva : ℕ) → Result ℕ PeRefusal
field parts structure rva = ok_or (word_at parts rva) (BadImport structure)

-- A descriptor of 20 bytes: OriginalFirstThunk, TimeDateStamp, ForwarderChain, Name and FirstThunk. All of it lies in the sections, though
-- what TimeDateStamp and ForwarderChain say is not asked for. Its thunks are read at OriginalFirstThunk, or at FirstThunk where that is 0.
unfoldable pub descriptor_at : List SectionPart → ℕ → Result Descriptor PeRefusal
descriptor_at parts rva = do
  original ← field parts rva rva
  _ ← field parts rva (rva + 4)
  _ ← field parts rva (rva + 8)
  name ← field parts rva (rva + 12)
  first ← field parts rva (rva + 16)
  Ok (record { thunks = if original == 0 then first else original; name = name; slots = first })

unfoldable pub imports_of : List SectionPart → Descriptor → (n : ℕ) → Result (List ImportParts) PeRefusal
imports_of parts descriptor n = do
  dll ← name_at parts descriptor.name
  imports_from parts dll descriptor.thunks descriptor.slots n

-- The imports of the descriptors from an RVA on; there may be `count` descriptors and n imports. The specification ends the table with a
-- descriptor of zeros. One whose Name is 0 ends it here, whatever its other fields say.
unfoldable pub descriptors_from : List SectionPart → (rva count n : ℕ) → Result (List ImportParts) PeRefusal
descriptors_from parts rva zero n = Err (BadImport rva)
descriptors_from parts rva (suc count) n = descriptor_at parts rva >>= λ descriptor.
    if descriptor.name == 0 then Ok []
    else imports_of parts descriptor n >>= λ functions. descriptors_from parts (rva + 20) count (n - length functions) >>= λ others. Ok (functions ++ others)

-- as many descriptors as 4 MiB have room for: the next would not be there
abbrev pub most_descriptors : ℕ
most_descriptors = 209715

-- the imports of an image whose Import Table lies at an RVA, if it is not 0
unfoldable pub imports_in : List SectionPart → (rva : ℕ) → Result (List ImportParts) PeRefusal
imports_in parts rva = if rva == 0 then Ok [] else descriptors_from parts rva most_descriptors 4096
