-- What the sections of an image have at an RVA once they are mapped: a raw part, and zeros behind it.
use Rattle.std.specs.Prelude.{ℕ, ◌+◌, ◌-◌, Bool, ◌&&◌, nat_le, nat_lt, if◌then◌else◌, List, [], ◌∷◌, slice_index, Option, None, Some}
use Rattle.std.specs.List.{list_any}
use Rattle.std.specs.Option.{option_map}
use Rattle.byteorder.specs.Endian.{little_number}
use Rattle.nd_base.specs.Options.{◌>>=◌}
use Rattle.pe_image.specs.Image.{SectionPart}

-- a section has the byte at an RVA; the 4 bytes of the word there
abbrev pub holds_byte : SectionPart → ℕ → Bool
holds_byte part rva = nat_le part.section.rva rva && nat_lt rva (part.section.rva + part.section.span)

abbrev pub holds_word : SectionPart → ℕ → Bool
holds_word part rva = nat_le part.section.rva rva && nat_le (rva + 4) (part.section.rva + part.section.span)

-- the byte, the 2-byte number and the 4-byte number that a section has at an RVA
abbrev pub byte_of : SectionPart → ℕ → ℕ
byte_of part rva = slice_index part.bytes (rva - part.section.rva)

unfoldable pub half_of : SectionPart → ℕ → ℕ
half_of part rva = little_number 2 (byte_of part rva ∷ byte_of part (rva + 1) ∷ [])

unfoldable pub word_of : SectionPart → ℕ → ℕ
word_of part rva = little_number 4 (byte_of part rva ∷ byte_of part (rva + 1) ∷ byte_of part (rva + 2) ∷ byte_of part (rva + 3) ∷ [])

-- the section that has the byte at an RVA
abbrev pub section_with : List SectionPart → ℕ → Option SectionPart
section_with [] rva = None
section_with (part ∷ parts) rva = if holds_byte part rva then Some part else section_with parts rva

-- all 4 bytes of the word at an RVA are in one section
abbrev pub has_word : List SectionPart → ℕ → Bool
has_word parts rva = list_any (λ part. holds_word part rva) parts

-- the byte at an RVA, where a section has it
unfoldable pub section_byte : List SectionPart → ℕ → Option ℕ
section_byte parts rva = option_map (λ part. byte_of part rva) (section_with parts rva)

-- the word of four bytes, where each is there
abbrev pub word_from : (first second third fourth : Option ℕ) → Option ℕ
word_from first second third fourth = do
  a ← first
  b ← second
  c ← third
  d ← fourth
  Some (little_number 4 (a ∷ b ∷ c ∷ d ∷ []))

-- the word at an RVA, where each of its bytes is in a section, though not all of them need be in the same
unfoldable pub word_at : List SectionPart → ℕ → Option ℕ
word_at parts rva = word_from (section_byte parts rva) (section_byte parts (rva + 1)) (section_byte parts (rva + 2)) (section_byte parts (rva + 3))
