-- The bytes of an image's sections as they stand in memory, in one list from RVA 0 on, before the memory has them (Microsoft PE/COFF
-- specification, "Section Table" and "The .reloc Section"). They serve proofs alone: private functions say by them what they make on the
-- way to the mapped image, and no public clause cites them.
use Rattle.std.specs.Prelude.{◌≤◌, ℕ, ◌+◌, ◌%◌, ◌^◌, List, [], ◌∷◌, ◌++◌, length, take, drop, replicate, Option, None}
use Rattle.byteorder.specs.Endian.{little_number, little_bytes}
use Rattle.nd_mem.specs.Cell.{Cell}
use Rattle.std.specs.Option.{option_or}
use Rattle.pe_image.specs.declared.headers.Section.{Section}
use Rattle.pe_image.specs.Image.{SectionPart, ImageParts, ImportParts, range_cell, delta}

-- a piece written over the bytes from a place on
abbrev pub written : List ℕ → (at : ℕ) → List ℕ → List ℕ
written bytes at piece = take at bytes ++ (piece ++ drop (at + length piece) bytes)

abbrev pub word_written : List ℕ → (at word : ℕ) → List ℕ
word_written bytes at word = written bytes at (little_bytes 4 word)

-- the word at a place with a difference added, modulo 2^32
abbrev pub word_moved : (difference : ℕ) → List ℕ → (at : ℕ) → List ℕ
word_moved difference bytes at = word_written bytes at ((little_number 4 (drop at bytes) + difference) % 2 ^ 32)

-- each section's raw part at its RVA
unfoldable pub with_sections : List SectionPart → List ℕ → List ℕ
with_sections [] bytes = bytes
with_sections (part ∷ parts) bytes = with_sections parts (written bytes part.section.rva part.bytes)

-- the words at these RVAs moved, one after the other
unfoldable pub with_relocations : (difference : ℕ) → List ℕ → List ℕ → List ℕ
with_relocations difference [] bytes = bytes
with_relocations difference (rva ∷ rvas) bytes = with_relocations difference rvas (word_moved difference bytes rva)

-- each import's address in its slot
unfoldable pub with_addresses : List ImportParts → (addresses : List ℕ) → List ℕ → List ℕ
with_addresses [] addresses bytes = bytes
with_addresses (function ∷ functions) [] bytes = bytes
with_addresses (function ∷ functions) (at ∷ addresses) bytes = with_addresses functions addresses (word_written bytes function.slot at)

-- the bytes of an image that is mapped at `base`, where `slots` are the addresses of its imports
abbrev pub contents_of : ImageParts → (base : ℕ) → (slots : List ℕ) → List ℕ
contents_of image base slots =
    with_addresses image.imports slots (with_relocations (delta image base) image.relocations (with_sections image.sections (replicate image.size 0)))

-- what sections have at an address, where the bytes from RVA 0 on are these
abbrev pub filled_cell : (base : ℕ) → (contents : List ℕ) → List Section → ℕ → Option Cell
filled_cell base contents [] a = None
filled_cell base contents (section ∷ sections) a =
    option_or (range_cell (base + section.rva) section.span (take section.span (drop section.rva contents)) section.rights a) (filled_cell base contents sections a)

-- no byte is in both sections
abbrev pub AreDisjoint : Section → Section → Type 0
AreDisjoint first second = (rva : ℕ) → first.rva ≤ rva → rva + 1 ≤ first.rva + first.span → second.rva ≤ rva → rva + 1 ≤ second.rva + second.span → ⊥

-- a section's bytes are among the first n
abbrev pub EndsWithin : ℕ → Section → Type 0
EndsWithin n section = section.rva + section.span ≤ n

-- a word's bytes are
abbrev pub WordEndsWithin : ℕ → (rva : ℕ) → Type 0
WordEndsWithin n rva = rva + 4 ≤ n

abbrev pub SlotEndsWithin : ℕ → ImportParts → Type 0
SlotEndsWithin n function = function.slot + 4 ≤ n

-- a section's raw part is
abbrev pub RawEndsWithin : ℕ → SectionPart → Type 0
RawEndsWithin n part = part.section.rva + length part.bytes ≤ n
