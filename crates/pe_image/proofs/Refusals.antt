-- A file is refused for what is wrong with it, and never for want of memory.
use Rattle.std.proofs.Common.{◌≡◌, ℕ, zero, suc, ◌+◌, ◌-◌, ◌/◌, ◌&&◌, ◌==◌, not, Bool, true, false, if◌then◌else◌, nat_le, nat_lt, List, [], ◌∷◌, ◌++◌, length, Option, None, Some, Result, Ok, Err, ap}
use Rattle.std.specs.Option.{ok_or}
use Rattle.nd_base.specs.Results.{◌>>=◌, require}
use Rattle.pe_image.specs.declared.refusal.PeRefusal.{PeRefusal}
use Rattle.pe_image.specs.declared.refusal.PeRefusal.TheVariants.{OutOfMemory, TooLarge, Short, NotPe, NotI386, NotPe32, BadSection, Overlap, BadEntry, BadDirectory, BadReloc, RelocsStripped, BadImport, Ordinal}
use Rattle.pe_image.specs.declared.headers.Directory.{Directory}
use Rattle.pe_image.specs.declared.headers.OptionalHeader.{OptionalHeader}
use Rattle.pe_image.specs.declared.headers.SectionHeader.{SectionHeader}
use Rattle.pe_image.specs.declared.headers.Headers.{Headers}
use Rattle.pe_image.specs.declared.imports.Descriptor.{Descriptor}
use Rattle.pe_image.specs.File.{u16_at, u32_at, file_header, optional_header}
use Rattle.pe_image.specs.Headers.{dos_header, file_header_at, optional_header_at, headers_of}
use Rattle.pe_image.specs.Image.{SectionPart, ImportParts}
use Rattle.pe_image.specs.Sections.{section_table, is_inside, overlaps, section_judged, sections_judged, sections_in}
use Rattle.pe_image.specs.Lookup.{section_byte, word_at, section_with, half_of, word_of}
use Rattle.pe_image.specs.Relocations.{relocated_word, entries_from, block_at, blocks_from, relocation_section, relocations_in}
use Rattle.pe_image.specs.Imports.{is_printable, text_from, name_at, named_import, import_at, continued, imports_from, field, descriptor_at, imports_of, descriptors_from, most_descriptors, imports_in}
use Rattle.pe_image.specs.Reading.{has_entry, is_placed, can_be_placed, image_of, reading}

-- an answer is no want of memory
abbrev IsDue : {A : Type 0} → Result A PeRefusal → Type 0
IsDue r = r ≡ Err OutOfMemory → ⊥

abbrev failed : {A : Type 0} → PeRefusal → Result A PeRefusal
failed e = Err e

same_refusal : {A : Type 0} (e d : PeRefusal) → failed {A = A} e ≡ failed d → e ≡ d
same_refusal e d h = cc

then_due : {A B : Type 0} (r : Result A PeRefusal) (f : A → Result B PeRefusal) → IsDue r → ((x : A) → IsDue (f x)) → IsDue (r >>= f)
then_due (Ok x) f first rest = rest x
then_due {A} (Err e) f first rest = λ h. first (ap (failed {A = A}) (same_refusal e OutOfMemory h))

require_due : (b : Bool) (e : PeRefusal) → (e ≡ OutOfMemory → ⊥) → IsDue (require b e)
require_due true e other = λ h. cc
require_due false e other = λ h. other (same_refusal e OutOfMemory h)

found_due : {A : Type 0} (o : Option A) (e : PeRefusal) → (e ≡ OutOfMemory → ⊥) → IsDue (ok_or o e)
found_due None e other = λ h. other (same_refusal e OutOfMemory h)
found_due (Some x) e other = λ h. cc

ok_due : {A : Type 0} (x : A) → IsDue (Ok x)
ok_due x = λ h. cc

either_due : {A : Type 0} (b : Bool) (x y : Result A PeRefusal) → IsDue x → IsDue y → IsDue (if b then x else y)
either_due true x y first second = first
either_due false x y first second = second

-- ---- headers
dos_due : (bytes : List ℕ) → IsDue (dos_header bytes)
unfolding dos_header
dos_due bytes = then_due _ _ (require_due (nat_le 64 (length {A = ℕ} bytes)) (Short 0) (λ h. cc)) (λ _. then_due _ _ (require_due (u16_at bytes 0 == 23117) NotPe (λ h. cc)) (λ _. ok_due (u32_at bytes 60)))

file_due : (bytes : List ℕ) (at : ℕ) → IsDue (file_header_at bytes at)
unfolding file_header_at
file_due bytes at = then_due _ _ (require_due (nat_le (at + 24) (length {A = ℕ} bytes)) (Short at) (λ h. cc)) (λ _. then_due _ _ (require_due (u32_at bytes at == 17744) NotPe (λ h. cc)) (λ _. then_due _ _ (require_due (u16_at bytes (at + 4) == 332) NotI386 (λ h. cc)) (λ _. ok_due (file_header bytes at))))

optional_due : (bytes : List ℕ) (at size : ℕ) → IsDue (optional_header_at bytes at size)
unfolding optional_header_at
optional_due bytes at size = then_due _ _ (require_due (nat_le (at + size) (length {A = ℕ} bytes)) (Short at) (λ h. cc)) (λ _. then_due _ _ (require_due (nat_le 96 size && u16_at bytes at == 267) NotPe32 (λ h. cc)) (λ _. ok_due (optional_header bytes at size)))

headers_due : (bytes : List ℕ) → IsDue (headers_of bytes)
unfolding headers_of
headers_due bytes = then_due _ _ (dos_due bytes) (λ at. then_due _ _ (file_due bytes at) (λ file. then_due _ _ (optional_due bytes (at + 24) file.optional_size) (λ image. then_due _ _ (require_due _ TooLarge (λ h. cc)) (λ _. ok_due _))))

-- ---- sections
table_due : (bytes : List ℕ) (at count : ℕ) → IsDue (section_table bytes at count)
unfolding section_table
table_due bytes at zero = ok_due []
table_due bytes at (suc count) = then_due _ _ (require_due _ (Short at) (λ h. cc)) (λ _. then_due _ _ (table_due bytes (at + 40) count) (λ others. ok_due _))

section_due : (image : OptionalHeader) (file_size : ℕ) (earlier : List SectionHeader) (header : SectionHeader) → IsDue (section_judged image file_size earlier header)
unfolding section_judged
section_due image file_size earlier header = then_due _ _ (require_due (is_inside image file_size header) (BadSection (length earlier)) (λ h. cc)) (λ _. require_due (not (overlaps image earlier header)) (Overlap (length earlier)) (λ h. cc))

judged_due : (image : OptionalHeader) (file_size : ℕ) (earlier headers : List SectionHeader) → IsDue (sections_judged image file_size earlier headers)
unfolding sections_judged
judged_due image file_size earlier [] = ok_due _
judged_due image file_size earlier (header ∷ headers) = then_due _ _ (section_due image file_size earlier header) (λ _. judged_due image file_size (earlier ++ header ∷ []) headers)

sections_due : (bytes : List ℕ) (headers : Headers) → IsDue (sections_in bytes headers)
unfolding sections_in
sections_due bytes headers = then_due _ _ (table_due bytes headers.section_table headers.file.section_count) (λ table. then_due _ _ (judged_due headers.image (length bytes) [] table) (λ _. ok_due _))

-- ---- relocations
word_due : (parts : List SectionPart) (page rva entry : ℕ) → IsDue (relocated_word parts page rva entry)
unfolding relocated_word
word_due parts page rva entry = either_due _ _ _ (ok_due _) (then_due _ _ (require_due _ (BadReloc rva) (λ h. cc)) (λ _. ok_due _))

entries_due : (parts : List SectionPart) (table : SectionPart) (page rva n : ℕ) → IsDue (entries_from parts table page rva n)
unfolding entries_from
entries_due parts table page rva zero = ok_due _
entries_due parts table page rva (suc n) = then_due _ _ (word_due parts page rva (half_of table rva)) (λ word. then_due _ _ (entries_due parts table page (rva + 2) n) (λ others. ok_due _))

block_due : (parts : List SectionPart) (table : SectionPart) (end rva : ℕ) → IsDue (block_at parts table end rva)
unfolding block_at
block_due parts table end rva = then_due _ _ (require_due _ (BadReloc rva) (λ h. cc)) (λ _. entries_due parts table (word_of table rva) (rva + 8) ((word_of table (rva + 4) - 8) / 2))

blocks_due : (parts : List SectionPart) (table : SectionPart) (end rva n : ℕ) → IsDue (blocks_from parts table end rva n)
unfolding blocks_from
blocks_due parts table end rva zero = ok_due _
blocks_due parts table end rva (suc n) = either_due _ _ _ (ok_due _) (then_due _ _ (block_due parts table end rva) (λ words. then_due _ _ (blocks_due parts table end (rva + word_of table (rva + 4)) n) (λ others. ok_due _)))

table_section_due : (parts : List SectionPart) (directory : Directory) → IsDue (relocation_section parts directory)
unfolding relocation_section
table_section_due parts directory = either_due (directory.rva == 0) _ _ (ok_due None) (then_due _ _ (found_due (section_with parts directory.rva) (BadDirectory 5) (λ h. cc)) (λ part. then_due _ _ (require_due (nat_le (directory.rva + directory.size) (part.section.rva + part.section.span)) (BadDirectory 5) (λ h. cc)) (λ _. ok_due (Some part))))

relocations_due : (parts : List SectionPart) (directory : Directory) (table : Option SectionPart) → IsDue (relocations_in parts directory table)
unfolding relocations_in
relocations_due parts directory None = ok_due _
relocations_due parts directory (Some table) = blocks_due parts table (directory.rva + directory.size) directory.rva directory.size

-- ---- imports
text_due : (parts : List SectionPart) (e : PeRefusal) (rva n : ℕ) → (e ≡ OutOfMemory → ⊥) → IsDue (text_from parts e rva n)
unfolding text_from
text_due parts e rva zero other = λ h. other (same_refusal e OutOfMemory h)
text_due parts e rva (suc n) other =
    then_due _ _ (found_due (section_byte parts rva) e other) (λ byte. either_due (byte == 0) _ _ (ok_due []) (then_due _ _ (require_due (is_printable byte) e other) (λ _. then_due _ _ (text_due parts e (rva + 1) n other) (λ others. ok_due (byte ∷ others)))))

name_due : (parts : List SectionPart) (rva : ℕ) → IsDue (name_at parts rva)
unfolding name_at
name_due parts rva = then_due _ _ (text_due parts (BadImport rva) rva 256 (λ h. cc)) (λ name. then_due _ _ (require_due _ (BadImport rva) (λ h. cc)) (λ _. ok_due _))

named_due : (parts : List SectionPart) (dll : List ℕ) (thunk slot word : ℕ) → IsDue (named_import parts dll thunk slot word)
unfolding named_import
named_due parts dll thunk slot word =
    then_due _ _ (require_due (nat_lt word 2147483648) (Ordinal thunk) (λ h. cc)) (λ _. then_due _ _ (found_due (word_at parts slot) (BadImport slot) (λ h. cc)) (λ _. then_due _ _ (name_due parts (word + 2)) (λ name. ok_due (Some record { dll = dll; name = name; slot = slot }))))

import_due : (parts : List SectionPart) (dll : List ℕ) (thunk slot : ℕ) → IsDue (import_at parts dll thunk slot)
unfolding import_at
import_due parts dll thunk slot = then_due _ _ (found_due (word_at parts thunk) (BadImport thunk) (λ h. cc)) (λ word. either_due (word == 0) _ _ (ok_due None) (named_due parts dll thunk slot word))

continued_due : (found : Option ImportParts) (others : Result (List ImportParts) PeRefusal) → IsDue others → IsDue (continued found others)
continued_due None others rest = ok_due _
continued_due (Some function) others rest = then_due _ _ rest (λ more. ok_due _)

functions_due : (parts : List SectionPart) (dll : List ℕ) (thunk slot n : ℕ) → IsDue (imports_from parts dll thunk slot n)
unfolding imports_from
functions_due parts dll thunk slot zero = then_due _ _ (import_due parts dll thunk slot) (λ found. continued_due found (Err TooLarge) (λ h. cc))
functions_due parts dll thunk slot (suc n) = then_due _ _ (import_due parts dll thunk slot) (λ found. continued_due found _ (functions_due parts dll (thunk + 4) (slot + 4) n))

field_due : (parts : List SectionPart) (structure rva : ℕ) → IsDue (field parts structure rva)
field_due parts structure rva = found_due (word_at parts rva) (BadImport structure) (λ h. cc)

descriptor_due : (parts : List SectionPart) (rva : ℕ) → IsDue (descriptor_at parts rva)
unfolding descriptor_at
descriptor_due parts rva =
    then_due _ _ (field_due parts rva rva) (λ original. then_due _ _ (field_due parts rva (rva + 4)) (λ _. then_due _ _ (field_due parts rva (rva + 8)) (λ _. then_due _ _ (field_due parts rva (rva + 12)) (λ name. then_due _ _ (field_due parts rva (rva + 16)) (λ first. ok_due _)))))

of_descriptor_due : (parts : List SectionPart) (descriptor : Descriptor) (n : ℕ) → IsDue (imports_of parts descriptor n)
unfolding imports_of
of_descriptor_due parts descriptor n = then_due _ _ (name_due parts descriptor.name) (λ dll. functions_due parts dll descriptor.thunks descriptor.slots n)

descriptors_due : (parts : List SectionPart) (rva count n : ℕ) → IsDue (descriptors_from parts rva count n)
unfolding descriptors_from
descriptors_due parts rva zero n = λ h. cc
descriptors_due parts rva (suc count) n =
    then_due _ _ (descriptor_due parts rva) (λ descriptor. either_due _ _ _ (ok_due _) (then_due _ _ (of_descriptor_due parts descriptor n) (λ functions. then_due _ _ (descriptors_due parts (rva + 20) count (n - length functions)) (λ others. ok_due _))))

imports_due : (parts : List SectionPart) (rva : ℕ) → IsDue (imports_in parts rva)
unfolding imports_in
imports_due parts rva = either_due _ _ _ (ok_due _) (descriptors_due parts rva most_descriptors 4096)

-- ---- the whole
pub reading_due : (bytes : List ℕ) → reading bytes ≡ Err OutOfMemory → ⊥
unfolding reading
reading_due bytes =
    then_due _ _ (require_due _ TooLarge (λ h. cc)) (λ _. then_due _ _ (headers_due bytes) (λ headers. then_due _ _ (sections_due bytes headers) (λ sections.
    then_due _ _ (require_due (has_entry sections headers.image.entry) BadEntry (λ h. cc)) (λ _. then_due _ _ (require_due (is_placed sections headers.image.imports.rva) (BadDirectory 1) (λ h. cc)) (λ _. then_due _ _ (table_section_due sections headers.image.relocations) (λ table.
    then_due _ _ (relocations_due sections headers.image.relocations table) (λ relocations. then_due _ _ (require_due (can_be_placed headers) RelocsStripped (λ h. cc)) (λ _. then_due _ _ (imports_due sections headers.image.imports.rva) (λ imports. ok_due (image_of bytes headers sections relocations imports))))))))))
