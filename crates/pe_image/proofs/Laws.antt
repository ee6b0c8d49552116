-- Laws of laid out images, for the crates above.
use Rattle.std.proofs.Common.{◌≡◌, ◌≢◌, ℕ, zero, suc, ◌+◌, ◌-◌, ◌%◌, ◌^◌, ◌<◌, ◌≤◌, inl, inr, true, List, [], ◌∷◌, length, get_or, map, Option, None, Some, is_some, refl, ap, ◌∙◌, subst, arith, All}
use Rattle.std.proofs.lemmas.Bool.{cases_lt}
use Rattle.std.proofs.lemmas.List.{get_or_default}
use Rattle.std.proofs.lemmas.List.Elements.{All-tail}
use Rattle.byteorder.specs.Endian.{little_number, little_bytes}
use Rattle.byteorder.specs.Numbers.{little_number-reads_back}
use Rattle.nd_mem.specs.Cell.{Cell, cell_with, rights_in}
use Rattle.std.specs.Option.{option_or}
use Rattle.nd_mem.specs.Space.{Cells, byte_in}
use Rattle.nd_mem.specs.Laws.{RegionLaws}
use Rattle.pe_image.specs.Image.{SectionPart, ImageParts, ImportParts, range_cell, section_cell, sections_cell, image_cell, read_only, overlay, word_in, with_word, delta, relocated, slotted, image_cells, sections_refusal, map_refusal, IsInSections, IsSectionLaidOut, HoldsEntry, IsLaidOut, IsOutside, AreWordsApart}
use Rattle.pe_image.proofs.Mapping.{range_cell-out}
use Rattle.pe_image.proofs.Contents.{overlay-in, overlay-out, byte_in-with, word_of, in_sections}

-- the section that holds the entry point
entry_section : (image : ImageParts) → IsLaidOut image → (part : SectionPart) × (IsSectionLaidOut image part) × (HoldsEntry image part)
entry_section image laid =
    let at = laid.entry in
    (at.1, subst (IsSectionLaidOut image) at.3 (laid.sections at.0 at.1 at.2), at.4)

-- the entry point lies in the image, behind its headers
pub entry_inside : (image : ImageParts) → IsLaidOut image → image.entry < image.size
entry_inside image laid =
    let found = entry_section image laid in
    omega (arith, found.1.inside, found.2.from, found.2.to)

pub headers_before_entry : (image : ImageParts) → IsLaidOut image → image.header_size ≤ image.entry
headers_before_entry image laid =
    let found = entry_section image laid in
    let some : 0 < found.0.section.span = omega (arith, found.2.from, found.2.to) in
    omega (arith, found.1.behind_headers some, found.2.from)

sections_cell-out : (image : ImageParts) (base a : ℕ) (parts : List SectionPart) → All (IsSectionLaidOut image) parts → (base ≤ a → base + image.size ≤ a) → sections_cell base parts a ≡ None
sections_cell-out image base a [] laid out = refl
sections_cell-out image base a (part ∷ parts) laid out =
    let here : IsSectionLaidOut image part = laid 0 part (omega arith) in
    let none : section_cell base part a ≡ None = range_cell-out (base + part.section.rva) part.section.span part.bytes part.section.rights a (λ low. omega (arith, out (omega arith), here.inside)) in
    rw none (sections_cell-out image base a parts (All-tail (IsSectionLaidOut image) part parts laid) out)

-- an image has nothing outside its SizeOfImage bytes
pub image_cell-out : (image : ImageParts) (base a : ℕ) → IsLaidOut image → (base ≤ a → base + image.size ≤ a) → image_cell image base a ≡ None
image_cell-out image base a laid out =
    let none : range_cell base image.header_size image.headers read_only a ≡ None = range_cell-out base image.header_size image.headers read_only a (λ low. omega (arith, out low, headers_before_entry image laid, entry_inside image laid)) in
    rw none (sections_cell-out image base a image.sections laid.sections out)

-- ---- rights
rights_with : (byte : ℕ) (o : Option Cell) → rights_in (cell_with byte o) ≡ rights_in o
rights_with byte None = refl
rights_with byte (Some cell) = refl

overlay_rights : (cells : Cells) (at : ℕ) (bytes : List ℕ) (a : ℕ) → rights_in (overlay cells at bytes a) ≡ rights_in (cells a)
overlay_rights cells at bytes a =
    elim (cases_lt a at) [
      | inl below ↦ ap rights_in (overlay-out cells at bytes a (λ low. absurd (omega arith)))
      | inr low ↦ elim (cases_lt a (at + length bytes)) [
        | inl within ↦ ap rights_in (overlay-in cells at bytes a low within) ∙ rights_with (get_or bytes (a - at) 0) (cells a)
        | inr high ↦ ap rights_in (overlay-out cells at bytes a (λ _. high))
      ]
    ]

relocated_rights : (base difference : ℕ) (rvas : List ℕ) (cells : Cells) (a : ℕ) → rights_in (relocated base difference rvas cells a) ≡ rights_in (cells a)
unfolding relocated
relocated_rights base difference [] cells a = refl
relocated_rights base difference (rva ∷ rvas) cells a =
    let value : ℕ = (word_in cells (base + rva) + difference) % 2 ^ 32 in
    relocated_rights base difference rvas (with_word cells (base + rva) value) a ∙ overlay_rights cells (base + rva) (little_bytes 4 value) a

slotted_rights : (base : ℕ) (functions : List ImportParts) (addresses : List ℕ) (cells : Cells) (a : ℕ) → rights_in (slotted base functions addresses cells a) ≡ rights_in (cells a)
unfolding slotted
slotted_rights base [] addresses cells a = refl
slotted_rights base (function ∷ functions) [] cells a = refl
slotted_rights base (function ∷ functions) (at ∷ addresses) cells a =
    slotted_rights base functions addresses (with_word cells (base + function.slot) at) a ∙ overlay_rights cells (base + function.slot) (little_bytes 4 at) a

-- relocations and slots change no rights, and map nothing
pub image_rights : (image : ImageParts) (base : ℕ) (slots : List ℕ) (a : ℕ) → rights_in (image_cells image base slots a) ≡ rights_in (image_cell image base a)
image_rights image base slots a =
    slotted_rights base image.imports slots (relocated base (delta image base) image.relocations (image_cell image base)) a
    ∙ relocated_rights base (delta image base) image.relocations (image_cell image base) a

some_as : (x y : Option Cell) → rights_in x ≡ rights_in y → is_some y ≡ true → is_some x ≡ true
some_as None None same some = some
some_as None (Some y) same some = absurd (cc)
some_as (Some x) y same some = refl

none_as : (x y : Option Cell) → rights_in x ≡ rights_in y → y ≡ None → x ≡ None
none_as None y same none = refl
none_as (Some x) None same none = absurd (cc)
none_as (Some x) (Some y) same none = absurd (cc)

-- ---- bytes that stay
relocated_other : (base difference : ℕ) (rvas : List ℕ) (cells : Cells) (a : ℕ) → All (λ rva. IsOutside (base + rva) a) rvas → relocated base difference rvas cells a ≡ cells a
unfolding relocated
relocated_other base difference [] cells a outside = refl
relocated_other base difference (rva ∷ rvas) cells a outside =
    let value : ℕ = (word_in cells (base + rva) + difference) % 2 ^ 32 in
    let here : IsOutside (base + rva) a = outside 0 rva (omega arith) in
    relocated_other base difference rvas (with_word cells (base + rva) value) a (All-tail (λ r. IsOutside (base + r) a) rva rvas outside)
    ∙ overlay-out cells (base + rva) (little_bytes 4 value) a here

slotted_other : (base : ℕ) (functions : List ImportParts) (addresses : List ℕ) (cells : Cells) (a : ℕ) → All (λ function. IsOutside (base + function.slot) a) functions → slotted base functions addresses cells a ≡ cells a
unfolding slotted
slotted_other base [] addresses cells a outside = refl
slotted_other base (function ∷ functions) [] cells a outside = refl
slotted_other base (function ∷ functions) (at ∷ addresses) cells a outside =
    let here : IsOutside (base + function.slot) a = outside 0 function (omega arith) in
    slotted_other base functions addresses (with_word cells (base + function.slot) at) a (All-tail (λ f. IsOutside (base + f.slot) a) function functions outside)
    ∙ overlay-out cells (base + function.slot) (little_bytes 4 at) a here

-- a byte in no relocated word and no slot is that of the file
pub image_other : (image : ImageParts) (base : ℕ) (slots : List ℕ) (a : ℕ) → All (λ rva. IsOutside (base + rva) a) image.relocations → All (λ function. IsOutside (base + function.slot) a) image.imports
    → image_cells image base slots a ≡ image_cell image base a
image_other image base slots a moved filled =
    slotted_other base image.imports slots (relocated base (delta image base) image.relocations (image_cell image base)) a filled
    ∙ relocated_other base (delta image base) image.relocations (image_cell image base) a moved

-- ---- words
word_same : (f g : Cells) (x : ℕ) → ((a : ℕ) → x ≤ a → a < x + 4 → f a ≡ g a) → word_in f x ≡ word_in g x
word_same f g x same =
    let first = ap byte_in (same x (omega arith) (omega arith)) in
    let second = ap byte_in (same (x + 1) (omega arith) (omega arith)) in
    let third = ap byte_in (same (x + 2) (omega arith) (omega arith)) in
    let fourth = ap byte_in (same (x + 3) (omega arith) (omega arith)) in
    λ i. little_number 4 (first i ∷ second i ∷ third i ∷ fourth i ∷ [])

-- all 4 bytes from an address on are mapped
IsMapped : Cells → ℕ → Type 0
IsMapped cells x = (a : ℕ) → x ≤ a → a < x + 4 → is_some (cells a) ≡ true

mapped_overlay : (cells : Cells) (at : ℕ) (bytes : List ℕ) (x : ℕ) → IsMapped cells x → IsMapped (overlay cells at bytes) x
unfolding IsMapped
mapped_overlay cells at bytes x mapped = λ a low high. some_as (overlay cells at bytes a) (cells a) (overlay_rights cells at bytes a) (mapped a low high)

written_byte : (cells : Cells) (x value j a : ℕ) → j < 4 → a ≡ x + j → is_some (cells a) ≡ true → byte_in (with_word cells x value a) ≡ get_or (little_bytes 4 value) j 0
written_byte cells x value j a less is some =
    let place : a - x ≡ j = omega arith in
    ap byte_in (overlay-in cells x (little_bytes 4 value) a (omega arith) (omega arith))
    ∙ byte_in-with (get_or (little_bytes 4 value) (a - x) 0) (cells a) some
    ∙ ap (λ k. get_or (little_bytes 4 value) k 0) place

-- a word that is written is there
written_word : (cells : Cells) (x value : ℕ) → value < 2 ^ 32 → IsMapped cells x → word_in (with_word cells x value) x ≡ value
unfolding IsMapped
written_word cells x value small mapped =
    let first = written_byte cells x value 0 x (omega arith) (omega arith) (mapped x (omega arith) (omega arith)) in
    let second = written_byte cells x value 1 (x + 1) (omega arith) (omega arith) (mapped (x + 1) (omega arith) (omega arith)) in
    let third = written_byte cells x value 2 (x + 2) (omega arith) (omega arith) (mapped (x + 2) (omega arith) (omega arith)) in
    let fourth = written_byte cells x value 3 (x + 3) (omega arith) (omega arith) (mapped (x + 3) (omega arith) (omega arith)) in
    let read : word_in (with_word cells x value) x ≡ little_number 4 (little_bytes 4 value) = λ i. little_number 4 (first i ∷ second i ∷ third i ∷ fourth i ∷ []) in
    read ∙ little_number-reads_back 4 value [] small

outside_of : (base x y a : ℕ) → AreWordsApart x y → base + x ≤ a → a < base + x + 4 → IsOutside (base + y) a
outside_of base x y a (inl before) low high = λ from. omega arith
outside_of base x y a (inr behind) low high = λ from. omega arith

other_word : (cells : Cells) (base x y value : ℕ) → AreWordsApart x y → word_in (with_word cells (base + y) value) (base + x) ≡ word_in cells (base + x)
other_word cells base x y value apart =
    word_same (with_word cells (base + y) value) cells (base + x) (λ a low high. overlay-out cells (base + y) (little_bytes 4 value) a (outside_of base x y a apart low high))

relocated_apart : (base difference : ℕ) (rvas : List ℕ) (cells : Cells) (x : ℕ) → All (AreWordsApart x) rvas → word_in (relocated base difference rvas cells) (base + x) ≡ word_in cells (base + x)
relocated_apart base difference rvas cells x apart =
    word_same (relocated base difference rvas cells) cells (base + x)
    (λ a low high. relocated_other base difference rvas cells a (λ k d less. outside_of base x (get_or rvas k d) a (apart k d less) low high))

slotted_apart : (base : ℕ) (functions : List ImportParts) (addresses : List ℕ) (cells : Cells) (x : ℕ) → All (λ function. AreWordsApart x function.slot) functions → word_in (slotted base functions addresses cells) (base + x) ≡ word_in cells (base + x)
slotted_apart base functions addresses cells x apart =
    word_same (slotted base functions addresses cells) cells (base + x)
    (λ a low high. slotted_other base functions addresses cells a (λ k d less. outside_of base x (get_or functions k d).slot a (apart k d less) low high))

below_word : (n : ℕ) → n % 2 ^ 32 < 2 ^ 32
below_word n = omega arith

relocated_word : (base difference : ℕ) (rvas : List ℕ) (cells : Cells) (k : ℕ) → k < length rvas → ((j : ℕ) → j < length rvas → j ≢ k → AreWordsApart (get_or rvas k 0) (get_or rvas j 0)) → IsMapped cells (base + get_or rvas k 0)
    → word_in (relocated base difference rvas cells) (base + get_or rvas k 0) ≡ (word_in cells (base + get_or rvas k 0) + difference) % 2 ^ 32
unfolding relocated
relocated_word base difference [] cells k less apart mapped = absurd (omega arith)
relocated_word base difference (rva ∷ rvas) cells zero less apart mapped =
    let value : ℕ = (word_in cells (base + rva) + difference) % 2 ^ 32 in
    relocated_apart base difference rvas (with_word cells (base + rva) value) rva (λ j d within. subst (AreWordsApart rva) (get_or_default rvas j 0 d within) (apart (suc j) (omega arith) (λ e. omega arith)))
    ∙ written_word cells (base + rva) value (below_word (word_in cells (base + rva) + difference)) mapped
relocated_word base difference (rva ∷ rvas) cells (suc k) less apart mapped =
    let x : ℕ = get_or rvas k 0 in
    let value : ℕ = (word_in cells (base + rva) + difference) % 2 ^ 32 in
    relocated_word base difference rvas (with_word cells (base + rva) value) k (omega arith) (λ j within other. apart (suc j) (omega arith) (λ e. other (omega arith))) (mapped_overlay cells (base + rva) (little_bytes 4 value) (base + get_or rvas k 0) mapped)
    ∙ ap (λ w. (w + difference) % 2 ^ 32) (other_word cells base (get_or rvas k 0) rva value (apart 0 (omega arith) (λ e. omega arith)))

slotted_word : (base : ℕ) (functions : List ImportParts) (addresses : List ℕ) (cells : Cells) (k : ℕ) (d : ImportParts) → k < length functions → k < length addresses → get_or addresses k 0 < 2 ^ 32
    → ((j : ℕ) → k < j → j < length functions → AreWordsApart (get_or functions k d).slot (get_or functions j d).slot) → IsMapped cells (base + (get_or functions k d).slot)
    → word_in (slotted base functions addresses cells) (base + (get_or functions k d).slot) ≡ get_or addresses k 0
unfolding slotted
slotted_word base [] addresses cells k d less fewer small apart mapped = absurd (omega arith)
slotted_word base (function ∷ functions) [] cells k d less fewer small apart mapped = absurd (omega arith)
slotted_word base (function ∷ functions) (at ∷ addresses) cells zero d less fewer small apart mapped =
    slotted_apart base functions addresses (with_word cells (base + function.slot) at) function.slot
    (λ j e within. subst (λ (f : ImportParts). AreWordsApart function.slot f.slot) (get_or_default functions j d e within) (apart (suc j) (omega arith) (omega arith)))
    ∙ written_word cells (base + function.slot) at small mapped
slotted_word base (function ∷ functions) (at ∷ addresses) cells (suc k) d less fewer small apart mapped =
    slotted_word base functions addresses (with_word cells (base + function.slot) at) k d (omega arith) (omega arith) small (λ j behind within. apart (suc j) (omega arith) (omega arith))
    (mapped_overlay cells (base + function.slot) (little_bytes 4 at) (base + (get_or functions k d).slot) mapped)

either_some : (x y : Option Cell) → is_some y ≡ true → is_some (option_or x y) ≡ true
either_some None y some = some
either_some (Some x) y some = refl

mapped_word : (image : ImageParts) (base rva : ℕ) → IsLaidOut image → IsInSections image.sections rva → IsMapped (image_cell image base) (base + rva)
unfolding IsMapped
mapped_word image base rva laid at = λ a low high.
    let word = word_of image base rva laid at in
    let place : base + (rva + (a - (base + rva))) ≡ a = omega arith in
    either_some (range_cell base image.header_size image.headers read_only a) (sections_cell base image.sections a)
    (subst (λ x. is_some (sections_cell base image.sections x) ≡ true) place (word.some (a - (base + rva)) (omega arith)))

-- a word that is relocated once, and meets no other relocation and no slot, is the file's with the difference added
pub image_relocated : (image : ImageParts) (base : ℕ) (slots : List ℕ) (k : ℕ) → IsLaidOut image → k < length image.relocations
    → ((j : ℕ) → j < length image.relocations → j ≢ k → AreWordsApart (get_or image.relocations k 0) (get_or image.relocations j 0))
    → All (λ function. AreWordsApart (get_or image.relocations k 0) function.slot) image.imports
    → word_in (image_cells image base slots) (base + get_or image.relocations k 0) ≡ (word_in (image_cell image base) (base + get_or image.relocations k 0) + delta image base) % 2 ^ 32
image_relocated image base slots k laid less apart filled =
    let rva : ℕ = get_or image.relocations k 0 in
    let mapped = mapped_word image base (get_or image.relocations k 0) laid (in_sections image.sections (get_or image.relocations k 0) (laid.relocations k 0 less)) in
    slotted_apart base image.imports slots (relocated base (delta image base) image.relocations (image_cell image base)) (get_or image.relocations k 0) filled
    ∙ relocated_word base (delta image base) image.relocations (image_cell image base) k less apart mapped

-- a slot that meets no later one holds its import's address
pub image_slotted : (image : ImageParts) (base : ℕ) (slots : List ℕ) (k : ℕ) (d : ImportParts) → IsLaidOut image → length slots ≡ length image.imports → k < length image.imports → get_or slots k 0 < 2 ^ 32
    → ((j : ℕ) → k < j → j < length image.imports → AreWordsApart (get_or image.imports k d).slot (get_or image.imports j d).slot)
    → word_in (image_cells image base slots) (base + (get_or image.imports k d).slot) ≡ get_or slots k 0
unfolding IsMapped
image_slotted image base slots k d laid many less small apart =
    let moved = relocated base (delta image base) image.relocations (image_cell image base) in
    let slot = (get_or image.imports k d).slot in
    let mapped = mapped_word image base (get_or image.imports k d).slot laid (laid.imports k d less) in
    slotted_word base image.imports slots (relocated base (delta image base) image.relocations (image_cell image base)) k d less (omega arith) small apart
    (λ a low high. some_as (relocated base (delta image base) image.relocations (image_cell image base) a) (image_cell image base a) (relocated_rights base (delta image base) image.relocations (image_cell image base) a) (mapped a low high))

-- ---- where an image lies
-- a mapped image has nothing outside its SizeOfImage bytes
pub image_cells-out : (image : ImageParts) (base : ℕ) (slots : List ℕ) (a : ℕ) → IsLaidOut image → (base ≤ a → base + image.size ≤ a) → image_cells image base slots a ≡ None
image_cells-out image base slots a laid out = none_as (image_cells image base slots a) (image_cell image base a) (image_rights image base slots a) (image_cell-out image base a laid out)

sections_taken : RegionLaws → (cells : Cells) (base : ℕ) (image : ImageParts) (parts : List SectionPart) → base + image.size ≤ 0xF0000000 → ((a : ℕ) → base ≤ a → a < base + image.size → cells a ≡ None) → All (IsSectionLaidOut image) parts
    → sections_refusal cells base (map (λ part. part.section) parts) ≡ None
sections_taken regions cells base image [] low free laid = refl
sections_taken regions cells base image (part ∷ parts) low free laid =
    let here : IsSectionLaidOut image part = laid 0 part (omega arith) in
    rw (regions.taken cells (base + part.section.rva) part.section.span (omega (arith, here.inside)) (λ k less. free (base + part.section.rva + k) (omega arith) (omega (arith, here.inside))))
    (sections_taken regions cells base image parts low free (All-tail (IsSectionLaidOut image) part parts laid))

-- an image can be mapped where its SizeOfImage bytes are free and low
pub image_taken : RegionLaws → (cells : Cells) (base : ℕ) (image : ImageParts) → IsLaidOut image → base + image.size ≤ 0xF0000000 → ((a : ℕ) → base ≤ a → a < base + image.size → cells a ≡ None) → map_refusal cells base image ≡ None
image_taken regions cells base image laid low free =
    let short : image.header_size ≤ image.size = omega (arith, headers_before_entry image laid, entry_inside image laid) in
    rw (regions.taken cells base image.header_size (omega arith) (λ k less. free (base + k) (omega arith) (omega arith)))
    (sections_taken regions cells base image image.sections low free laid.sections)
