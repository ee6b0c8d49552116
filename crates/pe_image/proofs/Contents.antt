-- The bytes of an image in one list, and what memory has of them.
use Rattle.std.proofs.Common.{◌≡◌, ℕ, zero, suc, ◌+◌, ◌-◌, ◌%◌, ◌^◌, ◌<◌, ◌≤◌, ◌⊎◌, inl, inr, true, List, [], ◌∷◌, ◌++◌, length, get_or, take, drop, replicate, Option, None, Some, is_some, refl, sym, ap, ◌∙◌, subst, arith, All, length-append, length-drop}
use Rattle.std.specs.List.{Any, AllPairs}
use Rattle.std.proofs.lemmas.Bool.{cases_lt, lt-ltb, le-ltb, le-leb, lt-leb}
use Rattle.std.proofs.lemmas.List.{get_or_append_left, get_or-append_right, get_or-take, get_or-drop, get_or_past, get_or-replicate, length-take-le, length-replicate}
use Rattle.std.proofs.lemmas.List.Elements.{All-tail}
use Rattle.byteorder.specs.Endian.{little_number, little_bytes}
use Rattle.nd_mem.specs.Cell.{Cell, cell_with}
use Rattle.std.specs.Option.{option_or}
use Rattle.nd_mem.specs.Space.{Cells, byte_in}
use Rattle.nd_mem.specs.declared.Rights.{Rights}
use Rattle.pe_image.specs.Image.{SectionPart, ImageParts, ImportParts, range_cell, read_only, section_cell, sections_cell, image_cell, overlay, word_in, with_word, delta, relocated, slotted, image_cells, HoldsByte, HoldsWord, AreApart, IsInSections, IsSectionLaidOut, IsLaidOut}
use Rattle.pe_image.specs.Contents.{written, word_written, word_moved, with_sections, with_relocations, with_addresses, contents_of}
use Rattle.pe_image.proofs.Mapping.{range_cell-in, range_cell-out, either_none}

-- ---- pieces
pub length-written : (bytes : List ℕ) (at : ℕ) (piece : List ℕ) → at + length piece ≤ length bytes → length (written bytes at piece) ≡ length bytes
length-written bytes at piece fits =
    let front = length-take-le at bytes (omega arith) in
    let rest = drop (at + length piece) bytes in
    omega (arith, front, length-append (take at bytes) (piece ++ rest), length-append piece rest, length-drop (at + length piece) bytes)

pub get_written_in : (bytes : List ℕ) (at : ℕ) (piece : List ℕ) (k : ℕ) → at + length piece ≤ length bytes → k < length piece → get_or (written bytes at piece) (at + k) 0 ≡ get_or piece k 0
get_written_in bytes at piece k fits less =
    let rest = drop (at + length piece) bytes in
    let same : at + k - at ≡ k = omega arith in
    get_or-append_right (take at bytes) (piece ++ rest) at (at + k) 0 (length-take-le at bytes (omega arith)) (omega arith)
    ∙ ap (λ j. get_or (piece ++ rest) j 0) same
    ∙ get_or_append_left piece rest 0 k less

pub get_written_out : (bytes : List ℕ) (at : ℕ) (piece : List ℕ) (r : ℕ) → at + length piece ≤ length bytes → (at ≤ r → at + length piece ≤ r) → get_or (written bytes at piece) r 0 ≡ get_or bytes r 0
get_written_out bytes at piece r fits out =
    let rest = drop (at + length piece) bytes in
    let front = length-take-le at bytes (omega arith) in
    elim (cases_lt r at) [
      | inl below ↦ get_or_append_left (take at bytes) (piece ++ rest) 0 r (omega (arith, front)) ∙ get_or-take at bytes r 0 below
      | inr low ↦
          let high : at + length piece ≤ r = out low in
          let same : at + length piece + (r - at - length piece) ≡ r = omega arith in
          get_or-append_right (take at bytes) (piece ++ rest) at r 0 front low
          ∙ get_or-append_right piece rest (length piece) (r - at) 0 refl (omega arith)
          ∙ get_or-drop (at + length piece) bytes (r - at - length piece) 0
          ∙ ap (λ j. get_or bytes j 0) same
    ]

-- ---- cells
pub cell_with-either : (byte : ℕ) (x y : Option Cell) → cell_with byte (option_or x y) ≡ option_or (cell_with byte x) (cell_with byte y)
cell_with-either byte None y = refl
cell_with-either byte (Some x) y = refl

pub cell_with-twice : (byte other : ℕ) (x : Option Cell) → cell_with byte (cell_with other x) ≡ cell_with byte x
cell_with-twice byte other None = refl
cell_with-twice byte other (Some x) = refl

pub byte_in-with : (byte : ℕ) (x : Option Cell) → is_some x ≡ true → byte_in (cell_with byte x) ≡ byte
byte_in-with byte None some = absurd (cc)
byte_in-with byte (Some x) some = refl

pub overlay-in : (cells : Cells) (at : ℕ) (bytes : List ℕ) (a : ℕ) → at ≤ a → a < at + length bytes → overlay cells at bytes a ≡ cell_with (get_or bytes (a - at) 0) (cells a)
overlay-in cells at bytes a low high = rw (le-leb _ _ low, lt-ltb _ _ high)

pub overlay-out : (cells : Cells) (at : ℕ) (bytes : List ℕ) (a : ℕ) → (at ≤ a → at + length bytes ≤ a) → overlay cells at bytes a ≡ cells a
overlay-out cells at bytes a out =
    elim (cases_lt a at) [
      | inl below ↦ rw (lt-leb _ _ below)
      | inr low ↦ let high : at + length bytes ≤ a = out low in rw (le-leb _ _ low, le-ltb _ _ high)
    ]

pub same_cells : (f g : Cells) → ((a : ℕ) → f a ≡ g a) → f ≡ g
same_cells f g same = λ i a. same a i

-- ---- sections
range_cell-none : (at n : ℕ) (bytes : List ℕ) (rights : Rights) (a : ℕ) → range_cell at n bytes rights a ≡ None → at ≤ a → at + n ≤ a
range_cell-none at n bytes rights a none low =
    elim (cases_lt a (at + n)) [
      | inl within ↦ absurd (let some = range_cell-in at n bytes rights a low within in cc)
      | inr high ↦ high
    ]

-- a byte is in the section, or the section has no such address
pub where_is : (base a : ℕ) (part : SectionPart) → ((base ≤ a) × HoldsByte (a - base) part) ⊎ (section_cell base part a ≡ None)
where_is base a part =
    let outside = λ (out : base + part.section.rva ≤ a → base + part.section.rva + part.section.span ≤ a). range_cell-out (base + part.section.rva) part.section.span part.bytes part.section.rights a out in
    elim (cases_lt a (base + part.section.rva)) [
      | inl below ↦ inr (outside (λ low. absurd (omega arith)))
      | inr low ↦ elim (cases_lt a (base + part.section.rva + part.section.span)) [
        | inl within ↦ inl (omega arith, record { from = omega arith; to = omega arith })
        | inr high ↦ inr (outside (λ _. high))
      ]
    ]

pub sections_below : (base a : ℕ) (parts : List SectionPart) → a < base → sections_cell base parts a ≡ None
sections_below base a [] below = refl
sections_below base a (part ∷ parts) below =
    let none : section_cell base part a ≡ None = range_cell-out (base + part.section.rva) part.section.span part.bytes part.section.rights a (λ low. absurd (omega arith)) in
    rw none (sections_below base a parts below)

-- a byte of a section is in none of the sections that lie apart from it
pub alone : (base a : ℕ) (part : SectionPart) (parts : List SectionPart) → All (AreApart part) parts → base ≤ a → HoldsByte (a - base) part → sections_cell base parts a ≡ None
alone base a part [] apart low here = refl
alone base a part (other ∷ parts) apart low here =
    let none : section_cell base other a ≡ None = elim (where_is base a other) [ inl there ↦ absurd (apart 0 other (omega arith) (a - base) here there.1) | inr none ↦ none ] in
    rw none (alone base a part parts (All-tail (AreApart part) other parts apart) low here)

pub found : (base r : ℕ) (parts : List SectionPart) (k : ℕ) (d : SectionPart) → k < length parts → HoldsByte r (get_or parts k d) → is_some (sections_cell base parts (base + r)) ≡ true
found base r [] k d less here = absurd (omega arith)
found base r (part ∷ parts) zero d less here =
    let is = range_cell-in (base + part.section.rva) part.section.span part.bytes part.section.rights (base + r) (omega (arith, here.from)) (omega (arith, here.to)) in
    ap (λ o. is_some (option_or o (sections_cell base parts (base + r)))) is
found base r (part ∷ parts) (suc k) d less here = either_some (section_cell base part (base + r)) (sections_cell base parts (base + r)) (found base r parts k d (omega arith) here)
  where
    either_some : (x y : Option Cell) → is_some y ≡ true → is_some (option_or x y) ≡ true
    either_some None y some = some
    either_some (Some x) y some = refl

first_apart : (part : SectionPart) (parts : List SectionPart) → AllPairs AreApart (part ∷ parts) → All (AreApart part) parts
first_apart part parts apart = λ k d less. apart 0 (suc k) d (omega arith) (omega arith)

rest_apart : (part : SectionPart) (parts : List SectionPart) → AllPairs AreApart (part ∷ parts) → AllPairs AreApart parts
rest_apart part parts apart = λ i j d before less. apart (suc i) (suc j) d (omega arith) (omega arith)

-- ---- the raw parts, each at its RVA
pub record Fits (n : ℕ) (part : SectionPart) : Type 0 where
  pub inside : part.section.rva + part.section.span ≤ n
  pub raw : length part.bytes ≤ part.section.span

pub length-with_sections : (parts : List SectionPart) (bytes : List ℕ) (n : ℕ) → n ≤ length bytes → All (Fits n) parts → length (with_sections parts bytes) ≡ length bytes
unfolding with_sections
length-with_sections [] bytes n room fits = refl
length-with_sections (part ∷ parts) bytes n room fits =
    let here : Fits n part = fits 0 part (omega arith) in
    let same = length-written bytes part.section.rva part.bytes (omega (arith, here.inside, here.raw)) in
    length-with_sections parts (written bytes part.section.rva part.bytes) n (omega (arith, same)) (All-tail (Fits n) part parts fits) ∙ same

-- a byte of no section stays as it is
untouched : (base a : ℕ) (parts : List SectionPart) (bytes : List ℕ) (n : ℕ) → base ≤ a → n ≤ length bytes → All (Fits n) parts → sections_cell base parts a ≡ None → get_or (with_sections parts bytes) (a - base) 0 ≡ get_or bytes (a - base) 0
unfolding with_sections
untouched base a [] bytes n low room fits none = refl
untouched base a (part ∷ parts) bytes n low room fits none =
    let here : Fits n part = fits 0 part (omega arith) in
    let both = either_none (section_cell base part a) (sections_cell base parts a) none in
    let within : part.section.rva + length part.bytes ≤ length bytes = omega (arith, here.inside, here.raw) in
    let same = length-written bytes part.section.rva part.bytes within in
    untouched base a parts (written bytes part.section.rva part.bytes) n low (omega (arith, same)) (All-tail (Fits n) part parts fits) both.1
    ∙ get_written_out bytes part.section.rva part.bytes (a - base) within
    (λ from. omega (arith, here.raw, range_cell-none (base + part.section.rva) part.section.span part.bytes part.section.rights a both.0 (omega arith)))

-- a cell with another byte, if it is in the first of two look-ups or the second
first_kept : (value byte : ℕ) (rights : Rights) (first rest : Option Cell) → first ≡ Some (record { byte = byte; rights = rights }) → value ≡ byte → cell_with value (option_or first rest) ≡ option_or first rest
first_kept value byte rights first rest is same =
    ap (λ o. cell_with value (option_or o rest)) is ∙ ap (λ b. Some (record { byte = b; rights = rights })) same ∙ sym (ap (λ o. option_or o rest) is)

rest_kept : (value : ℕ) (first rest : Option Cell) → first ≡ None → cell_with value rest ≡ rest → cell_with value (option_or first rest) ≡ option_or first rest
rest_kept value first rest none kept = ap (λ o. cell_with value (option_or o rest)) none ∙ kept ∙ sym (ap (λ o. option_or o rest) none)

-- the byte of a section that is over zeros
raw_byte : (bytes raw : List ℕ) (rva r : ℕ) → rva + length raw ≤ length bytes → rva ≤ r → get_or bytes r 0 ≡ 0 → get_or (written bytes rva raw) r 0 ≡ get_or raw (r - rva) 0
raw_byte bytes raw rva r within low zero_there =
    elim (cases_lt (r - rva) (length raw)) [
      | inl inside ↦
          let place : rva + (r - rva) ≡ r = omega arith in
          ap (λ j. get_or (written bytes rva raw) j 0) (sym place) ∙ get_written_in bytes rva raw (r - rva) within inside
      | inr past ↦ get_written_out bytes rva raw r within (λ _. omega arith) ∙ zero_there ∙ sym (get_or_past raw (r - rva) 0 past)
    ]

-- over zeros, what the sections have
placed : (base a : ℕ) (parts : List SectionPart) (bytes : List ℕ) (n : ℕ) → base ≤ a → n ≤ length bytes → All (Fits n) parts → AllPairs AreApart parts
    → ((cell : Cell) → sections_cell base parts a ≡ Some cell → get_or bytes (a - base) 0 ≡ 0)
    → cell_with (get_or (with_sections parts bytes) (a - base) 0) (sections_cell base parts a) ≡ sections_cell base parts a
unfolding with_sections
placed base a [] bytes n low room fits apart zeros = refl
placed base a (part ∷ parts) bytes n low room fits apart zeros =
    let r = a - base in
    let rva = part.section.rva in
    let here : Fits n part = fits 0 part (omega arith) in
    let within : rva + length part.bytes ≤ length bytes = omega (arith, here.inside, here.raw) in
    let after = written bytes rva part.bytes in
    let same : length after ≡ length bytes = length-written bytes rva part.bytes within in
    let rest = sections_cell base parts a in
    elim (where_is base a part) [
      | inl there ↦
          let is : section_cell base part a ≡ Some (record { byte = get_or part.bytes (a - (base + rva)) 0; rights = part.section.rights }) = range_cell-in (base + rva) part.section.span part.bytes part.section.rights a (omega (arith, there.1.from)) (omega (arith, there.1.to)) in
          let none : rest ≡ None = alone base a part parts (first_apart part parts apart) low there.1 in
          let kept : get_or (with_sections parts after) r 0 ≡ get_or after r 0 = untouched base a parts after n low (omega (arith, same)) (All-tail (Fits n) part parts fits) none in
          let zero_there : get_or bytes r 0 ≡ 0 = zeros (record { byte = get_or part.bytes (a - (base + rva)) 0; rights = part.section.rights }) (ap (λ o. option_or o rest) is) in
          let index : r - rva ≡ a - (base + rva) = omega arith in
          first_kept (get_or (with_sections parts after) r 0) (get_or part.bytes (a - (base + rva)) 0) part.section.rights (section_cell base part a) rest is
          (kept ∙ raw_byte bytes part.bytes rva r within there.1.from zero_there ∙ ap (λ j. get_or part.bytes j 0) index)
      | inr none ↦
          rest_kept (get_or (with_sections parts after) r 0) (section_cell base part a) rest none
          (placed base a parts after n low (omega (arith, same)) (All-tail (Fits n) part parts fits) (rest_apart part parts apart)
          (λ cell is. get_written_out bytes rva part.bytes r within (λ from. omega (arith, here.raw, range_cell-none (base + rva) part.section.span part.bytes part.section.rights a none (omega arith)))
          ∙ zeros cell (ap (λ o. option_or o rest) none ∙ is)))
    ]

-- ---- an image whose sections have these bytes from RVA 0 on
unfoldable pub headers_cell : ImageParts → (base a : ℕ) → Option Cell
headers_cell image base a = range_cell base image.header_size image.headers read_only a

unfoldable pub shown : ImageParts → (base : ℕ) → List ℕ → Cells
shown image base bytes a = option_or (headers_cell image base a) (cell_with (get_or bytes (a - base) 0) (sections_cell base image.sections a))

get_or-zeros : (n r : ℕ) → get_or (replicate {A = ℕ} n 0) r 0 ≡ 0
get_or-zeros n r =
    elim (cases_lt r n) [
      | inl less ↦ get_or-replicate {A = ℕ} n r 0 0 less
      | inr past ↦ get_or_past (replicate {A = ℕ} n 0) r 0 (omega (arith, length-replicate {A = ℕ} n 0))
    ]

pub sections_fit : (image : ImageParts) → IsLaidOut image → All (Fits image.size) image.sections
sections_fit image laid = λ k d less.
    let here : IsSectionLaidOut image (get_or image.sections k d) = laid.sections k d less in
    record { inside = here.inside; raw = omega (arith, here.raw, here.raw_within) }

pub shown_first : (image : ImageParts) (base : ℕ) → IsLaidOut image → image_cell image base ≡ shown image base (with_sections image.sections (replicate image.size 0))
unfolding shown headers_cell
shown_first image base laid =
    let bytes = with_sections image.sections (replicate image.size 0) in
    same_cells (image_cell image base) (shown image base bytes) (λ a.
    ap (option_or (headers_cell image base a)) (sym (elim (cases_lt a base) [
      | inl below ↦ let none = sections_below base a image.sections below in ap (cell_with (get_or bytes (a - base) 0)) none ∙ sym none
      | inr low ↦ placed base a image.sections (replicate image.size 0) image.size low (omega (arith, length-replicate {A = ℕ} image.size 0)) (sections_fit image laid) laid.apart (λ cell is. get_or-zeros image.size (a - base))
    ])))

-- ---- words in sections
-- where each byte of a word is in a section, it lies in the image, behind the headers
pub record IsWord (image : ImageParts) (base rva : ℕ) : Type 0 where
  pub inside : rva + 4 ≤ image.size
  pub behind : (k : ℕ) → k < 4 → image.header_size ≤ rva + k
  pub some : (k : ℕ) → k < 4 → is_some (sections_cell base image.sections (base + (rva + k))) ≡ true

byte_inside : (image : ImageParts) (r : ℕ) → IsLaidOut image → Any (HoldsByte r) image.sections → (r < image.size) × (image.header_size ≤ r)
byte_inside image r laid at =
    let here : IsSectionLaidOut image at.1 = subst (IsSectionLaidOut image) at.3 (laid.sections at.0 at.1 at.2) in
    let some : 0 < at.1.section.span = omega (arith, at.4.from, at.4.to) in
    (omega (arith, here.inside, at.4.to), omega (arith, here.behind_headers some, at.4.from))

pub word_of : (image : ImageParts) (base rva : ℕ) → IsLaidOut image → IsInSections image.sections rva → IsWord image base rva
word_of image base rva laid at = record {
  inside = omega (arith, (byte_inside image (rva + 3) laid (at 3 (omega arith))).0);
  behind = λ k less. (byte_inside image (rva + k) laid (at k less)).1;
  some = λ k less. let here = at k less in found base (rva + k) image.sections here.0 here.1 here.2 (subst (HoldsByte (rva + k)) (sym here.3) here.4);
}

pub in_sections : (parts : List SectionPart) (rva : ℕ) → Any (HoldsWord rva) parts → IsInSections parts rva
in_sections parts rva at = λ k less. (at.0, at.1, at.2, at.3, record { from = omega (arith, at.4.from); to = omega (arith, at.4.to) })

-- the headers have no address of the word
no_header : (image : ImageParts) (base rva : ℕ) (word : IsWord image base rva) (a : ℕ) → base + rva ≤ a → a < base + rva + 4 → headers_cell image base a ≡ None
unfolding headers_cell
no_header image base rva word a low high =
    range_cell-out base image.header_size image.headers read_only a (λ _. omega (arith, word.behind (a - (base + rva)) (omega arith)))

outside_piece : (image : ImageParts) (base : ℕ) (bytes : List ℕ) (rva : ℕ) (piece : List ℕ) (a : ℕ) → rva + length piece ≤ length bytes → (base + rva ≤ a → base + rva + length piece ≤ a)
    → shown image base bytes a ≡ shown image base (written bytes rva piece) a
unfolding shown
outside_piece image base bytes rva piece a fits out =
    let cell = sections_cell base image.sections a in
    let kept : cell_with (get_or bytes (a - base) 0) cell ≡ cell_with (get_or (written bytes rva piece) (a - base) 0) cell = elim (cases_lt a base) [
      | inl below ↦ let none : cell ≡ None = sections_below base a image.sections below in ap (cell_with (get_or bytes (a - base) 0)) none ∙ sym (ap (cell_with (get_or (written bytes rva piece) (a - base) 0)) none)
      | inr low ↦ ap (λ b. cell_with b cell) (sym (get_written_out bytes rva piece (a - base) fits (λ from. omega (arith, out (omega arith)))))
    ] in
    ap (option_or (headers_cell image base a)) kept

-- a piece laid over the image is one written over its bytes
pub overlay_shown : (image : ImageParts) (base : ℕ) (bytes : List ℕ) (rva : ℕ) (piece : List ℕ) → rva + length piece ≤ length bytes → ((a : ℕ) → base + rva ≤ a → a < base + rva + length piece → headers_cell image base a ≡ None)
    → overlay (shown image base bytes) (base + rva) piece ≡ shown image base (written bytes rva piece)
unfolding shown
overlay_shown image base bytes rva piece fits behind =
    same_cells (overlay (shown image base bytes) (base + rva) piece) (shown image base (written bytes rva piece)) (λ a.
    let cell = sections_cell base image.sections a in
    let outside = λ (out : base + rva ≤ a → base + rva + length piece ≤ a). overlay-out (shown image base bytes) (base + rva) piece a out ∙ outside_piece image base bytes rva piece a fits out in
    elim (cases_lt a (base + rva)) [
      | inl below ↦ outside (λ low. absurd (omega arith))
      | inr low ↦ elim (cases_lt a (base + rva + length piece)) [
        | inr high ↦ outside (λ _. high)
        | inl within ↦
            let none : headers_cell image base a ≡ None = behind a low within in
            let k : ℕ = a - (base + rva) in
            let place : rva + (a - (base + rva)) ≡ a - base = omega arith in
            let byte : get_or piece (a - (base + rva)) 0 ≡ get_or (written bytes rva piece) (a - base) 0 = sym (get_written_in bytes rva piece (a - (base + rva)) fits (omega arith)) ∙ ap (λ j. get_or (written bytes rva piece) j 0) place in
            overlay-in (shown image base bytes) (base + rva) piece a low within
            ∙ ap (λ o. cell_with (get_or piece (a - (base + rva)) 0) (option_or o (cell_with (get_or bytes (a - base) 0) cell))) none
            ∙ cell_with-twice (get_or piece (a - (base + rva)) 0) (get_or bytes (a - base) 0) cell
            ∙ ap (λ b. cell_with b cell) byte
            ∙ sym (ap (λ o. option_or o (cell_with (get_or (written bytes rva piece) (a - base) 0) cell)) none)
      ]
    ])

shown_byte : (image : ImageParts) (base : ℕ) (bytes : List ℕ) (rva k x : ℕ) → IsWord image base rva → k < 4 → x ≡ base + (rva + k) → byte_in (shown image base bytes x) ≡ get_or (drop rva bytes) k 0
unfolding shown
shown_byte image base bytes rva k x word less is =
    let a = base + (rva + k) in
    let none : headers_cell image base a ≡ None = no_header image base rva word a (omega arith) (omega arith) in
    let place : base + (rva + k) - base ≡ rva + k = omega arith in
    ap (λ y. byte_in (shown image base bytes y)) is
    ∙ ap (λ o. byte_in (option_or o (cell_with (get_or bytes (a - base) 0) (sections_cell base image.sections a)))) none
    ∙ byte_in-with (get_or bytes (a - base) 0) (sections_cell base image.sections a) (word.some k less)
    ∙ ap (λ j. get_or bytes j 0) place
    ∙ sym (get_or-drop rva bytes k 0)

pub word_shown : (image : ImageParts) (base : ℕ) (bytes : List ℕ) (rva : ℕ) → IsWord image base rva → word_in (shown image base bytes) (base + rva) ≡ little_number 4 (drop rva bytes)
word_shown image base bytes rva word =
    let first = shown_byte image base bytes rva 0 (base + rva) word (omega arith) (omega arith) in
    let second = shown_byte image base bytes rva 1 (base + rva + 1) word (omega arith) (omega arith) in
    let third = shown_byte image base bytes rva 2 (base + rva + 2) word (omega arith) (omega arith) in
    let fourth = shown_byte image base bytes rva 3 (base + rva + 3) word (omega arith) (omega arith) in
    λ i. little_number 4 (first i ∷ second i ∷ third i ∷ fourth i ∷ [])

with_word_shown : (image : ImageParts) (base : ℕ) (bytes : List ℕ) (rva value : ℕ) → image.size ≤ length bytes → IsWord image base rva
    → with_word (shown image base bytes) (base + rva) value ≡ shown image base (word_written bytes rva value)
with_word_shown image base bytes rva value room word =
    overlay_shown image base bytes rva (little_bytes 4 value) (omega (arith, word.inside)) (λ a low high. no_header image base rva word a low (omega arith))

length-word_written : (image : ImageParts) (base : ℕ) (bytes : List ℕ) (rva value : ℕ) → image.size ≤ length bytes → IsWord image base rva → length (word_written bytes rva value) ≡ length bytes
length-word_written image base bytes rva value room word = length-written bytes rva (little_bytes 4 value) (omega (arith, word.inside))

-- ---- relocations and slots
pub relocated_shown : (image : ImageParts) (base difference : ℕ) (rvas bytes : List ℕ) → IsLaidOut image → image.size ≤ length bytes → All (λ rva. Any (HoldsWord rva) image.sections) rvas
    → relocated base difference rvas (shown image base bytes) ≡ shown image base (with_relocations difference rvas bytes)
unfolding relocated with_relocations
relocated_shown image base difference [] bytes laid room words = refl
relocated_shown image base difference (rva ∷ rvas) bytes laid room words =
    let word = word_of image base rva laid (in_sections image.sections rva (words 0 rva (omega arith))) in
    let value : ℕ = (little_number 4 (drop rva bytes) + difference) % 2 ^ 32 in
    let same = length-word_written image base bytes rva value room word in
    ap (λ w. relocated base difference rvas (with_word (shown image base bytes) (base + rva) ((w + difference) % 2 ^ 32))) (word_shown image base bytes rva word)
    ∙ ap (relocated base difference rvas) (with_word_shown image base bytes rva value room word)
    ∙ relocated_shown image base difference rvas (word_moved difference bytes rva) laid (omega (arith, same)) (All-tail (λ r. Any (HoldsWord r) image.sections) rva rvas words)

pub length-with_relocations : (image : ImageParts) (base difference : ℕ) (rvas bytes : List ℕ) → IsLaidOut image → image.size ≤ length bytes → All (λ rva. Any (HoldsWord rva) image.sections) rvas
    → length (with_relocations difference rvas bytes) ≡ length bytes
unfolding with_relocations
length-with_relocations image base difference [] bytes laid room words = refl
length-with_relocations image base difference (rva ∷ rvas) bytes laid room words =
    let word = word_of image base rva laid (in_sections image.sections rva (words 0 rva (omega arith))) in
    let value : ℕ = (little_number 4 (drop rva bytes) + difference) % 2 ^ 32 in
    let same = length-word_written image base bytes rva value room word in
    length-with_relocations image base difference rvas (word_moved difference bytes rva) laid (omega (arith, same)) (All-tail (λ r. Any (HoldsWord r) image.sections) rva rvas words) ∙ same

pub slotted_shown : (image : ImageParts) (base : ℕ) (functions : List ImportParts) (addresses bytes : List ℕ) → IsLaidOut image → image.size ≤ length bytes → All (λ function. IsInSections image.sections function.slot) functions
    → slotted base functions addresses (shown image base bytes) ≡ shown image base (with_addresses functions addresses bytes)
unfolding slotted with_addresses
slotted_shown image base [] addresses bytes laid room words = refl
slotted_shown image base (function ∷ functions) [] bytes laid room words = refl
slotted_shown image base (function ∷ functions) (at ∷ addresses) bytes laid room words =
    let word = word_of image base function.slot laid (words 0 function (omega arith)) in
    let same = length-word_written image base bytes function.slot at room word in
    ap (slotted base functions addresses) (with_word_shown image base bytes function.slot at room word)
    ∙ slotted_shown image base functions addresses (word_written bytes function.slot at) laid (omega (arith, same)) (All-tail (λ f. IsInSections image.sections f.slot) function functions words)

pub length-with_addresses : (image : ImageParts) (base : ℕ) (functions : List ImportParts) (addresses bytes : List ℕ) → IsLaidOut image → image.size ≤ length bytes → All (λ function. IsInSections image.sections function.slot) functions
    → length (with_addresses functions addresses bytes) ≡ length bytes
unfolding with_addresses
length-with_addresses image base [] addresses bytes laid room words = refl
length-with_addresses image base (function ∷ functions) [] bytes laid room words = refl
length-with_addresses image base (function ∷ functions) (at ∷ addresses) bytes laid room words =
    let word = word_of image base function.slot laid (words 0 function (omega arith)) in
    let same = length-word_written image base bytes function.slot at room word in
    length-with_addresses image base functions addresses (word_written bytes function.slot at) laid (omega (arith, same)) (All-tail (λ f. IsInSections image.sections f.slot) function functions words) ∙ same

-- the stages of an image's bytes
pub raw_contents : ImageParts → List ℕ
raw_contents image = with_sections image.sections (replicate image.size 0)

pub length-raw_contents : (image : ImageParts) → IsLaidOut image → length (raw_contents image) ≡ image.size
unfolding raw_contents
length-raw_contents image laid =
    length-with_sections image.sections (replicate image.size 0) image.size (omega (arith, length-replicate {A = ℕ} image.size 0)) (sections_fit image laid) ∙ length-replicate {A = ℕ} image.size 0

pub length-contents_of : (image : ImageParts) (base : ℕ) (slots : List ℕ) → IsLaidOut image → length (contents_of image base slots) ≡ image.size
unfolding raw_contents
length-contents_of image base slots laid =
    let raw = length-raw_contents image laid in
    let moved = length-with_relocations image base (delta image base) image.relocations (raw_contents image) laid (omega (arith, raw)) laid.relocations in
    length-with_addresses image base image.imports slots (with_relocations (delta image base) image.relocations (raw_contents image)) laid (omega (arith, raw, moved)) laid.imports ∙ moved ∙ raw

-- the mapped image shows the bytes of all stages
pub image_cells_shown : (image : ImageParts) (base : ℕ) (slots : List ℕ) → IsLaidOut image → image_cells image base slots ≡ shown image base (contents_of image base slots)
unfolding raw_contents
image_cells_shown image base slots laid =
    let raw = length-raw_contents image laid in
    let moved = length-with_relocations image base (delta image base) image.relocations (raw_contents image) laid (omega (arith, raw)) laid.relocations in
    ap (λ cells. slotted base image.imports slots (relocated base (delta image base) image.relocations cells)) (shown_first image base laid)
    ∙ ap (slotted base image.imports slots) (relocated_shown image base (delta image base) image.relocations (raw_contents image) laid (omega (arith, raw)) laid.relocations)
    ∙ slotted_shown image base image.imports slots (with_relocations (delta image base) image.relocations (raw_contents image)) laid (omega (arith, raw, moved)) laid.imports
