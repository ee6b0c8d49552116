-- The parts of an image as lists.
use Rattle.std.specs.Prelude.{Result, Ok, Err, OnErr, IfErr}
use Rattle.std.proofs.Common.{◌≡◌, ℕ, suc, zero, ◌+◌, ◌<◌, ◌≤◌, List, [], ◌∷◌, length, get_or, map, None, Some, Option, inl, inr, refl, sym, ap, ◌∙◌, subst, arith, All, Vec, Global}
use Rattle.std.proofs.lemmas.List.{length-map, get_or-map}
use Rattle.std.proofs.lemmas.Bool.{cases_lt}
use Rattle.std.proofs.lemmas.List.Elements.{All-tail}
use Rattle.nd_mem.specs.declared.Rights.{Rights}
use Rattle.nd_mem.specs.Cell.{Cell}
use Rattle.std.specs.Option.{option_or}
use Rattle.nd_mem.specs.Space.{Cells, region_refusal}
use Rattle.pe_image.specs.declared.headers.Section.{Section}
use Rattle.pe_image.specs.Image.{SectionPart, ImageParts, section_parts, range_cell, section_cell, sections_cell, sections_refusal, read_only, IsSectionLaidOut, sections_of}
use Rattle.pe_image.specs.declared.image.Image.TheInside.{Inside}
use Rattle.pe_image.specs.Inside.{parts_inside, IsKept}
use Rattle.pe_image.proofs.Mapping.{either_none_right, either_none, free_at, region_refusal-same, range_cell-out}

pub sections-section_parts : (sections : List Section) (contents : List (List ℕ)) → length contents ≡ length sections → map (λ part. part.section) (section_parts sections contents) ≡ sections
sections-section_parts [] contents e = refl
sections-section_parts (section ∷ sections) [] e = absurd (omega arith)
sections-section_parts (section ∷ sections) (bytes ∷ contents) e = ap (λ rest. section ∷ rest) (sections-section_parts sections contents (omega arith))

pub length-section_parts : (sections : List Section) (contents : List (List ℕ)) → length contents ≡ length sections → length (section_parts sections contents) ≡ length sections
length-section_parts [] contents e = refl
length-section_parts (section ∷ sections) [] e = absurd (omega arith)
length-section_parts (section ∷ sections) (bytes ∷ contents) e = ap suc (length-section_parts sections contents (omega arith))

pub get_or-section_parts : (sections : List Section) (contents : List (List ℕ)) (k : ℕ) (section : Section) (bytes : List ℕ) (d : SectionPart) → length contents ≡ length sections → k < length sections → get_or (section_parts sections contents) k d ≡ record { section = get_or sections k section; bytes = get_or contents k bytes }
get_or-section_parts [] contents k section bytes d e less = absurd (omega arith)
get_or-section_parts (s ∷ sections) [] k section bytes d e less = absurd (omega arith)
get_or-section_parts (s ∷ sections) (b ∷ contents) zero section bytes d e less = refl
get_or-section_parts (s ∷ sections) (b ∷ contents) (suc k) section bytes d e less = get_or-section_parts sections contents k section bytes d (omega arith) (omega arith)

-- the part at a place, by the section and the bytes there
pub part_at : (sections : List Section) (contents : List (List ℕ)) (k : ℕ) (section other : Section) (bytes : List ℕ) (d : SectionPart) → length contents ≡ length sections → k < length sections → section ≡ get_or sections k other → bytes ≡ get_or contents k bytes → get_or (section_parts sections contents) k d ≡ record { section = section; bytes = bytes }
part_at sections contents k section other bytes d many less is are =
    get_or-section_parts sections contents k other bytes d many less ∙ (λ i. record { section = sym is i; bytes = sym are i })

pub laid_out_at : (image : ImageParts) (sections : List Section) (contents : List (List ℕ)) (k : ℕ) (section other : Section) (bytes : List ℕ) → length contents ≡ length sections → k < length sections → section ≡ get_or sections k other → bytes ≡ get_or contents k bytes → All (IsSectionLaidOut image) (section_parts sections contents) → IsSectionLaidOut image (record { section = section; bytes = bytes })
laid_out_at image sections contents k section other bytes many less is are all =
    let part : SectionPart = record { section = section; bytes = bytes } in
    subst (IsSectionLaidOut image) (part_at sections contents k section other bytes part many less is are) (all k part (rw (length-section_parts sections contents many) less))

-- as an image keeps them
pub as_many : (image : Inside) → IsKept image → length (map (λ b. b.items) image.contents.items) ≡ length image.sections.items
as_many image kept = length-map image.contents.items (λ b. b.items) ∙ kept.raw_parts

pub sections_are : (image : Inside) → IsKept image → sections_of (parts_inside image) ≡ image.sections.items
sections_are image kept = sections-section_parts image.sections.items (map (λ b. b.items) image.contents.items) (as_many image kept)

-- the bytes at a place
pub bytes_at : (contents : List (Vec ℕ Global)) (k : ℕ) (kept : Vec ℕ Global) (bytes : List ℕ) → k < length contents → kept ≡ get_or contents k kept → bytes ≡ kept.items → bytes ≡ get_or (map (λ b. b.items) contents) k bytes
bytes_at contents k kept bytes less is are = are ∙ ap (λ (b : Vec ℕ Global). b.items) is ∙ sym (get_or-map (λ b. b.items) contents k kept bytes less)

-- ---- a whole image
pub either_exchange : (o c : Option Cell) → ((cell : Cell) → c ≡ Some cell → o ≡ None) → option_or o c ≡ option_or c o
either_exchange None c apart = sym (either_none_right c)
either_exchange (Some found) None apart = refl
either_exchange (Some found) (Some cell) apart = absurd (let e : Some found ≡ None = apart cell refl in cc)

pub free_in_range : (cells : Cells) (at n : ℕ) (bytes : List ℕ) (rights : Rights) (x : ℕ) (cell : Cell) → region_refusal cells at n ≡ None → range_cell at n bytes rights x ≡ Some cell → cells x ≡ None
free_in_range cells at n bytes rights x cell free is =
    let outside : (at ≤ x → at + n ≤ x) → cells x ≡ None = λ out. absurd (let none : range_cell at n bytes rights x ≡ None = range_cell-out at n bytes rights x out in cc) in
    elim (cases_lt x at) [
      | inl below ↦ outside (λ low. absurd (omega arith))
      | inr low ↦ elim (cases_lt x (at + n)) [ inl within ↦ free_at cells at n x free low within | inr high ↦ outside (λ _. high) ]
    ]

pub free_in_either : (o c : Option Cell) (cell : Cell) (P : Type 0) → (o ≡ Some cell → P) → (c ≡ Some cell → P) → option_or o c ≡ Some cell → P
free_in_either None c cell P first second is = second is
free_in_either (Some found) c cell P first second is = first is

pub free_in_sections : (cells : Cells) (base : ℕ) (parts : List SectionPart) (x : ℕ) (cell : Cell) → sections_refusal cells base (map (λ part. part.section) parts) ≡ None → sections_cell base parts x ≡ Some cell → cells x ≡ None
free_in_sections cells base [] x cell free is = absurd (cc)
free_in_sections cells base (part ∷ parts) x cell free is =
    let both = either_none _ _ free in
    free_in_either (section_cell base part x) (sections_cell base parts x) cell (cells x ≡ None)
    (free_in_range cells (base + part.section.rva) part.section.span part.bytes part.section.rights x cell both.0)
    (free_in_sections cells base parts x cell both.1)
    is

-- the headers leave the sections' ranges free
pub still_free : (old new : Cells) (base : ℕ) (image : ImageParts) (parts : List SectionPart) → All (IsSectionLaidOut image) parts → ((x : ℕ) → new x ≡ option_or (old x) (range_cell base image.header_size image.headers read_only x)) → sections_refusal old base (map (λ part. part.section) parts) ≡ None → sections_refusal new base (map (λ part. part.section) parts) ≡ None
still_free old new base image [] laid added free = refl
still_free old new base image (part ∷ parts) laid added free =
    let both : (region_refusal old (base + part.section.rva) part.section.span ≡ None) × (sections_refusal old base (map (λ part. part.section) parts) ≡ None) = either_none _ _ free in
    let here : IsSectionLaidOut image part = laid 0 part (omega arith) in
    let same : region_refusal new (base + part.section.rva) part.section.span ≡ region_refusal old (base + part.section.rva) part.section.span = region_refusal-same new old (base + part.section.rva) part.section.span (λ k less.
    let x = base + part.section.rva + k in
    let behind : image.header_size ≤ part.section.rva = here.behind_headers (omega arith) in
    added x ∙ ap (option_or (old x)) (range_cell-out base image.header_size image.headers read_only x (λ _. omega arith)) ∙ either_none_right (old x)) in
    rw (same, both.0) (still_free old new base image parts (All-tail (IsSectionLaidOut image) part parts laid) added both.1)

-- ---- a refusal that leaves what holds anyway
pub on_err_from : {T E P : Type 0} (r : Result T E) → P → OnErr r P
on_err_from (Ok x) p = tt
on_err_from (Err e) p = p

pub if_err_from : {T E : Type 0} (r : Result T E) (P : E → Type 0) → ((e : E) → P e) → IfErr r P
if_err_from (Ok x) P p = tt
if_err_from (Err e) P p = p e
