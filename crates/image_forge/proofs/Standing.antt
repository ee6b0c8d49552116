-- Where the text of a forged image stands.
use Rattle.std.proofs.Common.{◌≡◌, ℕ, ◌+◌, ◌-◌, ◌<◌, ◌≤◌, inl, inr, List, [], ◌∷◌, ◌++◌, length, get_or, drop, All, Option, None, Some, ap, subst, ◌∙◌, length-append, length-take, arith}
use Rattle.std.proofs.lemmas.Bool.{le-leb, lt-ltb, le-ltb}
use Rattle.std.proofs.lemmas.List.{get_or_append_left}
use Rattle.std.specs.Option.{option_or}
use Rattle.nd_mem.specs.Cell.{Cell}
use Rattle.nd_mem.specs.declared.Rights.{Rights}
use Rattle.pe_image.specs.declared.headers.SectionHeader.{SectionHeader}
use Rattle.pe_image.specs.File.{section_header}
use Rattle.pe_image.specs.Image.{SectionPart, ImageParts, range_cell, read_only, section_cell, sections_cell, image_cell}
use Rattle.pe_image.specs.Grammar.{IsImage, AreSections, IsSection, LiesInImage, section_table_offset}
use Rattle.image_forge.specs.Forged.{all_rights, HasText}

range_inside : (at n : ℕ) (bytes : List ℕ) (rights : Rights) (x : ℕ) → at ≤ x → x < at + n → range_cell at n bytes rights x ≡ Some (record { byte = get_or bytes (x - at) 0; rights = rights })
range_inside at n bytes rights x low high = rw (le-leb _ _ low, lt-ltb _ _ high)

range_behind : (at n : ℕ) (bytes : List ℕ) (rights : Rights) (x : ℕ) → at ≤ x → at + n ≤ x → range_cell at n bytes rights x ≡ None
range_behind at n bytes rights x low high = rw (le-leb _ _ low, le-ltb _ _ high)

-- the file has no more bytes of a section than it takes of the image
bytes_within : (file : List ℕ) (header : SectionHeader) (part : SectionPart) → IsSection file header part → length part.bytes ≤ part.section.span
bytes_within file header part s =
    let size = ap length s.contents ∙ length-take part.section.raw (drop header.raw_pointer file) in
    elim s.raw [
      | inl none ↦ omega (arith, size, none.1)
      | inr some ↦ omega (arith, size, some.1)
    ]

-- one section that begins with the text
section_there : (base : ℕ) (out : List ℕ) (part : SectionPart) (behind : List ℕ) (i a : ℕ) → part.section.rva ≡ 0x1000 → part.section.rights ≡ all_rights → part.bytes ≡ out ++ behind → length part.bytes ≤ part.section.span → i < length out → a ≡ base + (0x1000 + i)
    → section_cell base part a ≡ Some (record { byte = get_or out i 0; rights = all_rights })
section_there base out part behind i a rva rights bytes span less at =
    let size : length out ≤ length part.bytes = omega (arith, ap length bytes, length-append out behind) in
    let place : a - (base + part.section.rva) ≡ i = omega arith in
    let byte : get_or part.bytes (a - (base + part.section.rva)) 0 ≡ get_or out i 0 =
    ap (λ n. get_or part.bytes n 0) place ∙ ap (λ (bs : List ℕ). get_or bs i 0) bytes ∙ get_or_append_left out behind 0 i less in
    range_inside (base + part.section.rva) part.section.span part.bytes part.section.rights a (omega arith) (omega arith)
    ∙ ap (λ b. Some (record { byte = b; rights = part.section.rights })) byte
    ∙ ap (λ (r : Rights). Some (record { byte = get_or out i 0; rights = r })) rights

pub text_stands : (file out : List ℕ) (image : ImageParts) (i : ℕ) → IsImage file image → HasText out image → i < length out
    → image_cell image 0x80100000 (0x80101000 + i) ≡ Some (record { byte = get_or out i 0; rights = all_rights })
text_stands file out image i read t less =
    let a = 0x80101000 + i in
    let table = subst (λ (parts : List SectionPart). AreSections file (section_table_offset file) parts) t.only read.sections.table in
    let lies = subst (λ (parts : List SectionPart). All (LiesInImage image) parts) t.only read.sections.inside in
    let span = bytes_within file (section_header file (section_table_offset file)) t.part table.1 in
    let size : length out ≤ length t.part.bytes = omega (arith, ap length t.bytes, length-append out t.behind) in
    let headers : image.header_size ≤ 0x1000 = (lies 0 t.part (omega arith)).behind_headers 0x1000 (record { from = omega arith; to = omega arith }) in
    let here = section_there 0x80100000 out t.part t.behind i a t.rva t.rights t.bytes span less (omega arith) in
    ap (λ (parts : List SectionPart). option_or (range_cell 0x80100000 image.header_size image.headers read_only a) (sections_cell 0x80100000 parts a)) t.only
    ∙ ap (λ (c : Option Cell). option_or c (sections_cell 0x80100000 (t.part ∷ []) a)) (range_behind 0x80100000 image.header_size image.headers read_only a (omega arith) (omega arith))
    ∙ ap (λ (c : Option Cell). option_or c None) here
