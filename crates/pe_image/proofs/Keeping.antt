-- The parts that an image keeps of its file.
use Rattle.std.proofs.Common.{◌≡◌, ℕ, List, [], ◌∷◌, length, map, min, take, refl, sym, ap, ◌∙◌}
use Rattle.std.proofs.lemmas.List.{take_min}
use Rattle.std.proofs.Math.Nat.{min_comm}
use Rattle.pe_image.specs.declared.headers.OptionalHeader.{OptionalHeader}
use Rattle.pe_image.specs.declared.reading.Contents.{Contents}
use Rattle.pe_image.specs.declared.headers.Section.{Section}
use Rattle.pe_image.specs.declared.sections.Part.{Part}
use Rattle.pe_image.specs.Image.{SectionPart, ImportParts, ImageParts, section_parts}
use Rattle.pe_image.specs.Sections.{seen}
use Rattle.pe_image.specs.Held.{Holds}

parts_kept : (parts : List Part) → section_parts (map (λ part. part.section) parts) (map (λ part. part.raw.now) parts) ≡ map seen parts
parts_kept [] = refl
parts_kept (part ∷ parts) = ap (λ (others : List SectionPart). seen part ∷ others) (parts_kept parts)

-- an image of these fields
abbrev pub made : OptionalHeader → (headers : List ℕ) → List Section → List (List ℕ) → (relocations : List ℕ) → List ImportParts → ImageParts
made of headers sections contents relocations imports =
    record { base = of.image_base; entry = of.entry; size = of.image_size; header_size = of.header_size; headers = headers; sections = section_parts sections contents; relocations = relocations; imports = imports }

pub image_kept : (bytes : List ℕ) (image : ImageParts) (contents : Contents) → Holds bytes contents image → (headers : List ℕ) (sections : List Section) (raw : List (List ℕ)) (relocations : List ℕ) (imports : List ImportParts)
    → headers ≡ take (min (length bytes) contents.placed.headers.image.header_size) bytes → sections ≡ map (λ part. part.section) contents.placed.parts.items → raw ≡ map (λ part. part.raw.now) contents.placed.parts.items
    → relocations ≡ image.relocations → imports ≡ image.imports
    → made contents.placed.headers.image headers sections raw relocations imports ≡ image
image_kept bytes image contents holds headers sections raw relocations imports h s r words functions =
    let of = contents.placed.headers.image in
    let kept : headers ≡ take of.header_size bytes = h ∙ ap (λ (n : ℕ). take n bytes) (min_comm (length bytes) of.header_size) ∙ take_min of.header_size bytes in
    rw (kept, s, r, words, functions, parts_kept contents.placed.parts.items) (sym holds.rest)
