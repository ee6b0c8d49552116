-- An image's headers, and its sections with the bytes of its contents, are the mapped image.
use Rattle.std.proofs.Common.{◌≡◌, ℕ, ◌+◌, ◌-◌, ◌<◌, ◌≤◌, inl, inr, zero, suc, if◌then◌else◌, List, [], ◌∷◌, length, map, get_or, take, drop, Option, None, Some, is_some, refl, sym, ap, ◌∙◌, subst, arith, All}
use Rattle.std.specs.List.{AllPairs}
use Rattle.std.proofs.lemmas.Bool.{cases_lt}
use Rattle.std.proofs.lemmas.List.{get_or-take, get_or-drop, get_or-map, length-map, take-map}
use Rattle.nd_mem.specs.Cell.{Cell, cell_with}
use Rattle.std.specs.Option.{option_or}
use Rattle.nd_mem.specs.Space.{Cells}
use Rattle.nd_mem.specs.declared.Rights.{Rights}
use Rattle.pe_image.specs.declared.headers.Section.{Section}
use Rattle.pe_image.specs.Image.{SectionPart, ImageParts, range_cell, read_only, section_cell, sections_cell, image_cells, front_cells, map_refusal, sections_of, IsSectionLaidOut, IsLaidOut}
use Rattle.pe_image.specs.Contents.{contents_of, filled_cell, AreDisjoint, EndsWithin}
use Rattle.pe_image.proofs.Mapping.{range_cell-in, range_cell-out, either_assoc, either_none}
use Rattle.pe_image.proofs.Parts.{either_exchange, free_in_range, free_in_either, free_in_sections}
use Rattle.pe_image.proofs.Contents.{shown, headers_cell, cell_with-either, image_cells_shown}

-- ---- the sections, as the list of an image has them
at_map : (parts : List SectionPart) (k : ℕ) (d : Section) → k < length (map (λ part. part.section) parts) → get_or (map (λ part. part.section) parts) k d ≡ (get_or parts k (record { section = d; bytes = [] })).section
at_map parts k d less = get_or-map (λ (part : SectionPart). part.section) parts k (record { section = d; bytes = [] }) d (omega (arith, length-map parts (λ part. part.section)))

pub sections_within : (image : ImageParts) (n : ℕ) → IsLaidOut image → n ≡ image.size → All (EndsWithin n) (sections_of image)
sections_within image n laid is = λ k d less.
    let part : SectionPart = get_or image.sections k (record { section = d; bytes = [] }) in
    let here : IsSectionLaidOut image part = laid.sections k (record { section = d; bytes = [] }) (omega (arith, length-map image.sections (λ (p : SectionPart). p.section))) in
    subst (EndsWithin n) (sym (at_map image.sections k d less)) (omega (arith, here.inside))

pub sections_apart : (image : ImageParts) → IsLaidOut image → AllPairs AreDisjoint (sections_of image)
sections_apart image laid = λ i j d before less.
    let many = length-map image.sections (λ (p : SectionPart). p.section) in
    let none : SectionPart = record { section = d; bytes = [] } in
    let apart : AreDisjoint (get_or image.sections i none).section (get_or image.sections j none).section = λ rva a b c e.
    laid.apart i j none before (omega (arith, many)) rva (record { from = a; to = omega (arith, b) }) (record { from = c; to = omega (arith, e) }) in
    subst (λ s. AreDisjoint s (get_or (map (λ part. part.section) image.sections) j d)) (sym (at_map image.sections i d (omega arith)))
    (subst (AreDisjoint (get_or image.sections i none).section) (sym (at_map image.sections j d less)) apart)

-- ---- the sections with other bytes
moved_cell : (value byte other : ℕ) (rights : Rights) (x y : Option Cell) → x ≡ Some (record { byte = byte; rights = rights }) → y ≡ Some (record { byte = other; rights = rights }) → byte ≡ value → x ≡ cell_with value y
moved_cell value byte other rights x y here there same = here ∙ ap (λ b. Some (record { byte = b; rights = rights })) same ∙ sym (ap (cell_with value) there)

filled_one : (base : ℕ) (contents : List ℕ) (rva span : ℕ) (bytes : List ℕ) (rights : Rights) (a : ℕ)
    → range_cell (base + rva) span (take span (drop rva contents)) rights a ≡ cell_with (get_or contents (a - base) 0) (range_cell (base + rva) span bytes rights a)
filled_one base contents rva span bytes rights a =
    let piece = take span (drop rva contents) in
    let outside = λ (out : base + rva ≤ a → base + rva + span ≤ a).
    range_cell-out (base + rva) span piece rights a out ∙ sym (ap (cell_with (get_or contents (a - base) 0)) (range_cell-out (base + rva) span bytes rights a out)) in
    elim (cases_lt a (base + rva)) [
      | inl below ↦ outside (λ low. absurd (omega arith))
      | inr low ↦ elim (cases_lt a (base + rva + span)) [
        | inr high ↦ outside (λ _. high)
        | inl within ↦
            let place : rva + (a - (base + rva)) ≡ a - base = omega arith in
            let byte : get_or piece (a - (base + rva)) 0 ≡ get_or contents (a - base) 0 =
            get_or-take span (drop rva contents) (a - (base + rva)) 0 (omega arith) ∙ get_or-drop rva contents (a - (base + rva)) 0 ∙ ap (λ j. get_or contents j 0) place in
            moved_cell (get_or contents (a - base) 0) (get_or piece (a - (base + rva)) 0) (get_or bytes (a - (base + rva)) 0) rights (range_cell (base + rva) span piece rights a) (range_cell (base + rva) span bytes rights a)
            (range_cell-in (base + rva) span piece rights a low within) (range_cell-in (base + rva) span bytes rights a low within) byte
      ]
    ]

filled_is : (base : ℕ) (contents : List ℕ) (parts : List SectionPart) (a : ℕ) → filled_cell base contents (map (λ part. part.section) parts) a ≡ cell_with (get_or contents (a - base) 0) (sections_cell base parts a)
filled_is base contents [] a = refl
filled_is base contents (part ∷ parts) a =
    let byte = get_or contents (a - base) 0 in
    ap (λ o. option_or o (filled_cell base contents (map (λ p. p.section) parts) a)) (filled_one base contents part.section.rva part.section.span part.bytes part.section.rights a)
    ∙ ap (option_or (cell_with byte (section_cell base part a))) (filled_is base contents parts a)
    ∙ sym (cell_with-either byte (section_cell base part a) (sections_cell base parts a))

some_with : (byte : ℕ) (o : Option Cell) (cell : Cell) (P : Type 0) → ((found : Cell) → o ≡ Some found → P) → cell_with byte o ≡ Some cell → P
some_with byte None cell P f is = absurd (cc)
some_with byte (Some found) cell P f is = f found refl

exchange : (old : Cells) (base : ℕ) (image : ImageParts) (bytes : List ℕ) (x : ℕ) → map_refusal old base image ≡ None → option_or (old x) (shown image base bytes x) ≡ option_or (shown image base bytes x) (old x)
unfolding shown headers_cell
exchange old base image bytes x free =
    let both = either_none _ _ free in
    either_exchange (old x) (shown image base bytes x)
    (λ cell. free_in_either (headers_cell image base x) (cell_with (get_or bytes (x - base) 0) (sections_cell base image.sections x)) cell (old x ≡ None)
    (free_in_range old base image.header_size image.headers read_only x cell both.0)
    (some_with (get_or bytes (x - base) 0) (sections_cell base image.sections x) cell (old x ≡ None) (λ found. free_in_sections old base image.sections x found both.1)))

-- headers, and then sections with the image's contents
pub whole_image : (old mid new : Cells) (base : ℕ) (image : ImageParts) (slots : List ℕ) → IsLaidOut image → map_refusal old base image ≡ None
    → ((x : ℕ) → mid x ≡ option_or (old x) (range_cell base image.header_size image.headers read_only x))
    → ((x : ℕ) → new x ≡ option_or (mid x) (filled_cell base (contents_of image base slots) (sections_of image) x))
    → (x : ℕ) → new x ≡ option_or (image_cells image base slots x) (old x)
unfolding shown headers_cell
whole_image old mid new base image slots laid free headers sections x =
    let bytes = contents_of image base slots in
    let filled = filled_cell base bytes (sections_of image) x in
    let shown_at : Option Cell = shown image base bytes x in
    sections x
    ∙ ap (λ o. option_or o filled) (headers x)
    ∙ either_assoc (old x) (headers_cell image base x) filled
    ∙ ap (λ o. option_or (old x) (option_or (headers_cell image base x) o)) (filled_is base bytes image.sections x)
    ∙ exchange old base image bytes x free
    ∙ ap (λ (cells : Cells). option_or (cells x) (old x)) (sym (image_cells_shown image base slots laid))

-- ---- the first sections alone
either_front : (o s whole : Option Cell) (cell : Cell) → (s ≡ Some cell → whole ≡ Some cell) → option_or o s ≡ Some cell → option_or o whole ≡ Some cell
either_front None s whole cell same is = same is
either_front (Some found) s whole cell same is = is

sections_front : (base : ℕ) (parts : List SectionPart) (n a : ℕ) (cell : Cell) → sections_cell base (take n parts) a ≡ Some cell → sections_cell base parts a ≡ Some cell
sections_front base [] zero a cell is = absurd cc
sections_front base [] (suc n) a cell is = absurd cc
sections_front base (part ∷ parts) zero a cell is = absurd cc
sections_front base (part ∷ parts) (suc n) a cell is =
    either_front (section_cell base part a) (sections_cell base (take n parts) a) (sections_cell base parts a) cell (sections_front base parts n a cell) is

front_of : (headers front whole shown_at : Option Cell) (byte : ℕ) → shown_at ≡ option_or headers (cell_with byte whole) → ((cell : Cell) → front ≡ Some cell → whole ≡ Some cell)
    → option_or headers (cell_with byte front) ≡ (if is_some (option_or headers front) then shown_at else None)
front_of (Some cell) front whole shown_at byte is same = sym is
front_of None None whole shown_at byte is same = refl
front_of None (Some cell) whole shown_at byte is same = sym (is ∙ ap (cell_with byte) (same cell refl))

pub front_image : (old mid new : Cells) (base : ℕ) (image : ImageParts) (slots : List ℕ) (n : ℕ) → IsLaidOut image
    → ((x : ℕ) → mid x ≡ option_or (old x) (range_cell base image.header_size image.headers read_only x))
    → ((x : ℕ) → new x ≡ option_or (mid x) (filled_cell base (contents_of image base slots) (take n (sections_of image)) x))
    → (x : ℕ) → new x ≡ option_or (old x) (front_cells image base slots n x)
unfolding shown headers_cell
front_image old mid new base image slots n laid headers sections x =
    let bytes = contents_of image base slots in
    let byte : ℕ = get_or bytes (x - base) 0 in
    let front = take n image.sections in
    let filled = filled_cell base bytes (take n (sections_of image)) x in
    let filled_front : filled ≡ cell_with byte (sections_cell base front x) =
    ap (λ (listed : List Section). filled_cell base bytes listed x) (take-map (λ (part : SectionPart). part.section) n image.sections) ∙ filled_is base bytes front x in
    sections x
    ∙ ap (λ o. option_or o filled) (headers x)
    ∙ either_assoc (old x) (headers_cell image base x) filled
    ∙ ap (λ o. option_or (old x) (option_or (headers_cell image base x) o)) filled_front
    ∙ ap (option_or (old x)) (front_of (headers_cell image base x) (sections_cell base front x) (sections_cell base image.sections x) (image_cells image base slots x) byte
    (ap (λ (cells : Cells). cells x) (image_cells_shown image base slots laid)) (sections_front base image.sections n x))
