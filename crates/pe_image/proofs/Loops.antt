-- One turn of each loop of the mapping.
use Rattle.std.proofs.Common.{◌≡◌, ℕ, zero, suc, ◌+◌, ◌-◌, ◌<◌, ◌≤◌, List, [], ◌∷◌, length, get_or, take, drop, Option, None, refl, sym, ap, ◌∙◌, subst, arith, All, inl, inr, length-drop}
use Rattle.std.specs.List.{AllPairs}
use Rattle.std.proofs.lemmas.Bool.{cases_lt}
use Rattle.std.proofs.lemmas.List.{drop_more, get_or-drop, get_or_default}
use Rattle.std.proofs.lemmas.List.Elements.{All-tail}
use Rattle.std.proofs.Math.ListN.{drop_of_length-le}
use Rattle.nd_mem.specs.Cell.{Cell}
use Rattle.std.specs.Option.{option_or}
use Rattle.nd_mem.specs.Space.{Cells, region_refusal}
use Rattle.pe_image.specs.declared.headers.Section.{Section}
use Rattle.pe_image.specs.Image.{SectionPart, ImageParts, ImportParts, range_cell, sections_refusal, IsLaidOut}
use Rattle.pe_image.specs.Contents.{written, word_written, word_moved, with_sections, with_relocations, with_addresses, filled_cell, AreDisjoint, WordEndsWithin, SlotEndsWithin}
use Rattle.pe_image.proofs.Mapping.{either_none, either_none_right, either_assoc, region_refusal-same, range_cell-out}
use Rattle.pe_image.proofs.Contents.{word_of, in_sections}

-- ---- relocations
pub relocations_more : (difference : ℕ) (rvas : List ℕ) (i e : ℕ) (bytes : List ℕ) → i < length rvas → with_relocations difference (drop i rvas) bytes ≡ with_relocations difference (drop (i + 1) rvas) (word_moved difference bytes (get_or rvas i e))
unfolding with_relocations
relocations_more difference rvas i e bytes less = ap (λ rest. with_relocations difference rest bytes) (drop_more rvas i e less)

pub relocations_done : (difference : ℕ) (rvas : List ℕ) (i : ℕ) (bytes : List ℕ) → length rvas ≤ i → with_relocations difference (drop i rvas) bytes ≡ bytes
unfolding with_relocations
relocations_done difference rvas i bytes past = ap (λ rest. with_relocations difference rest bytes) (drop_of_length-le rvas past)

pub words_within : (image : ImageParts) (n : ℕ) → IsLaidOut image → image.size ≤ n → All (WordEndsWithin n) image.relocations
words_within image n laid room = λ k d less.
    let rva = get_or image.relocations k d in
    let word = word_of image 0 rva laid (in_sections image.sections rva (laid.relocations k d less)) in
    omega (arith, word.inside)

-- ---- slots
pub addresses_more : (functions : List ImportParts) (addresses : List ℕ) (i : ℕ) (function : ImportParts) (e : ℕ) (bytes : List ℕ) → i < length functions → i < length addresses
    → with_addresses (drop i functions) (drop i addresses) bytes ≡ with_addresses (drop (i + 1) functions) (drop (i + 1) addresses) (word_written bytes (get_or functions i function).slot (get_or addresses i e))
unfolding with_addresses
addresses_more functions addresses i function e bytes less fewer =
    ap (λ rest. with_addresses rest (drop i addresses) bytes) (drop_more functions i function less)
    ∙ ap (λ rest. with_addresses (get_or functions i function ∷ drop (i + 1) functions) rest bytes) (drop_more addresses i e fewer)

pub addresses_done : (functions : List ImportParts) (addresses : List ℕ) (i : ℕ) (bytes : List ℕ) → length functions ≤ i → with_addresses (drop i functions) (drop i addresses) bytes ≡ bytes
unfolding with_addresses
addresses_done functions addresses i bytes past = ap (λ rest. with_addresses rest (drop i addresses) bytes) (drop_of_length-le functions past)

pub slots_within : (image : ImageParts) (n : ℕ) → IsLaidOut image → image.size ≤ n → All (SlotEndsWithin n) image.imports
slots_within image n laid room = λ k d less.
    let word = word_of image 0 (get_or image.imports k d).slot laid (laid.imports k d less) in
    omega (arith, word.inside)

-- ---- raw parts
pub sections_more : (parts : List SectionPart) (i : ℕ) (part : SectionPart) (bytes : List ℕ) → i < length parts → get_or parts i part ≡ part → with_sections (drop i parts) bytes ≡ with_sections (drop (i + 1) parts) (written bytes part.section.rva part.bytes)
unfolding with_sections
sections_more parts i part bytes less is =
    ap (λ rest. with_sections rest bytes) (drop_more parts i part less)
    ∙ ap (λ (p : SectionPart). with_sections (drop (i + 1) parts) (written bytes p.section.rva p.bytes)) is

pub sections_done : (parts : List SectionPart) (i : ℕ) (bytes : List ℕ) → length parts ≤ i → with_sections (drop i parts) bytes ≡ bytes
unfolding with_sections
sections_done parts i bytes past = ap (λ rest. with_sections rest bytes) (drop_of_length-le parts past)

-- ---- mapped sections
unfoldable pub section_cell_of : (base : ℕ) → List ℕ → Section → ℕ → Option Cell
section_cell_of base contents section a = range_cell (base + section.rva) section.span (take section.span (drop section.rva contents)) section.rights a

-- the bytes from a section's RVA on, up to its end
pub added_part : (mid new : Cells) (base : ℕ) (contents : List ℕ) (section : Section)
    → ((a : ℕ) → new a ≡ option_or (mid a) (range_cell (base + section.rva) section.span (take (section.rva + section.span - section.rva) (drop section.rva contents)) section.rights a))
    → (a : ℕ) → new a ≡ option_or (mid a) (section_cell_of base contents section a)
unfolding section_cell_of
added_part mid new base contents section added a =
    let same : section.rva + section.span - section.rva ≡ section.span = omega arith in
    added a ∙ ap (λ n. option_or (mid a) (range_cell (base + section.rva) section.span (take n (drop section.rva contents)) section.rights a)) same

pub filled_more : (base : ℕ) (contents : List ℕ) (sections : List Section) (i : ℕ) (d : Section) (a : ℕ) → i < length sections
    → filled_cell base contents (take (i + 1) sections) a ≡ option_or (filled_cell base contents (take i sections) a) (section_cell_of base contents (get_or sections i d) a)
unfolding section_cell_of
filled_more base contents [] i d a less = absurd (omega arith)
filled_more base contents (section ∷ sections) zero d a less = either_none_right (section_cell_of base contents section a)
filled_more base contents (section ∷ sections) (suc i) d a less =
    let next : suc i + 1 ≡ suc (i + 1) = omega arith in
    rw next
    (ap (option_or (section_cell_of base contents section a)) (filled_more base contents sections i d a (omega arith))
    ∙ sym (either_assoc (section_cell_of base contents section a) (filled_cell base contents (take i sections) a) (section_cell_of base contents (get_or sections i d) a)))

-- one more section is mapped
pub filled_next : (old mid new : Cells) (base : ℕ) (contents : List ℕ) (sections : List Section) (i : ℕ) (d : Section) → i < length sections
    → ((a : ℕ) → mid a ≡ option_or (old a) (filled_cell base contents (take i sections) a))
    → ((a : ℕ) → new a ≡ option_or (mid a) (section_cell_of base contents (get_or sections i d) a))
    → (a : ℕ) → new a ≡ option_or (old a) (filled_cell base contents (take (i + 1) sections) a)
filled_next old mid new base contents sections i d less before added a =
    added a
    ∙ ap (λ o. option_or o (section_cell_of base contents (get_or sections i d) a)) (before a)
    ∙ either_assoc (old a) (filled_cell base contents (take i sections) a) (section_cell_of base contents (get_or sections i d) a)
    ∙ ap (option_or (old a)) (sym (filled_more base contents sections i d a less))

behind_free : (mid new : Cells) (base : ℕ) (section : Section) (bytes : List ℕ) (rest : List Section) → All (AreDisjoint section) rest
    → ((a : ℕ) → new a ≡ option_or (mid a) (range_cell (base + section.rva) section.span bytes section.rights a))
    → sections_refusal mid base rest ≡ None → sections_refusal new base rest ≡ None
behind_free mid new base section bytes [] apart added free = refl
behind_free mid new base section bytes (other ∷ rest) apart added free =
    let both : (region_refusal mid (base + other.rva) other.span ≡ None) × (sections_refusal mid base rest ≡ None) = either_none _ _ free in
    let here : AreDisjoint section other = apart 0 other (omega arith) in
    let same : region_refusal new (base + other.rva) other.span ≡ region_refusal mid (base + other.rva) other.span = region_refusal-same new mid (base + other.rva) other.span (λ k less.
    let x = base + other.rva + k in
    let out : base + section.rva ≤ x → base + section.rva + section.span ≤ x = λ low. elim (cases_lt x (base + section.rva + section.span)) [
      | inl within ↦ absurd (here (other.rva + k) (omega arith) (omega arith) (omega arith) (omega arith))
      | inr high ↦ high
    ] in
    added x ∙ ap (option_or (mid x)) (range_cell-out (base + section.rva) section.span bytes section.rights x out) ∙ either_none_right (mid x)) in
    rw (same, both.0) (behind_free mid new base section bytes rest (All-tail (AreDisjoint section) other rest apart) added both.1)

later_apart : (sections : List Section) (i : ℕ) (d : Section) → i < length sections → AllPairs AreDisjoint sections → All (AreDisjoint (get_or sections i d)) (drop (i + 1) sections)
later_apart sections i d less apart = λ k e within.
    let long : i + 1 + k < length sections = omega (arith, length-drop (i + 1) sections) in
    let there : get_or (drop (i + 1) sections) k e ≡ get_or sections (i + 1 + k) d = get_or-drop (i + 1) sections k e ∙ get_or_default sections (i + 1 + k) e d long in
    subst (AreDisjoint (get_or sections i d)) (sym there) (apart i (i + 1 + k) d (omega arith) long)

-- the sections behind the next one stay free
pub later_free : (mid new : Cells) (base : ℕ) (sections : List Section) (i : ℕ) (d : Section) (bytes : List ℕ) → i < length sections → AllPairs AreDisjoint sections
    → ((a : ℕ) → new a ≡ option_or (mid a) (range_cell (base + (get_or sections i d).rva) (get_or sections i d).span bytes (get_or sections i d).rights a))
    → sections_refusal mid base (drop i sections) ≡ None → sections_refusal new base (drop (i + 1) sections) ≡ None
later_free mid new base sections i d bytes less apart added free =
    let parts : sections_refusal mid base (get_or sections i d ∷ drop (i + 1) sections) ≡ None = ap (sections_refusal mid base) (sym (drop_more sections i d less)) ∙ free in
    behind_free mid new base (get_or sections i d) bytes (drop (i + 1) sections) (later_apart sections i d less apart) added (either_none _ _ parts).1

-- the next section can be added
pub next_free : (mid : Cells) (base : ℕ) (sections : List Section) (i : ℕ) (d : Section) → i < length sections → sections_refusal mid base (drop i sections) ≡ None → region_refusal mid (base + (get_or sections i d).rva) (get_or sections i d).span ≡ None
next_free mid base sections i d less free =
    let parts : sections_refusal mid base (get_or sections i d ∷ drop (i + 1) sections) ≡ None = ap (sections_refusal mid base) (sym (drop_more sections i d less)) ∙ free in
    (either_none _ _ parts).0
