-- What a memory holds once ranges are added to it.
use Rattle.std.proofs.Common.{◌≡◌, ◌≢◌, ℕ, zero, suc, ◌+◌, ◌-◌, ◌<◌, ◌≤◌, inl, inr, Bool, true, false, List, [], ◌∷◌, length, get_or, Option, None, Some, is_some, refl, sym, ap, ◌∙◌, arith, nat_le, nat_lt, ◌&&◌, if◌then◌else◌}
use Rattle.std.specs.FinMap as map
use Rattle.std.proofs.lemmas.Bool.{cases_lt, lt-ltb, le-ltb, ltb-false, le-leb, lt-leb}
use Rattle.std.proofs.lemmas.List.{get_or_past}
use Rattle.nd_mem.specs.declared.Rights.{Rights}
use Rattle.nd_mem.specs.declared.RegionRefusal.{RegionRefusal}
use Rattle.nd_mem.specs.declared.RegionRefusal.TheVariants.{OutOfMemory, High, Overlaps}
use Rattle.nd_mem.specs.Cell.{Cell, zero_cell, cell_with}
use Rattle.std.specs.Option.{option_or}
use Rattle.nd_mem.specs.Space.{Space, Cells, put_from, zeros_from, first_mapped, overlap_at, region_refusal}
use Rattle.nd_mem.specs.Laws.{WriteLaws, RegionLaws}
use Rattle.pe_image.specs.declared.headers.Section.{Section}
use Rattle.pe_image.specs.Image.{ImageParts, range_cell, sections_refusal, map_refusal, sections_of}

-- ---- regions, by the look-up alone
pub mapped_same : (f g : Cells) (a n : ℕ) → ((k : ℕ) → k < n → f (a + k) ≡ g (a + k)) → first_mapped f a n ≡ first_mapped g a n
unfolding first_mapped
mapped_same f g a zero same = refl
mapped_same f g a (suc n) same =
    ap (λ b. if is_some b then Some a else first_mapped f (a + 1) n) (ap f (let e : a ≡ a + 0 = omega arith in e) ∙ same 0 (omega arith) ∙ ap g (omega arith))
    ∙ ap (λ rest. if is_some (g a) then Some a else rest) (mapped_same f g (a + 1) n (λ k less. ap f (omega arith) ∙ same (suc k) (omega arith) ∙ ap g (omega arith)))

found_or_none : (o : Option Cell) (a : ℕ) (rest : Option ℕ) → (if is_some o then Some a else rest) ≡ None → (o ≡ None) × (rest ≡ None)
found_or_none None a rest e = (refl, e)
found_or_none (Some cell) a rest e = absurd (cc)

mapped_none_at : (cells : Cells) (a n k : ℕ) → first_mapped cells a n ≡ None → k < n → cells (a + k) ≡ None
unfolding first_mapped
mapped_none_at cells a zero k none less = absurd (omega arith)
mapped_none_at cells a (suc n) zero none less = ap cells (omega arith) ∙ (found_or_none _ _ _ none).0
mapped_none_at cells a (suc n) (suc k) none less = ap cells (omega arith) ∙ mapped_none_at cells (a + 1) n k (found_or_none _ _ _ none).1 (omega arith)

overlap_none : (o : Option ℕ) → overlap_at o ≡ None → o ≡ None
overlap_none None e = refl
overlap_none (Some a) e = absurd (cc)

-- a region that can be added is low, and nothing of it is mapped
free_parts : (high : Bool) (o : Option ℕ) → (if high then Some High else overlap_at o) ≡ None → (high ≡ false) × (o ≡ None)
free_parts true o e = absurd (cc)
free_parts false o e = (refl, overlap_none o e)

pub free_low : (cells : Cells) (a n : ℕ) → region_refusal cells a n ≡ None → a + n ≤ 0xF0000000
free_low cells a n free = ltb-false _ _ (free_parts (nat_lt 0xF0000000 (a + n)) (first_mapped cells a n) free).0

pub free_at : (cells : Cells) (a n x : ℕ) → region_refusal cells a n ≡ None → a ≤ x → x < a + n → cells x ≡ None
free_at cells a n x free low high =
    let is : x ≡ a + (x - a) = omega arith in
    ap cells is ∙ mapped_none_at cells a n (x - a) (free_parts (nat_lt 0xF0000000 (a + n)) (first_mapped cells a n) free).1 (omega arith)

pub region_refusal-same : (f g : Cells) (a n : ℕ) → ((k : ℕ) → k < n → f (a + k) ≡ g (a + k)) → region_refusal f a n ≡ region_refusal g a n
region_refusal-same f g a n same = ap (λ o. if nat_lt 0xF0000000 (a + n) then Some High else overlap_at o) (mapped_same f g a n same)

-- ---- ranges
not_in_range : (at n : ℕ) (cell : Cell) (other : Option Cell) (x : ℕ) → (at ≤ x → at + n ≤ x) → (if nat_le at x && nat_lt x (at + n) then Some cell else other) ≡ other
not_in_range at n cell other x out =
    elim (cases_lt x at) [
      | inl below ↦ rw (lt-leb _ _ below)
      | inr low ↦ let high : at + n ≤ x = out low in rw (le-leb _ _ low, le-ltb _ _ high)
    ]

pub range_cell-in : (at n : ℕ) (bytes : List ℕ) (rights : Rights) (x : ℕ) → at ≤ x → x < at + n → range_cell at n bytes rights x ≡ Some (record { byte = get_or bytes (x - at) 0; rights = rights })
range_cell-in at n bytes rights x low high = rw (le-leb _ _ low, lt-ltb _ _ high)

pub range_cell-out : (at n : ℕ) (bytes : List ℕ) (rights : Rights) (x : ℕ) → (at ≤ x → at + n ≤ x) → range_cell at n bytes rights x ≡ None
range_cell-out at n bytes rights x out =
    elim (cases_lt x at) [
      | inl below ↦ rw (lt-leb _ _ below)
      | inr low ↦ let high : at + n ≤ x = out low in rw (le-leb _ _ low, le-ltb _ _ high)
    ]

pub either_none_right : {A : Type 0} (o : Option A) → option_or o None ≡ o
either_none_right None = refl
either_none_right (Some x) = refl

pub either_assoc : {A : Type 0} (x y z : Option A) → option_or (option_or x y) z ≡ option_or x (option_or y z)
either_assoc None y z = refl
either_assoc (Some x) y z = refl

-- new zeros with bytes placed at their start: a range
pub range_added : WriteLaws → RegionLaws → (s : Space) (at n : ℕ) (bytes : List ℕ) (rights : Rights) (x : ℕ) → region_refusal (map.get s) at n ≡ None → length bytes ≤ n → map.get (put_from (zeros_from s at n rights) at bytes) x ≡ option_or (map.get s x) (range_cell at n bytes rights x)
range_added writes regions s at n bytes rights x free fits =
    let top : at + n ≤ 0xF0000000 = free_low (map.get s) at n free in
    let zeros = zeros_from s at n rights in
    let outside : (at ≤ x → at + n ≤ x) → map.get (put_from zeros at bytes) x ≡ option_or (map.get s x) (range_cell at n bytes rights x) = λ out.
    writes.others_at zeros at bytes x (omega arith) (λ low. omega (arith, out low))
    ∙ regions.found s at n rights x
    ∙ not_in_range at n (zero_cell rights) (map.get s x) x out
    ∙ sym (either_none_right (map.get s x))
    ∙ ap (option_or (map.get s x)) (sym (range_cell-out at n bytes rights x out)) in
    elim (cases_lt x at) [
      | inl below ↦ outside (λ low. absurd (omega arith))
      | inr low ↦ elim (cases_lt x (at + n)) [
        | inr high ↦ outside (λ _. high)
        | inl within ↦
            let none : map.get s x ≡ None = free_at (map.get s) at n x free low within in
            let zero : map.get zeros x ≡ Some (zero_cell rights) = regions.found s at n rights x ∙ rw (le-leb _ _ low, lt-ltb _ _ within) refl in
            let cell : option_or (map.get s x) (range_cell at n bytes rights x) ≡ Some (record { byte = get_or bytes (x - at) 0; rights = rights }) = rw (none, range_cell-in at n bytes rights x low within) in
            elim (cases_lt (x - at) (length bytes)) [
              | inl placed ↦ writes.written_at zeros at bytes x (omega arith) low (omega arith) ∙ ap (cell_with (get_or bytes (x - at) 0)) zero ∙ sym cell
              | inr past ↦
                  let nothing : get_or bytes (x - at) 0 ≡ 0 = get_or_past bytes (x - at) 0 past in
                  writes.others_at zeros at bytes x (omega arith) (λ _. omega arith) ∙ zero ∙ ap (λ b. Some (record { byte = b; rights = rights })) (sym nothing) ∙ sym cell
            ]
      ]
    ]

-- ---- the sections of an image
pub only_memory : (e : RegionRefusal) → (e ≢ OutOfMemory → ⊥) → e ≡ OutOfMemory
only_memory OutOfMemory h = refl
only_memory High h = absurd (h (λ e. cc))
only_memory (Overlaps a) h = absurd (h (λ e. cc))

pub either_none : {A : Type 0} (x y : Option A) → option_or x y ≡ None → (x ≡ None) × (y ≡ None)
either_none None y e = (refl, e)
either_none (Some x) y e = absurd (cc)

pub first_free : (cells : Cells) (base : ℕ) (section : Section) (sections : List Section) → sections_refusal cells base (section ∷ sections) ≡ None → region_refusal cells (base + section.rva) section.span ≡ None
first_free cells base section sections e = (either_none _ _ e).0

-- ---- a refusal is no want of memory
test_not_memory : (b : Bool) (first : Option ℕ) → (if b then Some High else overlap_at first) ≡ Some OutOfMemory → ⊥
test_not_memory true first is = cc
test_not_memory false None is = cc
test_not_memory false (Some a) is = cc

region_not_memory : (cells : Cells) (at n : ℕ) → region_refusal cells at n ≡ Some OutOfMemory → ⊥
region_not_memory cells at n is = test_not_memory (nat_lt 0xF0000000 (at + n)) (first_mapped cells at n) is

either_not : (x y : Option RegionRefusal) → (x ≡ Some OutOfMemory → ⊥) → (y ≡ Some OutOfMemory → ⊥) → option_or x y ≡ Some OutOfMemory → ⊥
either_not None y first second is = second is
either_not (Some e) y first second is = first is

sections_not_memory : (cells : Cells) (base : ℕ) (sections : List Section) → sections_refusal cells base sections ≡ Some OutOfMemory → ⊥
sections_not_memory cells base [] is = cc
sections_not_memory cells base (section ∷ sections) is =
    either_not (region_refusal cells (base + section.rva) section.span) (sections_refusal cells base sections) (region_not_memory cells (base + section.rva) section.span) (sections_not_memory cells base sections) is

pub image_not_memory : (cells : Cells) (base : ℕ) (image : ImageParts) → map_refusal cells base image ≡ Some OutOfMemory → ⊥
image_not_memory cells base image is =
    either_not (region_refusal cells base image.header_size) (sections_refusal cells base (sections_of image)) (region_not_memory cells base image.header_size) (sections_not_memory cells base (sections_of image)) is
