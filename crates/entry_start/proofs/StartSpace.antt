-- The memory that DriverEntry begins in is the one that the definitions name.
use Rattle.std.proofs.Common.{◌≡◌, ℕ, ◌+◌, ◌-◌, ◌*◌, ◌<◌, ◌≤◌, ◌^◌, List, [], Option, None, Some, refl, sym, ap, ◌∙◌, arith, true, length, replicate, inl, inr}
use Rattle.std.specs.Option.{option_or}
use Rattle.std.specs.FinMap as finite
use Rattle.std.specs.Ordering.{nat_cmp}
use Rattle.std.proofs.lemmas.Bool.{cases_lt}
use Rattle.std.proofs.lemmas.Bool.Decides.{nat_tests}
use Rattle.std.proofs.Math.Nat.{mod-eq_of_lt}
use Rattle.std.proofs.lemmas.List.{get_or-replicate, length-replicate}
use Rattle.nd_mem.specs.Mapped.{mapped}
use Rattle.nd_mem.specs.Cell.{cell_with}
use Rattle.nd_mem.specs.Laws.{FaultLaws, LookUpLaws, WriteLaws}
use Rattle.nd_mem.specs.declared.RegionRefusal.{RegionRefusal}
use Rattle.nd_mem.specs.Space.{Space, Cells, first_fault, fault_in, address, wrapped, Any, put_from}
use Rattle.guest_map.specs.Blank.{blank, blank_cells}
use Rattle.guest_map.specs.Laws.{PlacesLieInRegions, RegionsAreBlank}
use Rattle.guest_map.specs.Regions.{image_base, stack, lies_in}
use Rattle.pe_image.specs.Image.{ImageParts, IsLaidOut, image_cells, map_refusal}
use Rattle.pe_image.specs.Limits.{LiesInItsSize}
use Rattle.legal_run.specs.Guest.{start_cell, stack_bytes, frame_bytes, stack_pointer}

-- an image that was read fits into empty memory
pub never_refused : LiesInItsSize → (cells : Cells) → ((a : ℕ) → cells a ≡ None) → (image : ImageParts) → IsLaidOut image → (e : RegionRefusal) → map_refusal cells image_base image ≡ Some e → ⊥
never_refused lies cells free image laid e refused = let taken = lies.taken cells image_base image laid (omega (arith, laid.size)) (λ a low high. free a) in cc

pub get_empty : (s : Space) → s ≡ finite.empty → (a : ℕ) → finite.get s a ≡ None
get_empty s is a = ap (λ (x : Space). finite.get x a) is ∙ finite.get-empty nat_cmp a

pub option_or_none : {A : Type 0} (x : Option A) → option_or x None ≡ x
option_or_none None = refl
option_or_none (Some x) = refl

-- memory before the driver runs, where there is no adapter
abbrev pub first_space : ImageParts → List ℕ → Space
first_space image slots = mapped (start_cell image slots)

-- the image ends below the regions beside it
pub image_ends : LiesInItsSize → (image : ImageParts) (slots : List ℕ) → IsLaidOut image → (a : ℕ) → 0x80500000 ≤ a → image_cells image image_base slots a ≡ None
image_ends lies image slots laid a high = lies.inside image image_base slots a laid (λ _. omega (arith, laid.size))

start_high : LiesInItsSize → RegionsAreBlank → (image : ImageParts) (slots : List ℕ) → IsLaidOut image → (a : ℕ) → 2 ^ 32 ≤ a → start_cell image slots a ≡ None
start_high lies blanks image slots laid a high = ap (λ x. option_or x (blank_cells a)) (image_ends lies image slots laid a (omega arith)) ∙ blanks.behind a (omega arith)

pub start_is : LiesInItsSize → LookUpLaws → RegionsAreBlank → (image : ImageParts) (slots : List ℕ) → IsLaidOut image → (s : Space) → ((a : ℕ) → finite.get s a ≡ start_cell image slots a) → s ≡ first_space image slots
start_is lies looks blanks image slots laid s same = looks.same s (first_space image slots) (λ a. same a ∙ sym (looks.mapped (start_cell image slots) (start_high lies blanks image slots laid) a))

get_start : LiesInItsSize → LookUpLaws → RegionsAreBlank → (image : ImageParts) (slots : List ℕ) → IsLaidOut image → (a : ℕ) → finite.get (first_space image slots) a ≡ start_cell image slots a
get_start lies looks blanks image slots laid a = looks.mapped (start_cell image slots) (start_high lies blanks image slots laid) a

lies_in_stack : (a : ℕ) → 0x82000000 ≤ a → a < 0x82004000 → lies_in (stack 0) a ≡ true
lies_in_stack a low high = grind (arith, nat_tests)

-- the stack of context 0 is blank
stack_cell : LiesInItsSize → LookUpLaws → RegionsAreBlank → PlacesLieInRegions → (image : ImageParts) (slots : List ℕ) → IsLaidOut image → (a : ℕ) → 0x82000000 ≤ a → a < 0x82004000 → finite.get (first_space image slots) a ≡ Some blank
stack_cell lies looks blanks places image slots laid a low high =
    get_start lies looks blanks image slots laid a
    ∙ ap (λ x. option_or x (blank_cells a)) (image_ends lies image slots laid a (omega arith))
    ∙ blanks.found (stack 0) a (places.stack 0 (omega arith)) (lies_in_stack a low high)

pub stack_free : LiesInItsSize → LookUpLaws → RegionsAreBlank → PlacesLieInRegions → FaultLaws → (image : ImageParts) (slots : List ℕ) → IsLaidOut image → (at n : ℕ) → 0x82000000 ≤ at → at + n ≤ 0x82004000
    → first_fault Any (finite.get (first_space image slots)) at n ≡ None
stack_free lies looks blanks places faults image slots laid at n low high = faults.none Any (finite.get (first_space image slots)) at n (λ k less.
    let a = at + k in
    let same : wrapped a ≡ a = mod-eq_of_lt (omega arith) in
    let cell : finite.get (first_space image slots) (wrapped a) ≡ Some blank = ap (finite.get (first_space image slots)) same ∙ stack_cell lies looks blanks places image slots laid a (omega arith) (omega arith) in
    ap (fault_in Any (address (wrapped a))) cell)

-- zeros that are written over zeros change nothing
zeros_stay : LookUpLaws → WriteLaws → (s : Space) (a n : ℕ) → a + n ≤ 2 ^ 32 → ((x : ℕ) → a ≤ x → x < a + n → finite.get s x ≡ Some blank) → put_from s a (replicate n 0) ≡ s
zeros_stay looks writes s a n fits blanks = looks.same (put_from s a (replicate n 0)) s (λ x.
    let long : length (replicate {A = ℕ} n 0) ≡ n = length-replicate {A = ℕ} n 0 in
    elim (cases_lt x a) [
      | inl below ↦ writes.others_at s a (replicate n 0) x (omega arith) (λ above. absurd (omega arith))
      | inr above ↦ elim (cases_lt x (a + n)) [
        | inl within ↦
            writes.written_at s a (replicate n 0) x (omega arith) above (omega arith)
            ∙ ap (λ b. cell_with b (finite.get s x)) (get_or-replicate n (x - a) 0 0 (omega arith))
            ∙ ap (cell_with 0) (blanks x above within) ∙ sym (blanks x above within)
        | inr behind ↦ writes.others_at s a (replicate n 0) x (omega arith) (λ _. omega arith)
      ]
    ])

-- the stack of context 0 with a handler's words, over the blank one
pub stack_put : LiesInItsSize → LookUpLaws → WriteLaws → RegionsAreBlank → PlacesLieInRegions → (image : ImageParts) (slots : List ℕ) → IsLaidOut image → (words : List ℕ) → 4 * (1 + length words) ≤ 0x4000
    → put_from (first_space image slots) (stack 0).first.0 (stack_bytes 0 words) ≡ put_from (first_space image slots) (stack_pointer 0 words) (frame_bytes words)
unfolding stack_bytes
stack_put lies looks writes blanks places image slots laid words few =
    let n = 0x4000 - 4 * (1 + length words) in
    let zeros : List ℕ = replicate n 0 in
    let long : length zeros ≡ n = length-replicate {A = ℕ} n 0 in
    let place : 0x82000000 + length zeros ≡ stack_pointer 0 words = omega arith in
    writes.append (first_space image slots) 0x82000000 zeros (frame_bytes words)
    ∙ ap (λ (s : Space). put_from s (0x82000000 + length zeros) (frame_bytes words)) (zeros_stay looks writes (first_space image slots) 0x82000000 n (omega arith) (λ x low high. stack_cell lies looks blanks places image slots laid x low (omega arith)))
    ∙ ap (λ a. put_from (first_space image slots) a (frame_bytes words)) place
