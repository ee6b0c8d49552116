-- The regions beside the image may be read in every state of a run.
use Rattle.std.proofs.Common.{◌≡◌, ◌≤◌, ℕ, ◌+◌, ◌^◌, List, None, refl, sym, ap, ◌∙◌, subst, arith}
use Rattle.std.specs.Prelude.{Contains}
use Rattle.std.specs.List.{flat_map}
use Rattle.std.specs.Option.{option_or}
use Rattle.std.proofs.Math.Nat.{mod-eq_of_lt}
use Rattle.nd_mem.specs.Laws.{FaultLaws, LookUpLaws, WriteLaws}
use Rattle.nd_mem.specs.Mapped.{mapped}
use Rattle.nd_mem.specs.Cell.{rights_in}
use Rattle.nd_mem.specs.Space.{Reading, address, first_fault, wrapped}
use Rattle.guest_map.specs.declared.regions.Region.{Region}
use Rattle.guest_map.specs.Blank.{blank_cells}
use Rattle.guest_map.specs.Laws.{RegionsAreBlank}
use Rattle.guest_map.specs.Regions.{end_of, image_base, regions, request_buffers, send_slots}
use Rattle.pe_image.specs.Image.{ImageParts, IsLaidOut, image_cells}
use Rattle.pe_image.specs.Limits.{LiesInItsSize}
use Rattle.legal_run.specs.Guest.{block_writes, start_cell}
use Rattle.legal_run.specs.Laws.{CallsKeep}
use Rattle.legal_run.specs.State.{Inputs, State, cells, numbers}
use Rattle.run_facts.specs.Facts.{IsOfRun, GoesOn}
use Rattle.call_facts.proofs.Rights.{fault_in_same, writes_keep}
use Rattle.call_facts.proofs.Kept.{rights_stay}

-- what the proofs take of other crates
pub record Ground : Type 0 where
  pub lies : LiesInItsSize
  pub looks : LookUpLaws
  pub writes : WriteLaws
  pub faults : FaultLaws
  pub blanks : RegionsAreBlank
  pub keep : CallsKeep
  pub on : GoesOn

image_ends : LiesInItsSize → (image : ImageParts) (slots : List ℕ) → IsLaidOut image → (a : ℕ) → 0x80500000 ≤ a → image_cells image image_base slots a ≡ None
image_ends lies image slots laid a high = lies.inside image image_base slots a laid (λ _. let size = laid.size in omega (arith, size, high))

-- behind the image only the regions are
behind_image : LiesInItsSize → (image : ImageParts) (slots : List ℕ) → IsLaidOut image → (a : ℕ) → 0x80500000 ≤ a → start_cell image slots a ≡ blank_cells a
behind_image lies image slots laid a high = ap (λ x. option_or x (blank_cells a)) (image_ends lies image slots laid a high)

start_high : Ground → (image : ImageParts) (slots : List ℕ) → IsLaidOut image → (a : ℕ) → 2 ^ 32 ≤ a → start_cell image slots a ≡ None
start_high g image slots laid a high = behind_image g.lies image slots laid a (omega (arith, high)) ∙ g.blanks.behind a (omega (arith, high))

-- the rights there are those of the regions
rights_there : Ground → (c : Inputs) (s : State) (a : ℕ) → IsLaidOut c.image → IsOfRun c s → 0x80500000 ≤ a → rights_in (cells s a) ≡ rights_in (blank_cells a)
rights_there g c s a laid is high =
    rights_stay g.writes g.keep g.on c s is a
    ∙ writes_keep g.writes (mapped (start_cell c.image c.slots)) (flat_map (block_writes c.layout) (numbers 0 c.adapters)) a
    ∙ ap rights_in (g.looks.mapped (start_cell c.image c.slots) (start_high g c.image c.slots laid) a ∙ behind_image g.lies c.image c.slots laid a high)

pub readable : Ground → (c : Inputs) (s : State) (r : Region) (a n : ℕ) → IsLaidOut c.image → IsOfRun c s → Contains regions r → 0x80500000 ≤ r.first.0 → end_of r ≤ 2 ^ 32 → r.first.0 ≤ a → a + n ≤ end_of r
    → first_fault Reading (cells s) a n ≡ None
readable g c s r a n laid is held low high from to =
    g.faults.none Reading (cells s) a n (λ k less.
    let same : wrapped (a + k) ≡ a + k = mod-eq_of_lt (omega (arith, less, to, high)) in
    let far : 0x80500000 ≤ wrapped (a + k) = subst (λ (m : ℕ). 0x80500000 ≤ m) (sym same) (omega (arith, low, from)) in
    fault_in_same Reading (address (wrapped (a + k))) (cells s (wrapped (a + k))) (blank_cells (wrapped (a + k))) (rights_there g c s (wrapped (a + k)) laid is far)
    ∙ g.faults.none_at Reading blank_cells a n k (g.blanks.allowed Reading r a n refl held from to) less)

pub slots_held : Contains regions send_slots
slots_held = (33, omega arith, refl)

pub buffers_held : Contains regions request_buffers
buffers_held = (34, omega arith, refl)
