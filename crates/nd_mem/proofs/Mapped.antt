-- The map of a list of regions: its look-up, and what a write and a new region make of it.
use Rattle.std.proofs.Common.{◌≡◌, ℕ, zero, suc, ◌+◌, ◌-◌, ◌^◌, ◌<◌, ◌≤◌, List, [], length, get_or, insert, replicate, Option, None, Some, Result, Ok, Err, OnOk, refl, sym, ap, ◌∙◌, subst, inl, inr, arith}
use Rattle.std.specs.FinMap as map
use Rattle.std.specs.Ordering.{nat_cmp}
use Rattle.std.specs.List.Sorted.{IsPartitionPoint}
use Rattle.std.proofs.lemmas.Bool.{cases_eq, cases_lt}
use Rattle.std.proofs.lemmas.List.{length-replicate, length-map}
use Rattle.nd_mem.specs.declared.Rights.{Rights}
use Rattle.nd_mem.specs.declared.MemFault.{MemFault}
use Rattle.nd_mem.specs.declared.regions.Region.{Region}
use Rattle.nd_mem.specs.Cell.{Cell, cell_with}
use Rattle.nd_mem.specs.Space.{Space, Cells, IsLow, Access, Executing, fault_at, first_fault, answer_of, put_from, zeros_from}
use Rattle.nd_mem.specs.Mapped.{insert_found, tabulated, mapped}
use Rattle.nd_mem.specs.Regions.{cells_of, AreLaidOut, shape, shapes, IsRun, PutsBytes}
use Rattle.nd_mem.proofs.Laws.{same_space, get_insert_same, get_insert_other, get_zeros_in, get_zeros_out, get_put_at, get_put_apart, fault_low, none_of_ok}
use Rattle.nd_mem.proofs.RegionList.{cells_of-low, holds-outside}
use Rattle.nd_mem.proofs.Order.{AreLaidOut-insert, zeros_insert, others_insert}

get_found_other : (space : Space) (n x : ℕ) (found : Option Cell) → (x ≡ n → ⊥) → map.get (insert_found space n found) x ≡ map.get space x
get_found_other space n x None apart = refl
get_found_other space n x (Some cell) apart = get_insert_other space n cell x apart

get_found_same : (space : Space) (n : ℕ) (found : Option Cell) → map.get space n ≡ None → map.get (insert_found space n found) n ≡ found
get_found_same space n None none = none
get_found_same space n (Some cell) none = get_insert_same space n cell n refl

get_tabulated_above : (cells : Cells) (n x : ℕ) → n ≤ x → map.get (tabulated cells n) x ≡ None
unfolding tabulated
get_tabulated_above cells zero x above = map.get-empty nat_cmp x
get_tabulated_above cells (suc n) x above =
    get_found_other (tabulated cells n) n x (cells n) (λ same. omega arith) ∙ get_tabulated_above cells n x (omega arith)

get_tabulated : (cells : Cells) (n x : ℕ) → x < n → map.get (tabulated cells n) x ≡ cells x
unfolding tabulated
get_tabulated cells zero x below = absurd (omega arith)
get_tabulated cells (suc n) x below =
    elim (cases_eq x n) [
      | inl last ↦
          ap (map.get (insert_found (tabulated cells n) n (cells n))) last
          ∙ get_found_same (tabulated cells n) n (cells n) (get_tabulated_above cells n n (omega arith)) ∙ ap cells (sym last)
      | inr earlier ↦ get_found_other (tabulated cells n) n x (cells n) earlier ∙ get_tabulated cells n x (omega arith)
    ]

-- the map of a look-up that finds nothing from 2 ^ 32 on has that look-up
pub get_mapped_cells : (cells : Cells) → ((a : ℕ) → 2 ^ 32 ≤ a → cells a ≡ None) → (x : ℕ) → map.get (mapped cells) x ≡ cells x
unfolding mapped
get_mapped_cells cells none x =
    elim (cases_lt x (2 ^ 32)) [
      | inl below ↦ get_tabulated cells (2 ^ 32) x below
      | inr above ↦ get_tabulated_above cells (2 ^ 32) x above ∙ sym (none x above)
    ]

pub get_mapped_at : (regions : List Region) → AreLaidOut regions → (x : ℕ) → map.get (mapped (cells_of regions)) x ≡ cells_of regions x
get_mapped_at regions laid_out x = get_mapped_cells (cells_of regions) (λ a above. cells_of-low regions laid_out a (omega arith)) x

-- the look-up of the map is that of the regions
pub get_mapped : (regions : List Region) → AreLaidOut regions → map.get (mapped (cells_of regions)) ≡ cells_of regions
get_mapped regions laid_out = λ i x. get_mapped_at regions laid_out x i

pub mapped_new : mapped (cells_of []) ≡ map.empty
mapped_new = same_space _ _ (λ x. get_mapped_at [] tt x ∙ sym (map.get-empty nat_cmp x))

-- what holds inside a run and outside it holds at each address
at_run : (a n : ℕ) (P : ℕ → Type 0) (x : ℕ) → ((y : ℕ) → a ≤ y → y < a + n → P y) → ((y : ℕ) → (a ≤ y → a + n ≤ y) → P y) → P x
at_run a n P x inside outside =
    elim (cases_lt x a) [
      | inl before ↦ outside x (λ low. absurd (omega arith))
      | inr low ↦ elim (cases_lt x (a + n)) [ inl below ↦ inside x low below | inr behind ↦ outside x (λ _. behind) ]
    ]

pub mapped_put : (access : Access) (before after : List Region) (a : ℕ) (bytes : List ℕ) → AreLaidOut before → AreLaidOut after → a < 2 ^ 32 → first_fault access (cells_of before) a (length bytes) ≡ None → PutsBytes (cells_of before) (cells_of after) a bytes → mapped (cells_of after) ≡ put_from (mapped (cells_of before)) a bytes
mapped_put access before after a bytes was now low none puts =
    let fits : a + length bytes ≤ 2 ^ 32 =
    elim (cases_lt 0 (length bytes)) [
      | inl some ↦ omega (arith, fault_low access (cells_of before) a (length bytes) (cells_of-low before was) low none some)
      | inr empty ↦ omega arith
    ] in
    let outside = λ (x : ℕ) (out : a ≤ x → a + length bytes ≤ x).
    puts.outside x out ∙ sym (get_put_apart (mapped (cells_of before)) a bytes x fits out ∙ get_mapped_at before was x) in
    let inside = λ (x : ℕ) (above : a ≤ x) (below : x < a + length bytes).
    puts.inside x above below
    ∙ sym (get_put_at (mapped (cells_of before)) a bytes x fits above below ∙ ap (cell_with (get_or bytes (x - a) 0)) (get_mapped_at before was x)) in
    same_space _ _ (λ x. get_mapped_at after now x ∙ at_run a (length bytes) (λ y. cells_of after y ≡ map.get (put_from (mapped (cells_of before)) a bytes) y) x inside outside)

-- a new region of zero bytes where nothing is mapped
module _ (regions : List Region) (region : Region) (at len : ℕ) (rights : Rights) (laid_out : AreLaidOut regions) (first : region.first.0 ≡ at) (zeros : region.bytes.items ≡ replicate len 0) (same : region.rights ≡ rights) (some : 0 < len) (index : ℕ) (most : index ≤ length regions) (begun : IsPartitionPoint (λ (region : Region). region.first.0 ≤ at) (λ (region : Region). at < region.first.0) regions index) (low : at + len ≤ 0xF0000000) (free : (x : ℕ) → at ≤ x → x < at + len → cells_of regions x ≡ None) where
  pub added_laid_out : AreLaidOut (insert regions index region)
  added_laid_out =
      let count : length region.bytes.items ≡ len = ap length zeros ∙ length-replicate len 0 in
      let begun_there = subst (λ (a : ℕ). IsPartitionPoint (λ (r : Region). r.first.0 ≤ a) (λ (r : Region). a < r.first.0) regions index) (sym first) begun in
      AreLaidOut-insert regions index region laid_out most begun_there (omega arith) (omega arith) (λ x above below. free x (omega arith) (omega arith))

  pub mapped_added : mapped (cells_of (insert regions index region)) ≡ zeros_from (mapped (cells_of regions)) at len rights
  mapped_added =
      let count : length region.bytes.items ≡ len = ap length zeros ∙ length-replicate len 0 in
      let outside = λ (x : ℕ) (out : at ≤ x → at + len ≤ x).
      others_insert regions index region x (holds-outside region x (λ above. omega (arith, out (omega arith))))
      ∙ sym (get_zeros_out (mapped (cells_of regions)) at len rights x out ∙ get_mapped_at regions laid_out x) in
      let inside = λ (x : ℕ) (above : at ≤ x) (below : x < at + len).
      zeros_insert regions index region at len x rights first zeros same (free x above below) above below
      ∙ sym (get_zeros_in (mapped (cells_of regions)) at len rights x above below) in
      same_space _ _ (λ x. get_mapped_at (insert regions index region) added_laid_out x
      ∙ at_run at len (λ y. cells_of (insert regions index region) y ≡ map.get (zeros_from (mapped (cells_of regions)) at len rights) y) x inside outside)

-- what the view of a memory has, where its regions are known
pub cells_seen : (regions items : List Region) (value : Space) → mapped (cells_of items) ≡ value → regions ≡ items → AreLaidOut items → map.get value ≡ cells_of regions
cells_seen regions items value view is laid_out = ap map.get (sym view) ∙ get_mapped items laid_out ∙ ap cells_of (sym is)

pub low_seen : (items : List Region) (value : Space) → mapped (cells_of items) ≡ value → AreLaidOut items → IsLow (map.get value)
low_seen items value view laid_out = subst IsLow (sym (cells_seen items items value view refl laid_out)) (cells_of-low items laid_out)

-- what a write answers and leaves, where the regions before and after it are known
pub put_seen : (access : Access) (items before after now : List Region) (value : Space) (a : ℕ) (bytes : List ℕ) (result : Result (Unit {0}) MemFault) → mapped (cells_of items) ≡ value → before ≡ items → now ≡ after → AreLaidOut items → AreLaidOut after → a < 2 ^ 32 → result ≡ answer_of (tt {0}) (first_fault access (cells_of before) a (length bytes)) → OnOk result (PutsBytes (cells_of before) (cells_of after) a bytes) → OnOk result (mapped (cells_of now) ≡ put_from value a bytes)
put_seen access items before after now value a bytes (Err fault) view is at was new low said puts = tt
put_seen access items before after now value a bytes (Ok done) view is at was new low said puts =
    let before_was : AreLaidOut before = subst AreLaidOut (sym is) was in
    ap (λ rs. mapped (cells_of rs)) at
    ∙ mapped_put access before after a bytes before_was new low (none_of_ok (tt {0}) done _ said) puts
    ∙ ap (λ space. put_from space a bytes) (ap (λ rs. mapped (cells_of rs)) is ∙ view)

pub length-shapes : (new old : List Region) → shapes new ≡ shapes old → length new ≡ length old
length-shapes new old same = sym (length-map new shape) ∙ ap length same ∙ length-map old shape

pub low_after : (now after : List Region) → now ≡ after → AreLaidOut after → IsLow (map.get (mapped (cells_of now)))
low_after now after is laid_out = low_seen now (mapped (cells_of now)) refl (subst AreLaidOut (sym is) laid_out)

-- a fetch that finds a run answers how many bytes can be executed
pub fetch_answer : (cells : Cells) (a n : ℕ) (run : List ℕ) → IsRun Executing cells a run → Ok n ≡ answer_of n (fault_at Executing cells a)
fetch_answer cells a n run is =
    sym (ap (answer_of n) (ap (fault_at Executing cells) (let e : a ≡ a + 0 = omega arith in e) ∙ is.allowed 0 is.some))
