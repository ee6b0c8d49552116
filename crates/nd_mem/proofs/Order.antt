-- Regions by rising addresses: the one that holds an address is the last that begins there or below, and a new one goes between its neighbours.
use Rattle.std.proofs.Common.{◌≡◌, ℕ, zero, suc, ◌+◌, ◌-◌, ◌<◌, ◌≤◌, Bool, true, false, List, [], ◌∷◌, length, get_or, take, drop, insert, replicate, Option, None, Some, is_some, refl, sym, ap, ◌∙◌, subst, inl, inr, if◌then◌else◌, arith}
use Rattle.std.specs.List.{All, position, position_from}
use Rattle.std.specs.List.Sorted.{IsNonDecreasingBy, IsPartitionPoint}
use Rattle.std.proofs.lemmas.Bool.{cases_eq, cases_lt, false≢true}
use Rattle.std.proofs.lemmas.Iterator.Adapters.{position_from-zero}
use Rattle.std.proofs.lemmas.List.{get_or_read, length-take, get_or-take, length-drop, get_or-drop, length-replicate, get_or-replicate}
use Rattle.std.proofs.lemmas.List.Elements.{All-append, All-cons, All-take, All-drop}
use Rattle.nd_mem.specs.declared.Rights.{Rights}
use Rattle.nd_mem.specs.declared.regions.Region.{Region}
use Rattle.nd_mem.specs.Cell.{Cell, zero_cell}
use Rattle.nd_mem.specs.Regions.{holds, cell_in, cells_of, end_of, AreLaidOut}
use Rattle.nd_mem.proofs.RegionList.{end_before, has_byte, cells_of-own, holds-true, holds-within, holds-outside}

-- ---- the search
pub firsts_rise : (regions : List Region) → AreLaidOut regions → IsNonDecreasingBy (λ (region : Region). region.first.0) regions
firsts_rise regions laid_out i j d le inside =
    elim (cases_eq i j) [
      | inl same ↦ omega (arith, ap (λ (k : ℕ). (get_or regions k d).first.0) same)
      | inr other ↦ omega (arith, end_before regions i j d laid_out (omega arith) inside)
    ]

-- how many regions begin at an address or below it
abbrev Begun : List Region → ℕ → ℕ → Type 0
Begun regions a n = IsPartitionPoint (λ (region : Region). region.first.0 ≤ a) (λ (region : Region). a < region.first.0) regions n

-- as many begin at an address or below it as the last that does so and the next one, which begins behind it, say
pub begun_between : (regions : List Region) (a n : ℕ) (region : Region) → AreLaidOut regions → 0 < n → n ≤ length regions → region ≡ get_or regions (n - 1) region → region.first.0 ≤ a → ((d : Region) → n < length regions → a < (get_or regions n d).first.0) → Begun regions a n
begun_between regions a n region laid_out some most is before behind = (
  λ k d low less. omega (arith, firsts_rise regions laid_out k (n - 1) d (omega arith) (omega arith), ap (λ (r : Region). r.first.0) (get_or_read regions (n - 1) region (omega arith) is d)),
  λ k d late inside. omega (arith, firsts_rise regions laid_out n k d late inside, behind d (omega arith)),
)

position_at : (regions : List Region) (a i base : ℕ) (d : Region) → i < length regions → holds (get_or regions i d) a ≡ true → ((k : ℕ) → k < i → holds (get_or regions k d) a ≡ false) → position_from (λ (region : Region). holds region a) base regions ≡ Some (i + base)
position_at [] a i base d inside here before = absurd (omega arith)
position_at (region ∷ regions) a zero base d inside here before = rw here (ap Some (omega arith))
position_at (region ∷ regions) a (suc i) base d inside here before =
    rw (before 0 (omega arith))
    (position_at regions a i (base + 1) d (omega arith) here (λ k less. before (suc k) (omega arith)) ∙ ap Some (let e : i + (base + 1) ≡ suc i + base = omega arith in e))

position_none : (regions : List Region) (a base : ℕ) → ((k : ℕ) (d : Region) → k < length regions → holds (get_or regions k d) a ≡ false) → position_from (λ (region : Region). holds region a) base regions ≡ None
position_none [] a base none = refl
position_none (region ∷ regions) a base none =
    rw (none 0 region (omega arith)) (position_none regions a (base + 1) (λ k d less. none (suc k) d (omega arith)))

-- none before the last that begins at an address or below it holds it
unheld_before : (regions : List Region) (a n k : ℕ) (d : Region) → AreLaidOut regions → n ≤ length regions → Begun regions a n → k + 1 < n → holds (get_or regions k d) a ≡ false
unheld_before regions a n k d laid_out most begun less =
    holds-outside (get_or regions k d) a (λ _. omega (arith, end_before regions k (n - 1) d laid_out (omega arith) (omega arith), begun.0 (n - 1) d (omega arith) (omega arith)))

unheld_behind : (regions : List Region) (a n k : ℕ) (d : Region) → Begun regions a n → n ≤ k → k < length regions → holds (get_or regions k d) a ≡ false
unheld_behind regions a n k d begun late inside =
    holds-outside (get_or regions k d) a (λ low. absurd (omega (arith, low, begun.1 k d late inside)))

-- whichever region holds an address is the first that does
pub held_by : (regions : List Region) (a i : ℕ) (d : Region) → AreLaidOut regions → i < length regions → holds (get_or regions i d) a ≡ true → Some i ≡ position (λ (region : Region). holds region a) regions
held_by regions a i d laid_out inside here =
    let low = (holds-true (get_or regions i d) a here).0 in
    sym (position_from-zero (λ (region : Region). holds region a) regions
    ∙ position_at regions a i 0 d inside here (λ k less. holds-outside (get_or regions k d) a (λ _. omega (arith, end_before regions k i d laid_out less inside, low)))
    ∙ ap Some (let e : i + 0 ≡ i = omega arith in e))

pub held_by_none : (regions : List Region) (a n : ℕ) → AreLaidOut regions → n ≤ length regions → Begun regions a n → ((d : Region) → 0 < n → holds (get_or regions (n - 1) d) a ≡ false) → None ≡ position (λ (region : Region). holds region a) regions
held_by_none regions a n laid_out most begun last =
    sym (position_from-zero (λ (region : Region). holds region a) regions
    ∙ position_none regions a 0 (λ k d inside.
    elim (cases_lt k n) [
      | inr late ↦ unheld_behind regions a n k d begun late inside
      | inl early ↦ elim (cases_eq (k + 1) n) [
        | inl same ↦ ap (λ (i : ℕ). holds (get_or regions i d) a) (let e : k ≡ n - 1 = omega arith in e) ∙ last d (omega arith)
        | inr other ↦ unheld_before regions a n k d laid_out most begun (omega arith)
      ]
    ]))

-- ---- a new region between its neighbours
one_of_two : (here there : Bool) (cell other : Cell) (rest : Option Cell) → (there ≡ true → (if here then Some cell else rest) ≡ None) → (if here then Some cell else (if there then Some other else rest)) ≡ (if there then Some other else (if here then Some cell else rest))
one_of_two true true cell other rest apart = absurd (false≢true (sym (ap is_some (apart refl))))
one_of_two true false cell other rest apart = refl
one_of_two false there cell other rest apart = refl

free_behind : (here : Bool) (cell : Cell) (rest : Option Cell) → (if here then Some cell else rest) ≡ None → rest ≡ None
free_behind true cell rest none = absurd (cc)
free_behind false cell rest none = none

pub cells_of-insert : (regions : List Region) (i : ℕ) (region : Region) (x : ℕ) → (holds region x ≡ true → cells_of regions x ≡ None) → cells_of (insert regions i region) x ≡ (if holds region x then Some (cell_in region x) else cells_of regions x)
cells_of-insert [] zero region x free = refl
cells_of-insert [] (suc i) region x free = refl
cells_of-insert (r ∷ regions) zero region x free = refl
cells_of-insert (r ∷ regions) (suc i) region x free =
    ap (λ (rest : Option Cell). if holds r x then Some (cell_in r x) else rest) (cells_of-insert regions i region x (λ here. free_behind (holds r x) (cell_in r x) (cells_of regions x) (free here)))
    ∙ one_of_two (holds r x) (holds region x) (cell_in r x) (cell_in region x) (cells_of regions x) free

laid_out_between : (regions : List Region) (i : ℕ) (region : Region) → AreLaidOut regions → 0 < length region.bytes.items → end_of region ≤ 0xF0000000 → All (λ (r : Region). end_of r ≤ region.first.0) (take i regions) → All (λ (r : Region). end_of region ≤ r.first.0) (drop i regions) → AreLaidOut (insert regions i region)
laid_out_between [] zero region laid_out some low before behind = (record { some = some; ends = behind; low = low }, tt)
laid_out_between [] (suc i) region laid_out some low before behind = (record { some = some; ends = behind; low = low }, tt)
laid_out_between (r ∷ regions) zero region laid_out some low before behind = (record { some = some; ends = behind; low = low }, laid_out)
laid_out_between (r ∷ regions) (suc i) region laid_out some low before behind =
    let later = λ (q : Region). end_of r ≤ q.first.0 in (
      record {
        some = laid_out.0.some;
        ends = All-append later (take i regions) (region ∷ drop i regions) (All-take later i regions laid_out.0.ends)
            (All-cons later region (drop i regions) (before 0 r (omega arith)) (All-drop later i regions laid_out.0.ends));
        low = laid_out.0.low;
      },
      laid_out_between regions i region laid_out.1 some low (λ k d less. before (suc k) d (omega arith)) behind,
    )

unmapped : (cell : Cell) (found : Option Cell) → found ≡ Some cell → found ≡ None → ⊥
unmapped cell found is none = false≢true (sym (ap is_some none) ∙ ap is_some is)

pub AreLaidOut-insert : (regions : List Region) (n : ℕ) (region : Region) → AreLaidOut regions → n ≤ length regions → Begun regions region.first.0 n → 0 < length region.bytes.items → end_of region ≤ 0xF0000000 → ((x : ℕ) → region.first.0 ≤ x → x < end_of region → cells_of regions x ≡ None) → AreLaidOut (insert regions n region)
AreLaidOut-insert regions n region laid_out most begun some low free =
    let before : All (λ (r : Region). end_of r ≤ region.first.0) (take n regions) =
    λ k d less.
    let early : k < n = omega (arith, length-take n regions) in
    let inside : k < length regions = omega arith in
    subst (λ (r : Region). end_of r ≤ region.first.0) (sym (get_or-take n regions k d early))
    (elim (cases_lt region.first.0 (end_of (get_or regions k d))) [
      | inl over ↦
          let first = begun.0 k d (omega arith) early in
          absurd (unmapped _ _ (cells_of-own regions k region.first.0 d laid_out inside (holds-within (get_or regions k d) region.first.0 first over)) (free region.first.0 (omega arith) (omega arith)))
      | inr ends ↦ ends
    ]) in
    let behind : All (λ (r : Region). end_of region ≤ r.first.0) (drop n regions) =
    λ k d less.
    let inside : n + k < length regions = omega (arith, length-drop n regions) in
    subst (λ (r : Region). end_of region ≤ r.first.0) (sym (get_or-drop n regions k d))
    (elim (cases_lt (get_or regions (n + k) d).first.0 (end_of region)) [
      | inl over ↦
          let first = begun.1 (n + k) d (omega arith) inside in
          let x = (get_or regions (n + k) d).first.0 in
          absurd (unmapped _ _ (cells_of-own regions (n + k) x d laid_out inside (holds-within (get_or regions (n + k) d) x (omega arith) (omega (arith, has_byte regions (n + k) d laid_out inside)))) (free x (omega arith) over))
      | inr after ↦ after
    ]) in
    laid_out_between regions n region laid_out some low before behind

-- new zero bytes
pub zeros_insert : (regions : List Region) (i : ℕ) (region : Region) (at len x : ℕ) (rights : Rights) → region.first.0 ≡ at → region.bytes.items ≡ replicate len 0 → region.rights ≡ rights → cells_of regions x ≡ None → at ≤ x → x < at + len → cells_of (insert regions i region) x ≡ Some (zero_cell rights)
zeros_insert regions i region at len x rights first zeros same none low high =
    let count : length region.bytes.items ≡ len = ap length zeros ∙ length-replicate len 0 in
    cells_of-insert regions i region x (λ _. none)
    ∙ rw (holds-within region x (omega arith) (omega arith))
    (ap (λ (b : ℕ). Some (record { byte = b; rights = region.rights })) (ap (λ (bs : List ℕ). get_or bs (x - region.first.0) 0) zeros ∙ get_or-replicate len (x - region.first.0) 0 0 (omega arith))
    ∙ ap (λ (r : Rights). Some (zero_cell r)) same)

pub others_insert : (regions : List Region) (i : ℕ) (region : Region) (x : ℕ) → holds region x ≡ false → cells_of (insert regions i region) x ≡ cells_of regions x
others_insert regions i region x unheld = cells_of-insert regions i region x (λ here. absurd (false≢true (sym unheld ∙ here))) ∙ rw unheld refl
