-- What a list of regions has at an address, after a search, a write and a new region.
use Rattle.std.proofs.Common.{◌≡◌, ℕ, zero, suc, ◌+◌, ◌-◌, ◌^◌, ◌<◌, ◌≤◌, Bool, true, false, cond, ◌&&◌, List, [], ◌∷◌, ◌++◌, length, get_or, set, take, drop, Option, None, Some, Ok, Err, is_some, refl, sym, ap, ◌∙◌, subst, arith, nat_le, nat_lt, inl, inr, if◌then◌else◌}
use Rattle.std.specs.List.{All, position, position_from}
use Rattle.std.proofs.lemmas.Bool.{cases_lt, cases_Bool, false≢true}
use Rattle.std.proofs.lemmas.Bool.Decides.{nat_tests}
use Rattle.std.proofs.lemmas.Iterator.Adapters.{position_from-zero}
use Rattle.std.proofs.lemmas.List.Elements.{All-head, All-tail, All-get_or}
use Rattle.std.proofs.lemmas.List.Quantifiers.{position-Some}
use Rattle.std.proofs.lemmas.List.{map-set, set-get_or, get_or-map, get_or-drop, length-drop, length-take, get_or-take, get_or_read, length-map, get_or_append_left, get_or-append_right, length-take-le, length-append, get_or-set_same}
use Rattle.std.specs.Option.{option_or}
use Rattle.nd_base.specs.declared.numbers.Addr.{Addr}
use Rattle.nd_mem.specs.declared.Rights.{Rights}
use Rattle.nd_mem.specs.declared.MemFault.{MemFault}
use Rattle.nd_mem.specs.declared.regions.Region.{Region}
use Rattle.nd_mem.specs.declared.regions.Spot.{Spot}
use Rattle.nd_mem.specs.Cell.{Cell, cell_with}
use Rattle.nd_mem.specs.Space.{Cells, Access, allows, denied, fault_in, fault_at, byte_in}
use Rattle.nd_mem.specs.Regions.{holds, cell_in, cells_of, end_of, Joins, AreLaidOut, shape, shapes, allowed_or, IsSpot, IsRun, PutsBytes}
use Rattle.nd_mem.proofs.Laws.{wrapped_below}

-- ---- the search
unheld : (here : Bool) (i a : ℕ) (region : Region) (later : Option ℕ) (cells : Option Cell) → (later ≡ None → cells ≡ None) → cond here (Some i) later ≡ None → (if here then Some (cell_in region a) else cells) ≡ None
unheld true i a region later cells rest none = absurd (cc)
unheld false i a region later cells rest none = rest none

none_from_position : (regions : List Region) (a i : ℕ) → position_from (λ region. holds region a) i regions ≡ None → cells_of regions a ≡ None
none_from_position [] a i none = refl
none_from_position (region ∷ regions) a i none =
    unheld (holds region a) i a region _ _ (none_from_position regions a (i + 1)) none

pub cells_of-unheld : (regions : List Region) (a : ℕ) → position (λ region. holds region a) regions ≡ None → cells_of regions a ≡ None
cells_of-unheld regions a none = none_from_position regions a 0 (sym (position_from-zero (λ region. holds region a) regions) ∙ none)

-- the first region with an address says what is there
pub cells_of-first : (regions : List Region) (i a : ℕ) (d : Region) → i < length regions → holds (get_or regions i d) a ≡ true → ((k : ℕ) → k < i → holds (get_or regions k d) a ≡ false) → cells_of regions a ≡ Some (cell_in (get_or regions i d) a)
cells_of-first [] i a d inside here before = absurd (omega arith)
cells_of-first (region ∷ regions) zero a d inside here before = rw here
cells_of-first (region ∷ regions) (suc i) a d inside here before =
    rw (before 0 (omega arith)) (cells_of-first regions i a d (omega arith) here (λ k less. before (suc k) (omega arith)))

pub holds-true : (region : Region) (a : ℕ) → holds region a ≡ true → (region.first.0 ≤ a) × (a - region.first.0 < length region.bytes.items)
holds-true region a here = (grind (arith, nat_tests), grind (arith, nat_tests))

pub holds-within : (region : Region) (a : ℕ) → region.first.0 ≤ a → a < region.first.0 + length region.bytes.items → holds region a ≡ true
holds-within region a low high = grind (arith, nat_tests)

-- what a search found
pub found_at : (regions : List Region) (a i : ℕ) (region : Region) → region ≡ get_or regions i region → Some i ≡ position (λ r. holds r a) regions → (i < length regions) × (holds region a ≡ true) × (cells_of regions a ≡ Some (cell_in region a))
found_at regions a i region is found =
    let h = position-Some (λ r. holds r a) regions i region (sym found) in
    (h.0, ap (λ r. holds r a) is ∙ h.1, cells_of-first regions i a region h.0 h.1 h.2 ∙ ap (λ r. Some (cell_in r a)) (sym is))

pub fault_below : (access : Access) (cells : Cells) (a : ℕ) → a < 2 ^ 32 → fault_at access cells a ≡ fault_in access (record { 0 = a }) (cells a)
fault_below access cells a low = ap (λ b. fault_in access (record { 0 = b }) (cells b)) (wrapped_below a low)

refused_in : (access : Access) (at : Addr) (byte : ℕ) (rights : Rights) (fault : MemFault) (may : Bool) → allows access rights ≡ may → Err fault ≡ allowed_or access at may → fault_in access at (Some (record { byte = byte; rights = rights })) ≡ Some fault
refused_in access at byte rights fault true is said = absurd (cc)
refused_in access at byte rights fault false is said = let same : fault ≡ denied access at = cc in rw is (ap Some (sym same))

-- the fault of an address whose region lacks the right
pub fault_refused : (access : Access) (cells : Cells) (a : ℕ) (region : Region) (fault : MemFault) → a < 2 ^ 32 → cells a ≡ Some (cell_in region a) → Err fault ≡ allowed_or access (record { 0 = a }) (allows access region.rights) → fault_at access cells a ≡ Some fault
fault_refused access cells a region fault low is said =
    fault_below access cells a low ∙ ap (fault_in access (record { 0 = a })) is
    ∙ refused_in access (record { 0 = a }) (get_or region.bytes.items (a - region.first.0) 0) region.rights fault (allows access region.rights) refl said

allowed_in : (access : Access) (at : Addr) (may : Bool) → Ok (tt {0}) ≡ allowed_or access at may → may ≡ true
allowed_in access at true said = refl
allowed_in access at false said = absurd (cc)

pub spot_found : (access : Access) (regions : List Region) (a i : ℕ) (region : Region) (at : Addr) → region ≡ get_or regions i region → i < length regions → holds region a ≡ true → Ok (tt {0}) ≡ allowed_or access at (allows access region.rights) → IsSpot access regions a (record { region = i; offset = a - region.first.0 })
spot_found access regions a i region at is inside here said =
    let there = λ (d : Region). get_or_read regions i region inside is d in
    let within = holds-true region a here in
    record {
      inside = inside;
      first = λ d. ap (λ r. r.first.0 + (a - region.first.0)) (sym (there d)) ∙ (let e : region.first.0 + (a - region.first.0) ≡ a = omega (arith, within.0) in e);
      within = λ d. subst (λ r. a - region.first.0 < length r.bytes.items) (there d) within.1;
      allowed = λ d. ap (λ r. allows access r.rights) (sym (there d)) ∙ allowed_in access at _ said;
    }

-- ---- one region of a list that is laid out
unheld_above : (region : Region) (a : ℕ) → end_of region ≤ a → holds region a ≡ false
unheld_above region a above = grind (arith, nat_tests)

unheld_below : (region : Region) (a : ℕ) → a < region.first.0 → holds region a ≡ false
unheld_below region a below = grind (arith, nat_tests)

-- an address of a region is in none that begins behind it
none_behind : (regions : List Region) (end a : ℕ) → a < end → All (λ (region : Region). end ≤ region.first.0) regions → cells_of regions a ≡ None
none_behind [] end a below ends = refl
none_behind (region ∷ regions) end a below ends =
    rw (unheld_below region a (omega (arith, All-head (λ (r : Region). end ≤ r.first.0) region regions ends)))
    (none_behind regions end a below (All-tail (λ (r : Region). end ≤ r.first.0) region regions ends))

apart : (region : Region) (regions : List Region) → Joins region regions → (a : ℕ) → holds region a ≡ true → cells_of regions a ≡ None
apart region regions joins a here =
    let within = holds-true region a here in
    none_behind regions (end_of region) a (omega (arith, within.0, within.1)) joins.ends

-- each region has a byte and ends before the later ones begin
pub end_before : (regions : List Region) (i j : ℕ) (d : Region) → AreLaidOut regions → i < j → j < length regions → end_of (get_or regions i d) ≤ (get_or regions j d).first.0
end_before [] i j d laid_out less inside = absurd (omega arith)
end_before (region ∷ regions) i zero d laid_out less inside = absurd (omega arith)
end_before (region ∷ regions) zero (suc j) d laid_out less inside =
    All-get_or (λ (r : Region). end_of region ≤ r.first.0) regions j d (omega arith) laid_out.0.ends
end_before (region ∷ regions) (suc i) (suc j) d laid_out less inside = end_before regions i j d laid_out.1 (omega arith) (omega arith)

pub has_byte : (regions : List Region) (i : ℕ) (d : Region) → AreLaidOut regions → i < length regions → 0 < length (get_or regions i d).bytes.items
has_byte [] i d laid_out inside = absurd (omega arith)
has_byte (region ∷ regions) zero d laid_out inside = laid_out.0.some
has_byte (region ∷ regions) (suc i) d laid_out inside = has_byte regions i d laid_out.1 (omega arith)

own_in : (here : Bool) (region : Region) (a : ℕ) (rest cell : Option Cell) → (here ≡ true → rest ≡ None) → rest ≡ cell → is_some cell ≡ true → (if here then Some (cell_in region a) else rest) ≡ cell
own_in true region a rest cell apart is some = absurd (false≢true (sym (ap is_some (apart refl)) ∙ ap is_some is ∙ some))
own_in false region a rest cell apart is some = is

-- what is at an address is what its region has there
pub cells_of-own : (regions : List Region) (i a : ℕ) (d : Region) → AreLaidOut regions → i < length regions → holds (get_or regions i d) a ≡ true → cells_of regions a ≡ Some (cell_in (get_or regions i d) a)
cells_of-own [] i a d laid_out inside here = absurd (omega arith)
cells_of-own (region ∷ regions) zero a d laid_out inside here = rw here
cells_of-own (region ∷ regions) (suc i) a d laid_out inside here =
    own_in (holds region a) region a _ _ (apart region regions laid_out.0 a) (cells_of-own regions i a d laid_out.1 (omega arith) here) refl

pub end_low : (regions : List Region) (i : ℕ) (d : Region) → AreLaidOut regions → i < length regions → end_of (get_or regions i d) ≤ 0xF0000000
end_low [] i d laid_out inside = absurd (omega arith)
end_low (region ∷ regions) zero d laid_out inside = laid_out.0.low
end_low (region ∷ regions) (suc i) d laid_out inside = end_low regions i d laid_out.1 (omega arith)

pub cells_of-low : (regions : List Region) → AreLaidOut regions → (a : ℕ) → 0xF0000000 ≤ a → cells_of regions a ≡ None
cells_of-low [] laid_out a high = refl
cells_of-low (region ∷ regions) laid_out a high =
    rw (unheld_above region a (omega (arith, laid_out.0.low))) (cells_of-low regions laid_out.1 a high)

-- what is at an address behind a spot and in its region
pub cells_of-spot : (access : Access) (regions : List Region) (a : ℕ) (spot : Spot) (d : Region) (k : ℕ) → AreLaidOut regions → IsSpot access regions a spot → spot.offset + k < length (get_or regions spot.region d).bytes.items → cells_of regions (a + k) ≡ Some (record { byte = get_or (get_or regions spot.region d).bytes.items (spot.offset + k) 0; rights = (get_or regions spot.region d).rights })
cells_of-spot access regions a spot d k laid_out is inside =
    let first : (get_or regions spot.region d).first.0 + spot.offset ≡ a = is.first d in
    let here = holds-within (get_or regions spot.region d) (a + k) (omega arith) (omega arith) in
    cells_of-own regions spot.region (a + k) d laid_out is.inside here
    ∙ ap (λ (i : ℕ). Some (record { byte = get_or (get_or regions spot.region d).bytes.items i 0; rights = (get_or regions spot.region d).rights })) (omega arith)

fault_allowed : (access : Access) (at : Addr) (byte : ℕ) (rights : Rights) → allows access rights ≡ true → fault_in access at (Some (record { byte = byte; rights = rights })) ≡ None
fault_allowed access at byte rights may = rw may

-- the bytes from a spot on are a run
pub IsRun-spot : (access : Access) (regions : List Region) (a : ℕ) (spot : Spot) (region : Region) → AreLaidOut regions → IsSpot access regions a spot → region ≡ get_or regions spot.region region → IsRun access (cells_of regions) a (drop spot.offset region.bytes.items)
IsRun-spot access regions a spot region laid_out is here =
    let bytes = (get_or regions spot.region region).bytes.items in
    let first : (get_or regions spot.region region).first.0 + spot.offset ≡ a = is.first region in
    let within : spot.offset < length bytes = is.within region in
    let low = end_low regions spot.region region laid_out is.inside in
    let len = length-drop spot.offset bytes in
    let cells = λ (k : ℕ) (less : k < length (drop spot.offset bytes)). cells_of-spot access regions a spot region k laid_out is (omega arith) in
    let run : IsRun access (cells_of regions) a (drop spot.offset bytes) = record {
      some = omega arith;
      low = omega arith;
      allowed = λ k less. fault_below access (cells_of regions) (a + k) (omega arith) ∙ ap (fault_in access (record { 0 = a + k })) (cells k less) ∙ fault_allowed access (record { 0 = a + k }) (get_or bytes (spot.offset + k) 0) (get_or regions spot.region region).rights (is.allowed region);
      found = λ k less. ap byte_in (cells k less) ∙ sym (get_or-drop spot.offset bytes k 0);
    } in
    subst (λ r. IsRun access (cells_of regions) a (drop spot.offset r.bytes.items)) (sym here) run

-- ---- lists of one shape
pub shape_at : (new old : List Region) (i : ℕ) (d : Region) → shapes new ≡ shapes old → i < length old → shape (get_or new i d) ≡ shape (get_or old i d)
shape_at new old i d same inside =
    let len : length new ≡ length old = omega (arith, length-map new shape, length-map old shape, ap length same) in
    sym (get_or-map shape new i d (shape d) (omega arith)) ∙ ap (λ s. get_or s i (shape d)) same ∙ get_or-map shape old i d (shape d) inside

pub shapes-set : (regions : List Region) (i : ℕ) (region d : Region) → i < length regions → shape region ≡ shape (get_or regions i d) → shapes (set regions i region) ≡ shapes regions
shapes-set regions i region d inside same =
    map-set shape regions i region
    ∙ ap (set (shapes regions) i) (same ∙ sym (get_or-map shape regions i d (shape d) inside))
    ∙ set-get_or (shapes regions) i (shape d)

holds-shape : (r q : Region) (a : ℕ) → shape r ≡ shape q → holds r a ≡ holds q a
holds-shape r q a same = ap (λ (s : ℕ × ℕ × Rights). nat_le s.0 a && nat_lt (a - s.0) s.1) same

unheld_in : (here : Bool) (cell : Cell) (rest : Option Cell) → (if here then Some cell else rest) ≡ None → (here ≡ false) × (rest ≡ None)
unheld_in true cell rest none = absurd (cc)
unheld_in false cell rest none = (refl, none)

firsts-shapes : (new old : List Region) (end : ℕ) → shapes new ≡ shapes old → All (λ (region : Region). end ≤ region.first.0) old → All (λ (region : Region). end ≤ region.first.0) new
firsts-shapes new old end same ends =
    λ k d less.
    let len : length new ≡ length old = omega (arith, length-map new shape, length-map old shape, ap length same) in
    omega (arith, ap (λ (s : ℕ × ℕ × Rights). s.0) (shape_at new old k d same (omega arith)), All-get_or (λ (region : Region). end ≤ region.first.0) old k d (omega arith) ends)

pub AreLaidOut-shapes : (new old : List Region) → shapes new ≡ shapes old → AreLaidOut old → AreLaidOut new
AreLaidOut-shapes [] old same laid_out = tt
AreLaidOut-shapes (r ∷ new) [] same laid_out = absurd (cc)
AreLaidOut-shapes (r ∷ new) (q ∷ old) same laid_out =
    let heads : shape r ≡ shape q = cc in
    let tails : shapes new ≡ shapes old = cc in
    let first : r.first.0 ≡ q.first.0 = ap (λ (s : ℕ × ℕ × Rights). s.0) heads in
    let len : length r.bytes.items ≡ length q.bytes.items = ap (λ (s : ℕ × ℕ × Rights). s.1) heads in (
      record {
        some = omega (arith, laid_out.0.some);
        ends = firsts-shapes new old (end_of r) tails (subst (λ (end : ℕ). All (λ (region : Region). end ≤ region.first.0) old) (omega arith) laid_out.0.ends);
        low = omega (arith, laid_out.0.low);
      },
      AreLaidOut-shapes new old tails laid_out.1,
    )

pub IsSpot-shapes : (access : Access) (new old : List Region) (a : ℕ) (spot : Spot) → shapes new ≡ shapes old → IsSpot access old a spot → IsSpot access new a spot
IsSpot-shapes access new old a spot same is =
    let at = λ (d : Region). shape_at new old spot.region d same is.inside in
    record {
      inside = omega (arith, is.inside, length-map new shape, length-map old shape, ap length same);
      first = λ d. ap (λ (s : ℕ × ℕ × Rights). s.0 + spot.offset) (at d) ∙ is.first d;
      within = λ d. subst (λ (s : ℕ × ℕ × Rights). spot.offset < s.1) (sym (at d)) (is.within d);
      allowed = λ d. ap (λ (s : ℕ × ℕ × Rights). allows access s.2) (at d) ∙ is.allowed d;
    }

-- ---- a write to one region
splice_inside : (old bytes : List ℕ) (o k : ℕ) → o ≤ length old → k < length bytes → get_or (take o old ++ (bytes ++ drop (o + length bytes) old)) (o + k) 0 ≡ get_or bytes k 0
splice_inside old bytes o k fits less =
    get_or-append_right (take o old) (bytes ++ drop (o + length bytes) old) o (o + k) 0 (length-take-le o old fits) (omega arith)
    ∙ ap (λ i. get_or (bytes ++ drop (o + length bytes) old) i 0) (let e : o + k - o ≡ k = omega arith in e)
    ∙ get_or_append_left bytes (drop (o + length bytes) old) 0 k less

splice_outside : (old bytes : List ℕ) (o j : ℕ) → o ≤ length old → (o ≤ j → o + length bytes ≤ j) → get_or (take o old ++ (bytes ++ drop (o + length bytes) old)) j 0 ≡ get_or old j 0
splice_outside old bytes o j fits out =
    elim (cases_lt j o) [
      | inl before ↦ get_or_append_left (take o old) _ 0 j (omega (arith, length-take-le o old fits)) ∙ get_or-take o old j 0 before
      | inr after ↦
          get_or-append_right (take o old) (bytes ++ drop (o + length bytes) old) o j 0 (length-take-le o old fits) after
          ∙ get_or-append_right bytes (drop (o + length bytes) old) (length bytes) (j - o) 0 refl (omega (arith, out after))
          ∙ get_or-drop (o + length bytes) old (j - o - length bytes) 0
          ∙ ap (λ i. get_or old i 0) (let e : o + length bytes + (j - o - length bytes) ≡ j = omega (arith, out after) in e)
    ]

cells_of-set-unheld : (regions : List Region) (i : ℕ) (region d : Region) (x : ℕ) → shape region ≡ shape (get_or regions i d) → i < length regions → holds region x ≡ false → cells_of (set regions i region) x ≡ cells_of regions x
cells_of-set-unheld [] i region d x same inside none = refl
cells_of-set-unheld (r ∷ regions) zero region d x same inside none =
    rw none (let was : holds r x ≡ false = sym (holds-shape region r x same) ∙ none in rw was)
cells_of-set-unheld (r ∷ regions) (suc i) region d x same inside none =
    ap (λ rest. if holds r x then Some (cell_in r x) else rest) (cells_of-set-unheld regions i region d x same (omega arith) none)

-- bytes are written into a region from a spot on, and the region is put back
pub PutsBytes-set : (access : Access) (regions : List Region) (a : ℕ) (spot : Spot) (region d : Region) (bytes : List ℕ) → AreLaidOut regions → IsSpot access regions a spot → shape region ≡ shape (get_or regions spot.region d) → spot.offset + length bytes ≤ length (get_or regions spot.region d).bytes.items → region.bytes.items ≡ take spot.offset (get_or regions spot.region d).bytes.items ++ (bytes ++ drop (spot.offset + length bytes) (get_or regions spot.region d).bytes.items) → PutsBytes (cells_of regions) (cells_of (set regions spot.region region)) a bytes
PutsBytes-set access regions a spot region d bytes laid_out is same fits written =
    let old = get_or regions spot.region d in
    let after = set regions spot.region region in
    let after_same = shapes-set regions spot.region region d is.inside same in
    let after_laid_out = AreLaidOut-shapes after regions after_same laid_out in
    let after_is = IsSpot-shapes access after regions a spot after_same is in
    let there : get_or after spot.region d ≡ region = get_or-set_same regions spot.region region d is.inside in
    let first : old.first.0 + spot.offset ≡ a = is.first d in
    let len : length region.bytes.items ≡ length old.bytes.items = ap (λ (s : ℕ × ℕ × Rights). s.1) same in
    record {
      inside = λ x low high.
          let k : ℕ = x - a in
          let at : a + k ≡ x = omega arith in
          let now = cells_of-spot access after a spot d k after_laid_out after_is (subst (λ (r : Region). spot.offset + k < length r.bytes.items) (sym there) (omega arith)) in
          let was = cells_of-spot access regions a spot d k laid_out is (omega arith) in
          ap (cells_of after) (sym at) ∙ now
          ∙ ap (λ (r : Region). Some (record { byte = get_or r.bytes.items (spot.offset + k) 0; rights = r.rights })) there
          ∙ ap (λ (b : ℕ). Some (record { byte = b; rights = region.rights })) (ap (λ (bs : List ℕ). get_or bs (spot.offset + k) 0) written ∙ splice_inside old.bytes.items bytes spot.offset k (omega arith) (omega arith))
          ∙ ap (λ (r : Rights). Some (record { byte = get_or bytes k 0; rights = r })) (ap (λ (s : ℕ × ℕ × Rights). s.2) same)
          ∙ sym (ap (cell_with (get_or bytes k 0)) (ap (cells_of regions) (sym at) ∙ was));
      outside = λ x out.
          elim (cases_Bool (holds region x)) [
            | inl here ↦
                let low = (holds-true region x here).0 in
                let first_same : region.first.0 ≡ old.first.0 = ap (λ (s : ℕ × ℕ × Rights). s.0) same in
                let out_of_spot : spot.offset ≤ x - old.first.0 → spot.offset + length bytes ≤ x - old.first.0 = λ later. omega (arith, out (omega arith)) in
                let now = cells_of-own after spot.region x d after_laid_out after_is.inside (ap (λ r. holds r x) there ∙ here) in
                let was = cells_of-own regions spot.region x d laid_out is.inside (sym (holds-shape region old x same) ∙ here) in
                now ∙ ap (λ (r : Region). Some (cell_in r x)) there
                ∙ ap (λ (bs : List ℕ). Some (record { byte = get_or bs (x - region.first.0) 0; rights = region.rights })) written
                ∙ ap (λ (s : ℕ × ℕ × Rights). Some (record { byte = get_or (take spot.offset old.bytes.items ++ (bytes ++ drop (spot.offset + length bytes) old.bytes.items)) (x - s.0) 0; rights = s.2 })) same
                ∙ ap (λ (b : ℕ). Some (record { byte = b; rights = old.rights })) (splice_outside old.bytes.items bytes spot.offset (x - old.first.0) (omega arith) out_of_spot)
                ∙ sym was
            | inr none ↦ cells_of-set-unheld regions spot.region region d x same is.inside none
          ];
    }

-- a write of what stands behind, and then of the front
pub PutsBytes-both : (before between after : Cells) (a m : ℕ) (bytes : List ℕ) → m ≤ length bytes → PutsBytes before between (a + m) (drop m bytes) → PutsBytes between after a (take m bytes) → PutsBytes before after a bytes
PutsBytes-both before between after a m bytes fits behind front =
    let front_len = length-take-le m bytes fits in
    let behind_len = length-drop m bytes in
    record {
      inside = λ x low high.
          elim (cases_lt x (a + m)) [
            | inl here ↦
                front.inside x low (omega arith)
                ∙ ap (λ (b : ℕ). cell_with b (between x)) (get_or-take m bytes (x - a) 0 (omega arith))
                ∙ ap (cell_with (get_or bytes (x - a) 0)) (behind.outside x (λ late. absurd (omega arith)))
            | inr late ↦
                front.outside x (λ _. omega arith)
                ∙ behind.inside x late (omega arith)
                ∙ ap (λ (b : ℕ). cell_with b (before x)) (get_or-drop m bytes (x - (a + m)) 0 ∙ ap (λ (i : ℕ). get_or bytes i 0) (let e : m + (x - (a + m)) ≡ x - a = omega arith in e))
          ];
      outside = λ x out.
          front.outside x (λ low. omega (arith, out low)) ∙ behind.outside x (λ late. omega (arith, out (omega arith)));
    }

pub PutsBytes-none : (cells : Cells) (a : ℕ) (bytes : List ℕ) → length bytes ≡ 0 → PutsBytes cells cells a bytes
PutsBytes-none cells a bytes none = record { inside = λ x low high. absurd (omega arith); outside = λ x out. refl }

pub shape-put : (region old : Region) (o : ℕ) (bytes : List ℕ) → region.first ≡ old.first → region.rights ≡ old.rights → region.bytes.items ≡ take o old.bytes.items ++ (bytes ++ drop (o + length bytes) old.bytes.items) → o + length bytes ≤ length old.bytes.items → shape region ≡ shape old
shape-put region old o bytes first rights written fits =
    let len : length region.bytes.items ≡ length old.bytes.items = ap length written ∙ simp (length-append, length-take, length-drop) (omega arith) in
    λ i. ((first i).0, len i, rights i)

-- ---- one more region at the end
either_if : (here : Bool) (cell : Cell) (rest last : Option Cell) → (if here then Some cell else option_or rest last) ≡ option_or (if here then Some cell else rest) last
either_if true cell rest last = refl
either_if false cell rest last = refl

pub cells_of-push : (regions : List Region) (region : Region) (x : ℕ) → cells_of (regions ++ region ∷ []) x ≡ option_or (cells_of regions x) (if holds region x then Some (cell_in region x) else None)
cells_of-push [] region x = refl
cells_of-push (r ∷ regions) region x =
    ap (λ rest. if holds r x then Some (cell_in r x) else rest) (cells_of-push regions region x)
    ∙ either_if (holds r x) (cell_in r x) (cells_of regions x) _

either_some : (found last : Option Cell) → is_some found ≡ true → is_some (option_or found last) ≡ true
either_some None last some = absurd (false≢true some)
either_some (Some cell) last some = refl

either_last : (found : Option Cell) (cell : Cell) → is_some (option_or found (Some cell)) ≡ true
either_last None cell = refl
either_last (Some found) cell = refl

option_or_none : (found : Option Cell) → option_or found None ≡ found
option_or_none None = refl
option_or_none (Some cell) = refl

pub none_push : (regions : List Region) (region : Region) (x : ℕ) → cells_of regions x ≡ None → holds region x ≡ false → cells_of (regions ++ region ∷ []) x ≡ None
none_push regions region x none unheld = cells_of-push regions region x ∙ rw (none, unheld)

pub some_push : (regions : List Region) (region : Region) (x : ℕ) → is_some (cells_of regions x) ≡ true → is_some (cells_of (regions ++ region ∷ []) x) ≡ true
some_push regions region x some = ap is_some (cells_of-push regions region x) ∙ either_some (cells_of regions x) _ some

pub held_push : (regions : List Region) (region : Region) (x : ℕ) → holds region x ≡ true → is_some (cells_of (regions ++ region ∷ []) x) ≡ true
held_push regions region x held = ap is_some (cells_of-push regions region x) ∙ rw held (either_last (cells_of regions x) (cell_in region x))

pub holds-outside : (region : Region) (a : ℕ) → (region.first.0 ≤ a → region.first.0 + length region.bytes.items ≤ a) → holds region a ≡ false
holds-outside region a out =
    elim (cases_Bool (holds region a)) [
      | inl here ↦ let at = holds-true region a here in absurd (omega (arith, out at.0, at.1))
      | inr none ↦ none
    ]
