-- Free places of the guest pool: what the test of one tells, and the first one.
use Rattle.std.proofs.Common.{◌≡◌, ◌≢◌, ◌⊎◌, inl, inr, ℕ, zero, suc, ◌+◌, ◌-◌, ◌*◌, ◌/◌, ◌%◌, ◌<◌, ◌≤◌, max, Bool, true, false, ◌||◌, ◌&&◌, not, cond, eqb, leb, List, [], ◌∷◌, ◌++◌, map, Option, None, Some, is_some, refl, sym, ap, subst, ◌∙◌, arith, ⊎_elim, eqb-true, eq-eqb, get_or}
use Rattle.std.proofs.lemmas.Bool.{false≢true, cases_lt, leb-true, le-leb}
use Rattle.std.specs.Option.{option_map}
use Rattle.std.specs.List.{list_all}
use Rattle.std.specs.FinMap as table
use Rattle.guest_map.specs.declared.regions.Region.{Region}
use Rattle.guest_map.specs.Regions.{region, end_of}
use Rattle.guest_map.specs.Regions as guest
use Rattle.free_ranges.specs.Ranges.{IsFree, IsWithin, Fits, IsFit, Takes, Gives, AreTaken}
use Rattle.packet_pool.specs.LiveSet.{LiveSet, block_at, pool_of, block_range, pool_range, ranges, are_apart, is_place, is_free, units, unit_address, here_or, first_free_from, first_free}
use Rattle.packet_pool.specs.KeptLive.{Owner, BlockAt, PoolOf, range_of, IsPlaced, Covers, AreDisjoint, IsSound, IsRow, unit_count, IsRoomAt}
use Rattle.packet_pool.proofs.Changed.{same_some, none_some, mapped_from, both_true, and_true, true_or_false, all_of, all_if}

-- ---- ranges that share no address

pub apart_disjoint : (r q : Region) → are_apart r q ≡ true → AreDisjoint r q
apart_disjoint r q h = by_first (leb (end_of r) q.first.0) refl
  where
    by_first : (b : Bool) → leb (end_of r) q.first.0 ≡ b → AreDisjoint r q
    by_first true e = inl (leb-true (end_of r) q.first.0 e)
    by_first false e = inr (leb-true (end_of q) r.first.0 (sym (ap (λ b. b || leb (end_of q) r.first.0) e) ∙ h))

pub disjoint_apart : (r q : Region) → AreDisjoint r q → are_apart r q ≡ true
disjoint_apart r q h =
    ⊎_elim (λ le. ap (λ b. b || leb (end_of q) r.first.0) (le-leb (end_of r) q.first.0 le))
    (λ le. or_true (leb (end_of r) q.first.0) (leb (end_of q) r.first.0) (le-leb (end_of q) r.first.0 le)) h
  where
    or_true : (a b : Bool) → b ≡ true → (a || b) ≡ true
    or_true true b e = refl
    or_true false b e = e

-- ---- lists

all_parts : {A : Type 0} (p : A → Bool) (xs ys : List A) → list_all p (xs ++ ys) ≡ true → (list_all p xs ≡ true) × (list_all p ys ≡ true)
all_parts p [] ys h = (refl, h)
all_parts p (x ∷ xs) ys h = let e = both_true (p x) (list_all p (xs ++ ys)) h in let rest = all_parts p xs ys e.1 in (and_true (p x) (list_all p xs) e.0 rest.0, rest.1)

all_joined : {A : Type 0} (p : A → Bool) (xs ys : List A) → list_all p xs ≡ true → list_all p ys ≡ true → list_all p (xs ++ ys) ≡ true
all_joined p [] ys h k = k
all_joined p (x ∷ xs) ys h k = let e = both_true (p x) (list_all p xs) h in and_true (p x) (list_all p (xs ++ ys)) e.0 (all_joined p xs ys e.1 k)

all_mapped : {A B : Type 0} (p : B → Bool) (f : A → B) (xs : List A) → list_all p (map f xs) ≡ list_all (λ x. p (f x)) xs
all_mapped p f [] = refl
all_mapped p f (x ∷ xs) = ap (λ b. p (f x) && b) (all_mapped p f xs)

-- ---- what the test of a free range tells

pub record IsFreeAt (s : LiveSet) (r : Region) : Type 0 where
  pub at : r.first.0 % 16 ≡ 0
  pub from : 0x81000000 ≤ r.first.0
  pub to : end_of r ≤ 0x81800000
  pub apart : (o : Owner) (q : Region) → range_of s o ≡ Some q → AreDisjoint r q

pub free_tells : (s : LiveSet) (r : Region) → is_free s r ≡ true → IsFreeAt s r
free_tells s r h =
    let e = both_true (is_place r) (list_all (are_apart r) (ranges s)) h in
    let place = both_true (eqb (r.first.0 % 16) 0) (leb 0x81000000 r.first.0 && leb (end_of r) 0x81800000) e.0 in
    let bounds = both_true (leb 0x81000000 r.first.0) (leb (end_of r) 0x81800000) place.1 in
    let parts = all_parts (are_apart r) (map (λ e. block_range e.0 e.1) (table.entries s.blocks)) (map (λ e. pool_range e.1) (table.entries s.pools)) e.1 in
    record {
      at = eqb-true (r.first.0 % 16) 0 place.0;
      from = leb-true 0x81000000 r.first.0 bounds.0;
      to = leb-true (end_of r) 0x81800000 bounds.1;
      apart = λ o q is. by_owner parts o q is;
    }
  where
    by_owner : (list_all (are_apart r) (map (λ e. block_range e.0 e.1) (table.entries s.blocks)) ≡ true) × (list_all (are_apart r) (map (λ e. pool_range e.1) (table.entries s.pools)) ≡ true) → (o : Owner) (q : Region) → range_of s o ≡ Some q → AreDisjoint r q
    by_owner parts (BlockAt a) q is =
        let w = mapped_from (block_range a) (block_at s a) q is in
        let e = all_of (λ e. are_apart r (block_range e.0 e.1)) s.blocks (sym (all_mapped (are_apart r) (λ e. block_range e.0 e.1) (table.entries s.blocks)) ∙ parts.0) a w.0 w.1 in
        subst (AreDisjoint r) w.2 (apart_disjoint r (block_range a w.0) e)
    by_owner parts (PoolOf handle) q is =
        let w = mapped_from pool_range (pool_of s handle) q is in
        let e = all_of (λ e. are_apart r (pool_range e.1)) s.pools (sym (all_mapped (are_apart r) (λ e. pool_range e.1) (table.entries s.pools)) ∙ parts.1) handle w.0 w.1 in
        subst (AreDisjoint r) w.2 (apart_disjoint r (pool_range w.0) e)

pub free_if : (s : LiveSet) (r : Region) → IsFreeAt s r → is_free s r ≡ true
free_if s r is =
    let blocks = all_if (λ e. are_apart r (block_range e.0 e.1)) s.blocks (λ a length found. disjoint_apart r (block_range a length) (is.apart (BlockAt a) (block_range a length) (ap (option_map (block_range a)) found))) in
    let pools = all_if (λ e. are_apart r (pool_range e.1)) s.pools (λ handle p found. disjoint_apart r (pool_range p) (is.apart (PoolOf handle) (pool_range p) (ap (option_map pool_range) found))) in
    and_true (is_place r) (list_all (are_apart r) (ranges s))
    (and_true (eqb (r.first.0 % 16) 0) (leb 0x81000000 r.first.0 && leb (end_of r) 0x81800000) (eq-eqb (r.first.0 % 16) 0 is.at)
    (and_true (leb 0x81000000 r.first.0) (leb (end_of r) 0x81800000) (le-leb 0x81000000 r.first.0 is.from) (le-leb (end_of r) 0x81800000 is.to)))
    (all_joined (are_apart r) (map (λ e. block_range e.0 e.1) (table.entries s.blocks)) (map (λ e. pool_range e.1) (table.entries s.pools))
    (all_mapped (are_apart r) (λ e. block_range e.0 e.1) (table.entries s.blocks) ∙ blocks)
    (all_mapped (are_apart r) (λ e. pool_range e.1) (table.entries s.pools) ∙ pools))

-- ---- the first free place

-- the range of so many bytes from a unit on
abbrev pub from_unit : ℕ → ℕ → Region
from_unit length unit = region (unit_address unit) length

module _ (s : LiveSet) (length : ℕ) where
  pub found_from : (n unit target : ℕ) → unit ≤ target → target < unit + n → is_free s (from_unit length target) ≡ true → ((before : ℕ) → before < target → is_free s (from_unit length before) ≡ false) → first_free_from s length unit n ≡ Some (unit_address target)
  unfolding first_free_from
  found_from zero unit target from to here before = absurd (omega arith)
  found_from (suc n) unit target from to here before =
      ⊎_elim (λ less. ap (λ b. here_or b (unit_address unit) (first_free_from s length (unit + 1) n)) (before unit less) ∙ found_from n (unit + 1) target (omega arith) (omega arith) here before)
      (λ ge. let same : unit ≡ target = omega arith in
      ap (λ b. here_or b (unit_address unit) (first_free_from s length (unit + 1) n)) (ap (λ (u : ℕ). is_free s (from_unit length u)) same ∙ here) ∙ ap (λ (u : ℕ). Some (unit_address u)) same) (cases_lt unit target)

  pub none_from : (n unit : ℕ) → ((u : ℕ) → u < unit + n → is_free s (from_unit length u) ≡ false) → first_free_from s length unit n ≡ None
  unfolding first_free_from
  none_from zero unit none = refl
  none_from (suc n) unit none =
      ap (λ b. here_or b (unit_address unit) (first_free_from s length (unit + 1) n)) (none unit (omega arith)) ∙ none_from n (unit + 1) (λ u less. none u (omega arith))

  -- what was found is free, and no unit in front of it
  pub record IsFirst (from a : ℕ) : Type 0 where
    pub unit : ℕ
    pub at : a ≡ unit_address unit
    pub free : is_free s (from_unit length unit) ≡ true
    pub first : (before : ℕ) → from ≤ before → before < unit → is_free s (from_unit length before) ≡ false

  by_here : (n unit a : ℕ) (b : Bool) → is_free s (from_unit length unit) ≡ b → here_or b (unit_address unit) (first_free_from s length (unit + 1) n) ≡ Some a → (first_free_from s length (unit + 1) n ≡ Some a → IsFirst (unit + 1) a) → IsFirst unit a
  by_here n unit a true is found rest = record { unit = unit; at = sym (same_some (unit_address unit) a found); free = is; first = λ before from less. absurd (omega arith) }
  by_here n unit a false is found rest =
      let w = rest found in
      record { unit = w.unit; at = w.at; free = w.free; first = λ before from less. ⊎_elim (λ more. w.first before more less) (λ le. let same : before ≡ unit = omega arith in ap (λ (u : ℕ). is_free s (from_unit length u)) same ∙ is) (cases_le before unit from) }
    where
      cases_le : (before unit : ℕ) → unit ≤ before → (unit + 1 ≤ before) ⊎ (before ≤ unit)
      cases_le before unit from = ⊎_elim (λ less. inl (omega arith)) (λ ge. inr ge) (cases_lt unit before)

  pub first_from : (n unit a : ℕ) → first_free_from s length unit n ≡ Some a → IsFirst unit a
  unfolding first_free_from
  first_from zero unit a found = absurd (none_some a found)
  first_from (suc n) unit a found = by_here n unit a (is_free s (from_unit length unit)) refl found (first_from n (unit + 1) a)

  none_here : (n unit : ℕ) (b : Bool) → is_free s (from_unit length unit) ≡ b → here_or b (unit_address unit) (first_free_from s length (unit + 1) n) ≡ None → (is_free s (from_unit length unit) ≡ false) × (first_free_from s length (unit + 1) n ≡ None)
  none_here n unit true is none = absurd (none_some (unit_address unit) (sym none))
  none_here n unit false is none = (is, none)

  pub none_is_free : (n unit : ℕ) → first_free_from s length unit n ≡ None → (u : ℕ) → unit ≤ u → u < unit + n → is_free s (from_unit length u) ≡ false
  unfolding first_free_from
  none_is_free zero unit none u from to = absurd (omega arith)
  none_is_free (suc n) unit none u from to =
      let w = none_here n unit (is_free s (from_unit length unit)) refl none in
      ⊎_elim (λ less. none_is_free n (unit + 1) w.1 u (omega arith) (omega arith))
      (λ ge. let same : u ≡ unit = omega arith in ap (λ (v : ℕ). is_free s (from_unit length v)) same ∙ w.0) (cases_lt unit u)

  pub first_is : (unit : ℕ) → unit < units → is_free s (from_unit length unit) ≡ true → ((before : ℕ) → before < unit → is_free s (from_unit length before) ≡ false) → first_free s length ≡ Some (unit_address unit)
  unfolding first_free
  first_is unit less here before = found_from units 0 unit (omega arith) (omega arith) here before

  pub none_is : ((unit : ℕ) → unit < units → is_free s (from_unit length unit) ≡ false) → first_free s length ≡ None
  unfolding first_free
  none_is none = none_from units 0 none

  pub first_tells : (a : ℕ) → first_free s length ≡ Some a → IsFirst 0 a
  unfolding first_free
  first_tells a found = first_from units 0 a found

  pub none_tells : first_free s length ≡ None → (unit : ℕ) → unit < units → is_free s (from_unit length unit) ≡ false
  unfolding first_free
  none_tells none unit less = none_is_free units 0 none unit (omega arith) less

-- ---- free units and free places

module _ (s : LiveSet) (lengths : List ℕ) (length unit : ℕ) (sound : IsSound s) (row : IsRow s lengths) (some : 1 ≤ length) where
  abbrev Units : ℕ → ℕ
  Units u = get_or lengths u 0

  -- units that are free make a free place: in a range that meets one that is taken, the greater of the two first addresses is a unit of both
  pub fits_free : unit + unit_count length ≤ units → Fits Units (unit_count length) unit → is_free s (from_unit length unit) ≡ true
  fits_free inside fits = free_if s (from_unit length unit) (record { at = omega arith; from = omega arith; to = omega arith; apart = apart })
    where
      meet : (o : Owner) (q : Region) → range_of s o ≡ Some q → (k : ℕ) → unit ≤ k → k < unit + unit_count length → q.first.0 ≤ unit_address k → unit_address k < end_of q → ⊥
      meet o q is k from to low high = row.forth k (fits k (record { from = from; to = to })) o q is (record { from = low; to = high })

      apart : (o : Owner) (q : Region) → range_of s o ≡ Some q → AreDisjoint (from_unit length unit) q
      apart o q is =
          let placed = sound.placed o q is in
          let at = placed.at in
          let has = placed.some in
          ⊎_elim (λ less. ⊎_elim (λ more.
          ⊎_elim (λ before. absurd (meet o q is placed.unit (omega (arith, at, before)) (omega (arith, at, more)) (omega (arith, at)) (omega (arith, at, has))))
          (λ behind. absurd (meet o q is unit (omega arith) (omega arith) (omega (arith, at, behind)) less)) (cases_lt unit placed.unit))
          (λ le. inl le) (cases_lt q.first.0 (unit_address unit + length)))
          (λ le. inr le) (cases_lt (unit_address unit) (end_of q))

  -- a free place has free units
  pub free_fits : is_free s (from_unit length unit) ≡ true → Fits Units (unit_count length) unit
  free_fits free k within =
      let is = free_tells s (from_unit length unit) free in
      let from = within.from in
      let to = within.to in
      let inside = is.to in
      row.back k (omega (arith, from, to, inside)) (λ o q is_there covers.
      let low = covers.from in
      let high = covers.to in
      ⊎_elim (λ le. absurd (omega (arith, le, low, from, to))) (λ le. absurd (omega (arith, le, high, from))) (is.apart o q is_there))

module _ (s : LiveSet) (lengths : List ℕ) (length : ℕ) (sound : IsSound s) (row : IsRow s lengths) (some : 1 ≤ length) where
  not_free : (unit : ℕ) → (Fits (λ u. get_or lengths u 0) (unit_count length) unit → ⊥) → is_free s (from_unit length unit) ≡ false
  not_free unit none = ⊎_elim (λ yes. absurd (none (free_fits s lengths length unit sound row some yes))) (λ no. no) (true_or_false (is_free s (from_unit length unit)))

  pub room_is_first : (unit : ℕ) → IsRoomAt lengths length unit → first_free s length ≡ Some (unit_address unit)
  room_is_first unit room =
      let inside = room.inside in
      first_is s length unit (omega (arith, inside)) (fits_free s lengths length unit sound row some inside room.fits) (λ before less. not_free before (room.first before less))

  pub room_is_free : (unit : ℕ) → IsRoomAt lengths length unit → is_free s (from_unit length unit) ≡ true
  room_is_free unit room = fits_free s lengths length unit sound row some room.inside room.fits

  pub no_room : IsFit (λ u. get_or lengths u 0) (unit_count length) None → first_free s length ≡ None
  no_room none = none_is s length (λ unit less. not_free unit (none unit))
