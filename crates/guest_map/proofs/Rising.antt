-- Regions that rise: they are apart, and each can be added behind the earlier ones.
use Rattle.std.proofs.Common.{◌≡◌, ℕ, zero, suc, ◌+◌, ◌<◌, ◌≤◌, Bool, true, false, ◌&&◌, if◌then◌else◌, List, [], ◌∷◌, ◌++◌, length, take, get_or, Option, None, Some, refl, sym, ap, ◌∙◌, arith}
use Rattle.std.specs.Prelude.{All}
use Rattle.std.proofs.lemmas.Bool.{leb-true}
use Rattle.std.proofs.lemmas.Bool.Decides.{nat_tests}
use Rattle.std.proofs.lemmas.List.{take_more}
use Rattle.std.specs.FinMap as finite
use Rattle.std.specs.Option.{option_or}
use Rattle.nd_mem.specs.Cell.{Cell}
use Rattle.nd_mem.specs.Space.{Cells, Space, region_refusal, zeros_from}
use Rattle.nd_mem.specs.Laws.{RegionLaws}
use Rattle.guest_map.specs.declared.regions.Region.{Region}
use Rattle.guest_map.specs.Regions.{end_of, lies_in, AreApart, rising, regions}
use Rattle.guest_map.specs.declared.regions.TheConstants.{REGIONS}
use Rattle.guest_map.specs.Blank.{blank, blank_in, read_write}

and_both : (p q : Bool) → (p && q) ≡ true → (p ≡ true) × (q ≡ true)
and_both true true e = (refl, refl)
and_both true false e = absurd (cc)
and_both false q e = absurd (cc)

pub first_rises : (floor limit : ℕ) (r : Region) (rs : List Region) → rising floor limit (r ∷ rs) ≡ true → (floor ≤ r.first.0) × (end_of r ≤ limit) × (rising (end_of r) limit rs ≡ true)
unfolding rising
first_rises floor limit r rs e =
    let a = and_both _ _ e in
    let b = and_both _ _ a.1 in
    (leb-true _ _ a.0, leb-true _ _ b.0, b.1)

pub rising_above : (floor limit : ℕ) (rs : List Region) (i : ℕ) (d : Region) → rising floor limit rs ≡ true → i < length rs → floor ≤ (get_or rs i d).first.0
rising_above floor limit [] i d e less = absurd (omega arith)
rising_above floor limit (r ∷ rs) zero d e less = (first_rises floor limit r rs e).0
rising_above floor limit (r ∷ rs) (suc i) d e less =
    let first = first_rises floor limit r rs e in
    omega (arith, first.0, rising_above (end_of r) limit rs i d first.2 (omega arith))

pub rising_within : (floor limit : ℕ) (rs : List Region) (i : ℕ) (d : Region) → rising floor limit rs ≡ true → i < length rs → end_of (get_or rs i d) ≤ limit
rising_within floor limit [] i d e less = absurd (omega arith)
rising_within floor limit (r ∷ rs) zero d e less = (first_rises floor limit r rs e).1
rising_within floor limit (r ∷ rs) (suc i) d e less =
    rising_within (end_of r) limit rs i d (first_rises floor limit r rs e).2 (omega arith)

-- ---- they are apart
pub apart_by_ends : (r q : Region) → end_of r ≤ q.first.0 → AreApart r q
apart_by_ends r q behind = λ a here. grind (arith, nat_tests)

pub rising_apart : (floor limit : ℕ) (rs : List Region) → rising floor limit rs ≡ true → (i j : ℕ) (d : Region) → i < j → j < length rs → AreApart (get_or rs i d) (get_or rs j d)
rising_apart floor limit [] e i j d less inside = absurd (omega arith)
rising_apart floor limit (r ∷ rs) e i zero d less inside = absurd (omega arith)
rising_apart floor limit (r ∷ rs) e zero (suc j) d less inside =
    apart_by_ends r (get_or rs j d) (rising_above (end_of r) limit rs j d (first_rises floor limit r rs e).2 (omega arith))
rising_apart floor limit (r ∷ rs) e (suc i) (suc j) d less inside =
    rising_apart (end_of r) limit rs (first_rises floor limit r rs e).2 i j d (omega arith) (omega arith)

pub rising_all_above : (floor limit : ℕ) (rs : List Region) → rising floor limit rs ≡ true → All (λ r. floor ≤ r.first.0) rs
rising_all_above floor limit rs e = λ i d less. rising_above floor limit rs i d e less

-- ---- what they have
pub behind : (r : Region) (cell : Option Cell) (a : ℕ) → end_of r ≤ a → (if lies_in r a then Some blank else cell) ≡ cell
behind r cell a less = grind (arith, nat_tests)

-- the regions before one have nothing at its addresses
pub rising_before : (floor limit : ℕ) (rs : List Region) (i : ℕ) (d : Region) (a : ℕ) → rising floor limit rs ≡ true → i < length rs → (get_or rs i d).first.0 ≤ a → blank_in (take i rs) a ≡ None
rising_before floor limit [] i d a e less at = absurd (omega arith)
rising_before floor limit (r ∷ rs) zero d a e less at = refl
rising_before floor limit (r ∷ rs) (suc i) d a e less at =
    let rest = (first_rises floor limit r rs e).2 in
    let above = rising_above (end_of r) limit rs i d rest (omega arith) in
    behind r _ a (omega arith) ∙ rising_before (end_of r) limit rs i d a rest (omega arith) at

-- what the regions with one more have
pub blank_in_more : (rs : List Region) (r : Region) (a : ℕ) → blank_in (rs ++ r ∷ []) a ≡ option_or (blank_in rs a) (if lies_in r a then Some blank else None)
blank_in_more [] r a = refl
blank_in_more (first ∷ rs) r a = chosen _ _ _ (lies_in first a) (blank_in_more rs r a)
  where
    chosen : (x y z : Option Cell) (b : Bool) → x ≡ option_or y z → (if b then Some blank else x) ≡ option_or (if b then Some blank else y) z
    chosen x y z true e = refl
    chosen x y z false e = e

-- nothing is behind the limit, or before the floor
pub rising_behind : (floor limit : ℕ) (rs : List Region) (a : ℕ) → rising floor limit rs ≡ true → limit ≤ a → blank_in rs a ≡ None
rising_behind floor limit [] a e high = refl
rising_behind floor limit (r ∷ rs) a e high =
    let first = first_rises floor limit r rs e in
    behind r _ a (omega (arith, first.1)) ∙ rising_behind (end_of r) limit rs a first.2 high

before : (r : Region) (cell : Option Cell) (a : ℕ) → a < r.first.0 → (if lies_in r a then Some blank else cell) ≡ cell
before r cell a less = grind (arith, nat_tests)

pub rising_below : (floor limit : ℕ) (rs : List Region) (a : ℕ) → rising floor limit rs ≡ true → a < floor → blank_in rs a ≡ None
rising_below floor limit [] a e low = refl
rising_below floor limit (r ∷ rs) a e low =
    let first = first_rises floor limit r rs e in
    before r _ a (omega (arith, first.0)) ∙ rising_below (end_of r) limit rs a first.2 (omega (arith, first.0))

either_way : (b : Bool) (cell : Option Cell) → cell ≡ Some blank → (if b then Some blank else cell) ≡ Some blank
either_way true cell e = refl
either_way false cell e = e

pub blank_at : (rs : List Region) (i : ℕ) (d : Region) (a : ℕ) → i < length rs → lies_in (get_or rs i d) a ≡ true → blank_in rs a ≡ Some blank
blank_at [] i d a less here = absurd (omega arith)
blank_at (r ∷ rs) zero d a less here = rw here
blank_at (r ∷ rs) (suc i) d a less here = either_way (lies_in r a) (blank_in rs a) (blank_at rs i d a (omega arith) here)

pub blank_out : (rs : List Region) (a : ℕ) → All (λ r. lies_in r a ≡ false) rs → blank_in rs a ≡ None
blank_out [] a out = refl
blank_out (r ∷ rs) a out = rw (out 0 r (omega arith)) (blank_out rs a (λ i d less. out (suc i) d (omega arith)))

-- ---- one more is added to memory that had nothing from the floor on
module _ (laws : RegionLaws) (old : Cells) (floor limit : ℕ) (rs : List Region) (i : ℕ) (d : Region) (free : (a : ℕ) → floor ≤ a → old a ≡ None) (rise : rising floor limit rs ≡ true) (less : i < length rs) where
  pub next_is_taken : (cells : Cells) → limit ≤ 0xF0000000 → ((a : ℕ) → cells a ≡ option_or (old a) (blank_in (take i rs) a)) → region_refusal cells (get_or rs i d).first.0 (get_or rs i d).length ≡ None
  next_is_taken cells low is =
      let above = rising_above floor limit rs i d rise less in
      laws.taken cells _ _ (omega (arith, rising_within floor limit rs i d rise less))
      (λ k _. let at = (get_or rs i d).first.0 + k in is at ∙ ap (λ x. option_or x (blank_in (take i rs) at)) (free at (omega arith)) ∙ rising_before floor limit rs i d at rise less (omega arith))

  pub next_is_added : (s s' : Space) → ((a : ℕ) → finite.get s a ≡ option_or (old a) (blank_in (take i rs) a)) → s' ≡ zeros_from s (get_or rs i d).first.0 (get_or rs i d).length read_write → (a : ℕ) → finite.get s' a ≡ option_or (old a) (blank_in (take (i + 1) rs) a)
  next_is_added s s' is made a =
      let r = get_or rs i d in
      let earlier = blank_in (take i rs) a in
      let none : lies_in r a ≡ true → option_or (old a) earlier ≡ None = λ e.
      let at = in_range r a e in
      let above = rising_above floor limit rs i d rise less in
      ap (λ x. option_or x earlier) (free a (omega arith)) ∙ rising_before floor limit rs i d a rise less at in
      ap (λ (x : Space). finite.get x a) made
      ∙ laws.found s r.first.0 r.length read_write a
      ∙ ap (λ x. if lies_in r a then Some blank else x) (is a)
      ∙ added (old a) earlier (lies_in r a) none
      ∙ sym (ap (option_or (old a)) (ap (λ (xs : List Region). blank_in xs a) (take_more rs i d less) ∙ blank_in_more (take i rs) r a))
    where
      in_range : (r : Region) (a : ℕ) → lies_in r a ≡ true → r.first.0 ≤ a
      in_range r a e = leb-true _ _ (and_both _ _ e).0

      added : (old earlier : Option Cell) (b : Bool) → ((b ≡ true) → option_or old earlier ≡ None) → (if b then Some blank else option_or old earlier) ≡ option_or old (option_or earlier (if b then Some blank else None))
      added None None true free = refl
      added None (Some x) true free = let e : ◌≡◌ {A = Option Cell} (Some x) None = free refl in absurd (cc)
      added (Some x) earlier true free = let e : ◌≡◌ {A = Option Cell} (Some x) None = free refl in absurd (cc)
      added None None false free = refl
      added None (Some x) false free = refl
      added (Some x) earlier false free = refl

-- ---- the regions beside the image
pub regions_rise : rising 0x81000000 0x85004000 regions ≡ true
unfolding rising
regions_rise = refl

pub REGIONS_rise : rising 0x81000000 0xF0000000 REGIONS ≡ true
unfolding rising
REGIONS_rise = refl
