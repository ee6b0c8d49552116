-- The lists of lengths and of ends after all is free, after a range is taken, and after one is given back.
use Rattle.std.proofs.Common.{◌≡◌, ◌≢◌, ℕ, ◌+◌, ◌-◌, ◌^◌, ◌<◌, ◌≤◌, List, Option, Some, None, length, get_or, set, replicate, refl, sym, ap, ◌∙◌, subst, ⊎_elim, arith, length-set}
use Rattle.std.proofs.lemmas.Bool.{cases_lt}
use Rattle.std.proofs.lemmas.List.{get_or-set_same, get_or-set_other, get_or_past, get_or-replicate, length-replicate}
use Rattle.free_ranges.specs.Tournament.{IsNotBelow, IsFirstNotBelow}
use Rattle.free_ranges.specs.Ranges.{AreRanges, AreKept, IsFit, IsFirstFit, AreInside, Takes, Gives, AreTaken, AllFree}
use Rattle.free_ranges.proofs.RangeLemmas.{order, fit_lies_in_one, TakesUnits, GivesUnits, IsCut, cut_ranges, cut_takes, cut_ends, IsJoined, joined_ranges, joined_gives, joined_ends}

zeros : (n i : ℕ) → get_or {A = ℕ} (replicate {A = ℕ} n 0) i 0 ≡ 0
zeros n i = ⊎_elim (λ less. get_or-replicate n i 0 0 less) (λ le. let size = length-replicate {A = ℕ} n 0 in get_or_past (replicate n 0) i 0 (omega (arith, size))) (cases_lt i n)

-- ---- all units are free

module _ (n : ℕ) (some : 1 ≤ n) (small : n ≤ 2 ^ 30) where
  free_at_first : get_or (set (replicate n 0) 0 n) 0 0 ≡ n
  free_at_first = let size = length-replicate {A = ℕ} n 0 in get_or-set_same (replicate n 0) 0 n 0 (omega (arith, size))

  free_elsewhere : (u : ℕ) → u ≢ 0 → get_or (set (replicate n 0) 0 n) u 0 ≡ 0
  free_elsewhere u not = get_or-set_other (replicate n 0) 0 u n 0 not ∙ zeros n u

  end_at_last : get_or (set (replicate (n + 1) 0) n n) n 0 ≡ n
  end_at_last = let size = length-replicate {A = ℕ} (n + 1) 0 in get_or-set_same (replicate (n + 1) 0) n n 0 (omega (arith, size))

  end_elsewhere : (e : ℕ) → e ≢ n → get_or (set (replicate (n + 1) 0) n n) e 0 ≡ 0
  end_elsewhere e not = get_or-set_other (replicate (n + 1) 0) n e n 0 not ∙ zeros (n + 1) e

  -- where a length stands, it is that of the one range
  free_begins : (u : ℕ) → 0 < get_or (set (replicate n 0) 0 n) u 0 → u ≡ 0
  free_begins u has = ⊎_elim (λ more. let none = free_elsewhere u (omega arith) in absurd (omega arith)) (λ le. omega arith) (cases_lt 0 u)

  free_ends : (e : ℕ) → 0 < get_or (set (replicate (n + 1) 0) n n) e 0 → e ≡ n
  free_ends e has = ⊎_elim (λ less. let none = end_elsewhere e (omega arith) in absurd (omega arith)) (λ r. ⊎_elim (λ same. same) (λ more. let none = end_elsewhere e (omega arith) in absurd (omega arith)) r) (order e n)

  free_units : length (set (replicate n 0) 0 n) ≡ n
  free_units = length-set (replicate n 0) 0 n ∙ length-replicate {A = ℕ} n 0

  pub all_kept : AreKept (set (replicate n 0) 0 n) (set (replicate (n + 1) 0) n n)
  all_kept = record {
    ranges = record {
      inside = λ u has. let e = free_begins u has in let same : get_or (set (replicate n 0) 0 n) u 0 ≡ n = ap (λ k. get_or (set (replicate n 0) 0 n) k 0) e ∙ free_at_first in omega (arith, e, same, free_units);
      apart = λ u v less p q. let e = free_begins v q in absurd (omega arith);
    };
    match = record {
      back = λ e has. let same = free_ends e has in let is : get_or (set (replicate (n + 1) 0) n n) e 0 ≡ n = ap (λ k. get_or (set (replicate (n + 1) 0) n n) k 0) same ∙ end_at_last in
          let zero_there : e - get_or (set (replicate (n + 1) 0) n n) e 0 ≡ 0 = omega arith in
          (omega arith, ap (λ k. get_or (set (replicate n 0) 0 n) k 0) zero_there ∙ free_at_first ∙ sym is);
      forth = λ u has. let same = free_begins u has in let is : get_or (set (replicate n 0) 0 n) u 0 ≡ n = ap (λ k. get_or (set (replicate n 0) 0 n) k 0) same ∙ free_at_first in
          let last : u + get_or (set (replicate n 0) 0 n) u 0 ≡ n = omega arith in
          ap (λ k. get_or (set (replicate (n + 1) 0) n n) k 0) last ∙ end_at_last ∙ sym is;
    };
    small = omega (arith, free_units);
    ends_size = length-set (replicate (n + 1) 0) n n ∙ length-replicate {A = ℕ} (n + 1) 0 ∙ ap (λ k. k + 1) (sym free_units);
  }

  pub all_are_free : AllFree n (set (replicate n 0) 0 n)
  all_are_free = record { size = free_units; free = λ k less. let at = free_at_first in record { first = 0; from = omega arith; to = omega arith } }

-- ---- a range is taken
module _ (lengths ends : List ℕ) (first length_ rest : ℕ) (kept : AreKept lengths ends) (some : 0 < length_) (free : length_ ≤ get_or lengths first 0) (rest_is : rest ≡ get_or lengths first 0 - length_) where
  pub in_row : first + get_or lengths first 0 ≤ length lengths
  in_row = kept.ranges.inside first (omega arith)

  pub cut_lists : IsCut (λ u. get_or lengths u 0) (λ u. get_or (set (set lengths first 0) (first + length_) rest) u 0) first length_
  cut_lists =
      let last = in_row in
      let size_now = length-set lengths first 0 in
      record {
        gone = get_or-set_other (set lengths first 0) (first + length_) first rest 0 (omega arith) ∙ get_or-set_same lengths first 0 0 (omega arith);
        rest = ⊎_elim (λ less. get_or-set_same (set lengths first 0) (first + length_) rest 0 (omega arith) ∙ rest_is)
            (λ le. let none : get_or lengths first 0 - length_ ≡ 0 = omega arith in get_or_past (set (set lengths first 0) (first + length_) rest) (first + length_) 0 (let size_then = length-set (set lengths first 0) (first + length_) rest in omega arith) ∙ sym none) (cases_lt (first + length_) (length lengths));
        others = λ x p q. get_or-set_other (set lengths first 0) (first + length_) x rest 0 q ∙ get_or-set_other lengths first x 0 0 p;
      }

  pub take_kept : AreKept (set (set lengths first 0) (first + length_) rest) (set ends (first + get_or lengths first 0) rest)
  take_kept =
      let ends_size = kept.ends_size in
      let last = in_row in
      record {
        ranges = let now = length-set (set lengths first 0) (first + length_) rest ∙ length-set lengths first 0 in
            let P : ℕ → Type 0 = λ n. AreRanges n (λ u. get_or (set (set lengths first 0) (first + length_) rest) u 0) in
            subst P (sym now) (cut_ranges (length lengths) (λ u. get_or lengths u 0) _ first length_ kept.ranges some free cut_lists);
        match = cut_ends (length lengths) (λ u. get_or lengths u 0) _ first length_ kept.ranges some free cut_lists (λ e. get_or ends e 0) (λ e. get_or (set ends (first + get_or lengths first 0) rest) e 0) kept.match
            (get_or-set_same ends (first + get_or lengths first 0) rest 0 (omega arith) ∙ rest_is)
            (λ e not. get_or-set_other ends (first + get_or lengths first 0) e rest 0 not);
        small = let now = length-set (set lengths first 0) (first + length_) rest ∙ length-set lengths first 0 in let was = kept.small in omega (arith, now, was);
        ends_size = length-set ends (first + get_or lengths first 0) rest ∙ ends_size ∙ ap (λ k. k + 1) (sym (length-set (set lengths first 0) (first + length_) rest ∙ length-set lengths first 0));
      }

  units_taken : TakesUnits (λ u. get_or lengths u 0) (λ u. get_or (set (set lengths first 0) (first + length_) rest) u 0) first length_
  units_taken = cut_takes (length lengths) (λ u. get_or lengths u 0) _ first length_ kept.ranges some free cut_lists

  pub take_takes : Takes lengths (set (set lengths first 0) (first + length_) rest) first length_
  take_takes = let t = units_taken in let last = in_row in record {
    size = length-set (set lengths first 0) (first + length_) rest ∙ length-set lengths first 0;
    inside = omega arith;
    kept = t.kept;
    taken = t.taken;
    others = t.others;
  }

-- ---- a range is given back
module _ (lengths ends : List ℕ) (first length_ left behind whole : ℕ) (kept : AreKept lengths ends) (some : 0 < length_) (inside : first + length_ ≤ length lengths) (taken : AreTaken (λ u. get_or lengths u 0) first length_)
    (left_is : left ≡ get_or ends first 0) (behind_is : behind ≡ get_or lengths (first + length_) 0) (whole_is : whole ≡ left + length_ + behind) where
  pub joined_lists : IsJoined (λ u. get_or lengths u 0) (λ u. get_or (set (set lengths (first + length_) 0) (first - left) whole) u 0) first length_ left behind
  joined_lists =
      let size_now = length-set lengths (first + length_) 0 in
      record {
        gone = get_or-set_other (set lengths (first + length_) 0) (first - left) (first + length_) whole 0 (omega arith)
            ∙ ⊎_elim (λ less. get_or-set_same lengths (first + length_) 0 0 (omega arith)) (λ le. get_or_past (set lengths (first + length_) 0) (first + length_) 0 (omega arith)) (cases_lt (first + length_) (length lengths));
        whole = get_or-set_same (set lengths (first + length_) 0) (first - left) whole 0 (omega arith) ∙ whole_is;
        others = λ x p q. get_or-set_other (set lengths (first + length_) 0) (first - left) x whole 0 q ∙ get_or-set_other lengths (first + length_) x 0 0 p;
      }

  pub last_in_row : first + length_ + behind ≤ length lengths
  last_in_row = ⊎_elim (λ has. let h = kept.ranges.inside (first + length_) (omega arith) in omega (arith, h)) (λ none. omega arith) (cases_lt 0 behind)

  pub give_kept : AreKept (set (set lengths (first + length_) 0) (first - left) whole) (set (set ends first 0) (first + length_ + behind) whole)
  give_kept =
      let ends_size = kept.ends_size in
      let last = last_in_row in
      let ends_size_now = length-set ends first 0 in
      record {
        ranges = let now = length-set (set lengths (first + length_) 0) (first - left) whole ∙ length-set lengths (first + length_) 0 in
            let P : ℕ → Type 0 = λ n. AreRanges n (λ u. get_or (set (set lengths (first + length_) 0) (first - left) whole) u 0) in
            subst P (sym now) (joined_ranges (length lengths) (λ u. get_or lengths u 0) (λ e. get_or ends e 0) _ first length_ left behind kept.ranges kept.match some inside taken left_is behind_is joined_lists);
        match = joined_ends (length lengths) (λ u. get_or lengths u 0) (λ e. get_or ends e 0) _ first length_ left behind kept.ranges kept.match some inside taken left_is behind_is joined_lists (λ e. get_or (set (set ends first 0) (first + length_ + behind) whole) e 0)
            (get_or-set_other (set ends first 0) (first + length_ + behind) first whole 0 (omega arith) ∙ get_or-set_same ends first 0 0 (omega arith))
            (get_or-set_same (set ends first 0) (first + length_ + behind) whole 0 (omega arith) ∙ whole_is)
            (λ e p q. get_or-set_other (set ends first 0) (first + length_ + behind) e whole 0 q ∙ get_or-set_other ends first e 0 0 p);
        small = let now = length-set (set lengths (first + length_) 0) (first - left) whole ∙ length-set lengths (first + length_) 0 in let was = kept.small in omega (arith, now, was);
        ends_size = length-set (set ends first 0) (first + length_ + behind) whole ∙ length-set ends first 0 ∙ ends_size ∙ ap (λ k. k + 1) (sym (length-set (set lengths (first + length_) 0) (first - left) whole ∙ length-set lengths (first + length_) 0));
      }

  units_given : GivesUnits (λ u. get_or lengths u 0) (λ u. get_or (set (set lengths (first + length_) 0) (first - left) whole) u 0) first length_
  units_given = joined_gives (length lengths) (λ u. get_or lengths u 0) (λ e. get_or ends e 0) _ first length_ left behind kept.ranges kept.match some inside taken left_is behind_is joined_lists

  pub give_gives : Gives lengths (set (set lengths (first + length_) 0) (first - left) whole) first length_
  give_gives = let g = units_given in record {
    size = length-set (set lengths (first + length_) 0) (first - left) whole ∙ length-set lengths (first + length_) 0;
    given = g.given;
    kept = g.kept;
    others = g.others;
  }

-- ---- the same, of what the calls leave
pub new_kept : (n : ℕ) (lengths ends : List ℕ) → 1 ≤ n → n ≤ 2 ^ 30 → lengths ≡ set (replicate n 0) 0 n → ends ≡ replicate (n + 1) 0 → AreKept lengths (set ends n n)
new_kept n lengths ends some small e f =
    let P : List ℕ → Type 0 = λ l. AreKept l (set ends n n) in
    let Q : List ℕ → Type 0 = λ x. AreKept (set (replicate n 0) 0 n) (set x n n) in
    subst P (sym e) (subst Q (sym f) (all_kept n some small))

pub new_free : (n : ℕ) (lengths : List ℕ) → 1 ≤ n → n ≤ 2 ^ 30 → lengths ≡ set (replicate n 0) 0 n → AllFree n lengths
new_free n lengths some small e = subst (AllFree n) (sym e) (all_are_free n some small)

module _ (now lengths ends emptied after : List ℕ) (first length_ before : ℕ) (view : now ≡ lengths) (kept : AreKept lengths ends) (some : 0 < length_) (free : length_ ≤ get_or now first 0)
    (before_is : before ≡ get_or lengths first 0) (emptied_is : emptied ≡ set lengths first 0) (after_is : after ≡ set emptied (first + length_) (before - length_)) where
  free_there : length_ ≤ get_or lengths first 0
  free_there = let P : List ℕ → Type 0 = λ l. length_ ≤ get_or l first 0 in subst P view free

  rest_is : before - length_ ≡ get_or lengths first 0 - length_
  rest_is = ap (λ b. b - length_) before_is

  cut_is : after ≡ set (set lengths first 0) (first + length_) (before - length_)
  cut_is = after_is ∙ ap (λ l. set l (first + length_) (before - length_)) emptied_is

  pub take_in_row : first + before ≤ length lengths
  take_in_row = let h = in_row lengths ends first length_ (before - length_) kept some free_there rest_is in omega (arith, h, before_is)

  pub taken_kept : AreKept after (set ends (first + before) (before - length_))
  taken_kept =
      let P : List ℕ → Type 0 = λ l. AreKept l (set ends (first + before) (before - length_)) in
      let Q : ℕ → Type 0 = λ b. AreKept (set (set lengths first 0) (first + length_) (before - length_)) (set ends (first + b) (before - length_)) in
      subst P (sym cut_is) (subst Q (sym before_is) (take_kept lengths ends first length_ (before - length_) kept some free_there rest_is))

  pub taken_takes : Takes now after first length_
  taken_takes =
      let P : List ℕ → Type 0 = λ l. Takes now l first length_ in
      let Q : List ℕ → Type 0 = λ l. Takes l (set (set lengths first 0) (first + length_) (before - length_)) first length_ in
      subst P (sym cut_is) (subst Q (sym view) (take_takes lengths ends first length_ (before - length_) kept some free_there rest_is))

pub past_in_row : (now lengths : List ℕ) (first n : ℕ) → now ≡ lengths → first + n ≤ length now → first + n ≤ length lengths
past_in_row now lengths first n view inside = let P : List ℕ → Type 0 = λ l. first + n ≤ length l in subst P view inside

module _ (now lengths ends : List ℕ) (first length_ left behind : ℕ) (view : now ≡ lengths) (kept : AreKept lengths ends) (some : 0 < length_) (inside : first + length_ ≤ length now) (taken : AreTaken (λ u. get_or now u 0) first length_)
    (left_is : left ≡ get_or ends first 0) (behind_is : behind ≡ get_or lengths (first + length_) 0) where
  inside_there : first + length_ ≤ length lengths
  inside_there = past_in_row now lengths first length_ view inside

  taken_there : AreTaken (λ u. get_or lengths u 0) first length_
  taken_there = let P : List ℕ → Type 0 = λ l. AreTaken (λ u. get_or l u 0) first length_ in subst P view taken

  pub give_left : left ≤ first
  give_left = ⊎_elim (λ has. let h = (kept.match.back first (omega (arith, has, left_is))).0 in omega (arith, h, left_is)) (λ none. omega arith) (cases_lt 0 left)

  pub give_in_row : first + length_ + behind ≤ length lengths
  give_in_row = last_in_row lengths ends first length_ left behind (left + length_ + behind) kept some inside_there taken_there left_is behind_is refl

  module _ (emptied after : List ℕ) (emptied_is : emptied ≡ set lengths (first + length_) 0) (after_is : after ≡ set emptied (first - left) (left + length_ + behind)) where
    join_is : after ≡ set (set lengths (first + length_) 0) (first - left) (left + length_ + behind)
    join_is = after_is ∙ ap (λ l. set l (first - left) (left + length_ + behind)) emptied_is

    pub given_kept : AreKept after (set (set ends first 0) (first + length_ + behind) (left + length_ + behind))
    given_kept =
        let P : List ℕ → Type 0 = λ l. AreKept l (set (set ends first 0) (first + length_ + behind) (left + length_ + behind)) in
        subst P (sym join_is) (give_kept lengths ends first length_ left behind (left + length_ + behind) kept some inside_there taken_there left_is behind_is refl)

    pub given_gives : Gives now after first length_
    given_gives =
        let P : List ℕ → Type 0 = λ l. Gives now l first length_ in
        let Q : List ℕ → Type 0 = λ l. Gives l (set (set lengths (first + length_) 0) (first - left) (left + length_ + behind)) first length_ in
        subst P (sym join_is) (subst Q (sym view) (give_gives lengths ends first length_ left behind (left + length_ + behind) kept some inside_there taken_there left_is behind_is refl))

-- ---- a free range that is long enough begins where a length is not below it
module _ (lengths : List ℕ) (n : ℕ) (are : AreRanges (length lengths) (λ u. get_or lengths u 0)) (some : 0 < n) where
  fit_at : (u : ℕ) → n ≤ get_or lengths u 0 → IsFit (λ u. get_or lengths u 0) n (Some u)
  fit_at u enough = (λ k within. let a = within.from in let b = within.to in record { first = u; from = a; to = omega (arith, b, enough) }, enough)

  none_fits : ((u : ℕ) → u < length lengths → get_or lengths u 0 < n) → IsFit (λ u. get_or lengths u 0) n None
  none_fits short unit fits =
      let lies = fit_lies_in_one (length lengths) (λ u. get_or lengths u 0) are n unit some fits in
      let u = lies.0 in
      let from = lies.1 in
      let to = lies.2 in
      let inside = are.inside u (omega arith) in
      let less = short u (omega arith) in
      omega (arith, from, to, less)

  pub fit_found : (found : Option ℕ) → IsNotBelow lengths n found → IsFit (λ u. get_or lengths u 0) n found
  fit_found None h = none_fits h
  fit_found (Some u) h = fit_at u h.1

  pub first_found : (found : Option ℕ) → IsFirstNotBelow lengths n found → IsFirstFit (λ u. get_or lengths u 0) n found
  first_found None h = tt
  first_found (Some unit) h = λ before less fits.
      let lies = fit_lies_in_one (length lengths) (λ u. get_or lengths u 0) are n before some fits in
      let u = lies.0 in
      let from = lies.1 in
      let to = lies.2 in
      let short = h u (omega (arith, from, less)) in
      omega (arith, from, to, short)

-- only units of the row are free
pub all_inside : (lengths : List ℕ) → AreRanges (length lengths) (λ u. get_or lengths u 0) → AreInside lengths
all_inside lengths are k free = let from = free.from in let to = free.to in let h = are.inside free.first (omega arith) in omega (arith, to, h)
