-- What taking and giving back a range leaves of the free ranges.
use Rattle.std.proofs.Common.{◌≡◌, ◌≢◌, ℕ, ◌+◌, ◌-◌, ◌<◌, ◌≤◌, ◌⊎◌, inl, inr, sym, ap, ◌∙◌, ⊎_elim, arith}
use Rattle.std.proofs.lemmas.Bool.{cases_lt}
use Rattle.free_ranges.specs.Ranges.{Lengths, AreRanges, EndsMatch, IsFree, IsWithin, Fits, AreTaken}

-- what `Takes` says of the free units
pub record TakesUnits (before after : Lengths) (first length : ℕ) : Type 0 where
  pub kept : (k : ℕ) → IsFree after k → IsFree before k
  pub taken : (k : ℕ) → IsFree after k → IsWithin first length k → ⊥
  pub others : (k : ℕ) → IsFree before k → IsWithin first length k ⊎ IsFree after k

-- what `Gives` says of the free units
pub record GivesUnits (before after : Lengths) (first length : ℕ) : Type 0 where
  pub given : (k : ℕ) → IsWithin first length k → IsFree after k
  pub kept : (k : ℕ) → IsFree before k → IsFree after k
  pub others : (k : ℕ) → IsFree after k → IsWithin first length k ⊎ IsFree before k

-- two numbers are equal, or one is below the other
pub order : (x y : ℕ) → (x < y) ⊎ ((x ≡ y) ⊎ (y < x))
order x y = ⊎_elim (λ less. inl less) (λ le. ⊎_elim (λ less. inr (inr less)) (λ ge. let e : x ≡ y = omega arith in inr (inl e)) (cases_lt y x)) (cases_lt x y)

-- ---- two ranges that share a unit are one
module _ (units : ℕ) (lengths : Lengths) (are : AreRanges units lengths) where
  pub one_range : (u v k : ℕ) → u ≤ k → k < u + lengths u → v ≤ k → k < v + lengths v → u ≡ v
  one_range u v k a b c d =
      ⊎_elim (λ less. let h = are.apart u v less (omega arith) (omega arith) in absurd (omega (arith, h)))
      (λ r. ⊎_elim (λ e. e) (λ less. let h = are.apart v u less (omega arith) (omega arith) in absurd (omega (arith, h))) r) (order u v)

  -- the unit behind a free range is not free
  pub past_is_taken : (u : ℕ) → 0 < lengths u → IsFree lengths (u + lengths u) → ⊥
  past_is_taken u some free =
      let v = free.first in
      let from = free.from in
      let to = free.to in
      ⊎_elim (λ less. let h = are.apart u v less some (omega arith) in absurd (omega (arith, h)))
      (λ r. ⊎_elim (λ e. let same : lengths u ≡ lengths v = ap lengths e in absurd (omega arith)) (λ less. let h = are.apart v u less (omega arith) some in absurd (omega (arith, h))) r) (order u v)

  -- free units in a row lie in one free range
  pub fit_lies_in_one : (n unit : ℕ) → 0 < n → Fits lengths n unit → (u : ℕ) × (u ≤ unit) × (unit + n ≤ u + lengths u)
  fit_lies_in_one n unit some fits =
      let here = fits unit (record { from = omega arith; to = omega arith }) in
      let u = here.first in
      let from = here.from in
      let to = here.to in
      (u, from, ⊎_elim (λ less. absurd (past_is_taken u (omega arith) (fits (u + lengths u) (record { from = omega arith; to = omega arith })))) (λ le. le) (cases_lt (u + lengths u) (unit + n)))

-- ---- a range is taken: what stood at its first unit is gone, the rest stands behind it
pub record IsCut (before after : Lengths) (first length : ℕ) : Type 0 where
  pub gone : after first ≡ 0
  pub rest : after (first + length) ≡ before first - length
  pub others : (x : ℕ) → x ≢ first → x ≢ first + length → after x ≡ before x

module _ (units : ℕ) (before after : Lengths) (first length : ℕ) (are : AreRanges units before) (some : 0 < length) (free : length ≤ before first) (cut : IsCut before after first length) where
  -- a range that stands after the cut is the rest, or it stood before it
  pub after_cut : (u : ℕ) → 0 < after u → ((u ≡ first + length) × (after u ≡ before first - length)) ⊎ ((after u ≡ before u) × (u ≢ first) × (u ≢ first + length))
  after_cut u has =
      ⊎_elim (λ less. old u has (omega arith) (omega arith))
      (λ r. ⊎_elim (λ e. let none : after u ≡ 0 = ap after e ∙ cut.gone in absurd (omega arith))
      (λ more. ⊎_elim (λ less. old u has (omega arith) (omega arith))
      (λ s. ⊎_elim (λ e. inl (e, ap after e ∙ cut.rest)) (λ more. old u has (omega arith) (omega arith)) s) (order u (first + length))) r) (order u first)
    where
      old : (u : ℕ) → 0 < after u → u ≢ first → u ≢ first + length → ((u ≡ first + length) × (after u ≡ before first - length)) ⊎ ((after u ≡ before u) × (u ≢ first) × (u ≢ first + length))
      old u has p q = inr (cut.others u p q, p, q)

  -- a range that stood elsewhere stands still, in front of the cut or behind all of it
  pub elsewhere : (u : ℕ) → 0 < before u → u ≢ first → (after u ≡ before u) × ((u + before u < first) ⊎ (first + before first < u))
  elsewhere u has not =
      ⊎_elim (λ less. let h = are.apart u first less has (omega arith) in (cut.others u not (omega (arith, h)), inl h))
      (λ r. ⊎_elim (λ e. absurd (not e)) (λ more. let h = are.apart first u more (omega arith) has in (cut.others u not (omega (arith, h)), inr h)) r) (order u first)

  pub cut_ranges : AreRanges units after
  cut_ranges = record {
    inside = λ u has. ⊎_elim (λ h. let e = h.0 in let is = h.1 in let in_row = are.inside first (omega arith) in omega (arith, e, is, in_row))
        (λ h. let is = h.0 in let in_row = are.inside u (omega (arith, is)) in omega (arith, is, in_row)) (after_cut u has);
    apart = λ u v less p q. ⊎_elim
        (λ h. ⊎_elim (λ i. let e = h.0 in let f = i.0 in absurd (omega (arith, e, f)))
        (λ i. let e = h.0 in let is = h.1 in let same = i.0 in let far = are.apart first v (omega (arith, e)) (omega arith) (omega (arith, same)) in omega (arith, e, is, far)) (after_cut v q))
        (λ h. ⊎_elim (λ i. let same = h.0 in let e = i.0 in let is = i.1 in rest_behind u v less (omega (arith, same)) h.1 e same)
        (λ i. let same = h.0 in let is = i.0 in let far = are.apart u v less (omega (arith, same)) (omega (arith, is)) in omega (arith, same, far)) (after_cut v q)) (after_cut u p);
  }
    where
      rest_behind : (u v : ℕ) → u < v → 0 < before u → u ≢ first → v ≡ first + length → after u ≡ before u → u + after u < v
      rest_behind u v less has not e same = ⊎_elim (λ h. omega (arith, same, e, h)) (λ h. absurd (omega (arith, e, h, less))) (elsewhere u has not).1

  pub cut_takes : TakesUnits before after first length
  cut_takes = record {
    kept = λ k now. let u = now.first in let from = now.from in let to = now.to in
        ⊎_elim (λ h. let e = h.0 in let is = h.1 in record { first = first; from = omega (arith, e, from); to = omega (arith, e, is, from, to) })
        (λ h. let same = h.0 in record { first = u; from = from; to = omega (arith, same, to) }) (after_cut u (omega (arith, from, to)));
    taken = λ k now within. let u = now.first in let from = now.from in let to = now.to in let a = within.from in let b = within.to in
        ⊎_elim (λ h. let e = h.0 in omega (arith, e, from, b))
        (λ h. let same = h.0 in h.1 (sym (one_range units before are first u k a (omega arith) from (omega (arith, same, to))))) (after_cut u (omega (arith, from, to)));
    others = λ k was. let u = was.first in let from = was.from in let to = was.to in
        ⊎_elim (λ less. old u k from to (omega arith))
        (λ r. ⊎_elim (λ e. in_cut u k e from to) (λ more. old u k from to (omega arith)) r) (order u first);
  }
    where
      old : (u k : ℕ) → u ≤ k → k < u + before u → u ≢ first → IsWithin first length k ⊎ IsFree after k
      old u k from to not = let same = (elsewhere u (omega arith) not).0 in inr (record { first = u; from = from; to = omega (arith, same) })

      in_cut : (u k : ℕ) → u ≡ first → u ≤ k → k < u + before u → IsWithin first length k ⊎ IsFree after k
      in_cut u k e from to = let same : before u ≡ before first = ap before e in let rest = cut.rest in
          ⊎_elim (λ less. inl (record { from = omega arith; to = less })) (λ le. inr (record { first = first + length; from = le; to = omega arith })) (cases_lt k (first + length))

  -- the ends: the whole range ended where the rest ends
  pub cut_ends : (ends new : Lengths) → EndsMatch before ends → new (first + before first) ≡ before first - length → ((e : ℕ) → e ≢ first + before first → new e ≡ ends e) → EndsMatch after new
  cut_ends ends new match at others = record {
    back = λ e has. ⊎_elim (λ less. elsewhere_back e has (omega arith)) (λ r. ⊎_elim (λ same. here_back e has same) (λ more. elsewhere_back e has (omega arith)) r) (order e (first + before first));
    forth = λ u has. ⊎_elim (λ h. let e = h.0 in let is = h.1 in let past : u + after u ≡ first + before first = omega (arith, e, is) in ap new past ∙ at ∙ sym is)
        (λ h. let same = h.0 in let has_old : 0 < before u = omega (arith, same) in
        let apart_ends = λ (e : u + before u ≡ first + before first). h.1 (sym (one_range units before are first u (first + before first - 1) (omega arith) (omega arith) (omega arith) (omega arith))) in
        ap (λ n. new (u + n)) same ∙ others (u + before u) apart_ends ∙ match.forth u has_old ∙ sym same) (after_cut u has);
  }
    where
      here_back : (e : ℕ) → 0 < new e → e ≡ first + before first → (new e ≤ e) × (after (e - new e) ≡ new e)
      here_back e has same =
          let is : new e ≡ before first - length = ap new same ∙ at in
          let from : e - new e ≡ first + length = omega arith in
          (omega arith, ap after from ∙ cut.rest ∙ sym is)

      elsewhere_back : (e : ℕ) → 0 < new e → e ≢ first + before first → (new e ≤ e) × (after (e - new e) ≡ new e)
      elsewhere_back e has not =
          let is : new e ≡ ends e = others e not in
          let back = match.back e (omega arith) in
          let in_row : ends e ≤ e = back.0 in
          let u : ℕ = e - ends e in
          let length_there : before (e - ends e) ≡ ends e = back.1 in
          let not_first : e - ends e ≢ first = λ (same : e - ends e ≡ first). let f : ends e ≡ before first = sym length_there ∙ ap before same in not (omega arith) in
          let now = (elsewhere (e - ends e) (omega arith) not_first).0 in
          (omega arith, ap (λ n. after (e - n)) is ∙ now ∙ length_there ∙ sym is)

-- ---- a range is given back: it is joined with the free range in front of it and the one behind it
pub record IsJoined (before after : Lengths) (first length left behind : ℕ) : Type 0 where
  pub gone : after (first + length) ≡ 0
  pub whole : after (first - left) ≡ left + length + behind
  pub others : (x : ℕ) → x ≢ first + length → x ≢ first - left → after x ≡ before x

module _ (units : ℕ) (before ends after : Lengths) (first length left behind : ℕ) (are : AreRanges units before) (match : EndsMatch before ends) (some : 0 < length) (in_row : first + length ≤ units) (taken : AreTaken before first length)
    (left_is : left ≡ ends first) (behind_is : behind ≡ before (first + length)) (joined : IsJoined before after first length left behind) where
  pub left_in_row : left ≤ first
  left_in_row = ⊎_elim (λ has. let h = (match.back first (omega (arith, has))).0 in omega (arith, h)) (λ none. omega arith) (cases_lt 0 left)

  left_there : 0 < left → before (first - left) ≡ left
  left_there has = let h = (match.back first (omega (arith, has))).1 in ap (λ n. before (first - n)) left_is ∙ h ∙ sym left_is

  not_free : (u k : ℕ) → first ≤ k → k < first + length → u ≤ k → k < u + before u → ⊥
  not_free u k a b from to = taken k (record { from = a; to = b }) (record { first = u; from = from; to = to })

  abbrev InFront : ℕ → Type 0
  InFront u = u + before u < first - left

  abbrev Behind : ℕ → Type 0
  Behind u = first + length + behind < u

  -- a free range is the one in front of what is given, one further in front, the one behind it, or one further behind
  position : (u : ℕ) → 0 < before u → ((u ≡ first - left) × (before u ≡ left)) ⊎ (InFront u ⊎ ((u ≡ first + length) ⊎ Behind u))
  position u has = ⊎_elim (λ less. front u has less)
      (λ r. ⊎_elim (λ e. absurd (not_free u first (omega arith) (omega arith) (omega arith) (omega arith))) (λ more. back u has more) r) (order u first)
    where
      further : (u : ℕ) → 0 < before u → u < first → u + before u < first → 0 < left → InFront u
      further u has less short has_left =
          let there = left_there has_left in
          let in_front = left_in_row in
          ⊎_elim (λ lower. let h = are.apart u (first - left) lower has (omega (arith, there)) in h)
          (λ r. ⊎_elim (λ e. let same : before u ≡ left = ap before e ∙ there in absurd (omega arith))
          (λ higher. let h = are.apart (first - left) u higher (omega (arith, there)) has in absurd (omega (arith, there, h, in_front))) r) (order u (first - left))

      front : (u : ℕ) → 0 < before u → u < first → ((u ≡ first - left) × (before u ≡ left)) ⊎ (InFront u ⊎ ((u ≡ first + length) ⊎ Behind u))
      front u has less = ⊎_elim (λ short. inr (inl (⊎_elim (λ has_left. further u has less short has_left) (λ none. omega arith) (cases_lt 0 left))))
          (λ r. ⊎_elim (λ e. let same : before u ≡ left = sym (match.forth u has) ∙ ap ends e ∙ sym left_is in inl (omega arith, same))
          (λ long. absurd (not_free u first (omega arith) (omega arith) (omega arith) long)) r) (order (u + before u) first)

      back : (u : ℕ) → 0 < before u → first < u → ((u ≡ first - left) × (before u ≡ left)) ⊎ (InFront u ⊎ ((u ≡ first + length) ⊎ Behind u))
      back u has more = ⊎_elim (λ lower. absurd (not_free u u (omega arith) lower (omega arith) (omega arith)))
          (λ r. ⊎_elim (λ e. inr (inr (inl e))) (λ higher. inr (inr (inr (⊎_elim (λ has_behind. let h = are.apart (first + length) u higher (omega arith) has in omega (arith, h)) (λ none. omega arith) (cases_lt 0 behind))))) r) (order u (first + length))

  stands : (u : ℕ) → InFront u ⊎ Behind u → after u ≡ before u
  stands u where_ = let in_front = left_in_row in ⊎_elim (λ h. joined.others u (omega arith) (omega arith)) (λ h. joined.others u (omega arith) (omega arith)) where_

  -- a range that stands afterwards is the whole, or it stood before, further in front or further behind
  after_join : (u : ℕ) → 0 < after u → ((u ≡ first - left) × (after u ≡ left + length + behind)) ⊎ ((after u ≡ before u) × (InFront u ⊎ Behind u))
  after_join u has = ⊎_elim (λ less. not_past u has (omega arith)) (λ r. ⊎_elim (λ e. let none : after u ≡ 0 = ap after e ∙ joined.gone in absurd (omega arith)) (λ more. not_past u has (omega arith)) r) (order u (first + length))
    where
      old : (u : ℕ) → 0 < after u → u ≢ first + length → u ≢ first - left → ((u ≡ first - left) × (after u ≡ left + length + behind)) ⊎ ((after u ≡ before u) × (InFront u ⊎ Behind u))
      old u has p q = let same = joined.others u p q in
          ⊎_elim (λ h. absurd (q h.0)) (λ r. ⊎_elim (λ h. inr (same, inl h)) (λ s. ⊎_elim (λ h. absurd (p h)) (λ h. inr (same, inr h)) s) r) (position u (omega (arith, same)))

      not_past : (u : ℕ) → 0 < after u → u ≢ first + length → ((u ≡ first - left) × (after u ≡ left + length + behind)) ⊎ ((after u ≡ before u) × (InFront u ⊎ Behind u))
      not_past u has p = ⊎_elim (λ less. old u has p (omega arith)) (λ r. ⊎_elim (λ e. inl (e, ap after e ∙ joined.whole)) (λ more. old u has p (omega arith)) r) (order u (first - left))

  past_in_row : first + length + behind ≤ units
  past_in_row = ⊎_elim (λ has. let h = are.inside (first + length) (omega arith) in omega (arith, h)) (λ none. omega arith) (cases_lt 0 behind)

  pub joined_ranges : AreRanges units after
  joined_ranges = record {
    inside = λ u has. let in_front = left_in_row in let last = past_in_row in ⊎_elim (λ h. let e = h.0 in let is = h.1 in omega (arith, e, is, last, in_front))
        (λ h. let same = h.0 in let old = are.inside u (omega (arith, same)) in omega (arith, same, old)) (after_join u has);
    apart = λ u v less p q. let in_front = left_in_row in ⊎_elim
        (λ h. ⊎_elim (λ i. let e = h.0 in let f = i.0 in absurd (omega (arith, e, f)))
        (λ i. let e = h.0 in let is = h.1 in ⊎_elim (λ a. absurd (omega (arith, e, a))) (λ b. omega (arith, e, is, b, in_front)) i.1) (after_join v q))
        (λ h. let same = h.0 in ⊎_elim (λ i. let e = i.0 in ⊎_elim (λ a. omega (arith, same, e, a)) (λ b. absurd (omega (arith, e, b, in_front))) h.1)
        (λ i. let also = i.0 in let far = are.apart u v less (omega (arith, same)) (omega (arith, also)) in omega (arith, same, far)) (after_join v q)) (after_join u p);
  }

  pub joined_gives : GivesUnits before after first length
  joined_gives = record {
    given = λ k within. let a = within.from in let b = within.to in in_whole k (omega (arith, a)) (omega (arith, b));
    kept = λ k was. let u = was.first in let from = was.from in let to = was.to in let in_front = left_in_row in
        ⊎_elim (λ h. let e = h.0 in let is = h.1 in in_whole k (omega (arith, e, from)) (omega (arith, e, is, to, in_front)))
        (λ r. ⊎_elim (λ h. let same = stands u (inl h) in record { first = u; from = from; to = omega (arith, same, to) })
        (λ s. ⊎_elim (λ e. let is : before u ≡ before (first + length) = ap before e in in_whole k (omega (arith, e, from)) (omega (arith, e, is, to)))
        (λ h. let same = stands u (inr h) in record { first = u; from = from; to = omega (arith, same, to) }) s) r) (position u (omega (arith, from, to)));
    others = λ k now. let u = now.first in let from = now.from in let to = now.to in let in_front = left_in_row in
        ⊎_elim (λ h. let e = h.0 in let is = h.1 in from_whole k (omega (arith, e, from)) (omega (arith, e, is, to, in_front)))
        (λ h. let same = h.0 in inr (record { first = u; from = from; to = omega (arith, same, to) })) (after_join u (omega (arith, from, to)));
  }
    where
      in_whole : (k : ℕ) → first - left ≤ k → k < first + length + behind → IsFree after k
      in_whole k a b = let in_front = left_in_row in let whole = joined.whole in record { first = first - left; from = a; to = omega (arith, whole, in_front) }

      from_whole : (k : ℕ) → first - left ≤ k → k < first + length + behind → IsWithin first length k ⊎ IsFree before k
      from_whole k a b = ⊎_elim (λ less. let there = left_there (omega arith) in let in_front = left_in_row in inr (record { first = first - left; from = a; to = omega (arith, there) }))
          (λ le. ⊎_elim (λ less. inl (record { from = le; to = less })) (λ more. inr (record { first = first + length; from = more; to = omega arith })) (cases_lt k (first + length))) (cases_lt k first)

  pub joined_ends : (new : Lengths) → new first ≡ 0 → new (first + length + behind) ≡ left + length + behind → ((e : ℕ) → e ≢ first → e ≢ first + length + behind → new e ≡ ends e) → EndsMatch after new
  joined_ends new none at others = record {
    back = λ e has. ⊎_elim (λ less. not_here e has (omega arith)) (λ r. ⊎_elim (λ same. here e same) (λ more. not_here e has (omega arith)) r) (order e (first + length + behind));
    forth = λ u has. let in_front = left_in_row in ⊎_elim (λ h. let e = h.0 in let is = h.1 in let past : u + after u ≡ first + length + behind = omega (arith, e, is, in_front) in ap new past ∙ at ∙ sym is)
        (λ h. let same = h.0 in let old : 0 < before u = omega (arith, same) in ap (λ n. new (u + n)) same ∙ elsewhere_end u h.1 ∙ match.forth u old ∙ sym same) (after_join u has);
  }
    where
      elsewhere_end : (u : ℕ) → InFront u ⊎ Behind u → new (u + before u) ≡ ends (u + before u)
      elsewhere_end u place = let in_front = left_in_row in ⊎_elim (λ h. others (u + before u) (omega arith) (omega arith)) (λ h. others (u + before u) (omega arith) (omega arith)) place

      here : (e : ℕ) → e ≡ first + length + behind → (new e ≤ e) × (after (e - new e) ≡ new e)
      here e same =
          let in_front = left_in_row in
          let is : new e ≡ left + length + behind = ap new same ∙ at in
          let from : e - new e ≡ first - left = omega arith in
          (omega arith, ap after from ∙ joined.whole ∙ sym is)

      old : (e : ℕ) → 0 < ends e → e ≢ first → e ≢ first + length + behind → (ends e ≤ e) × (after (e - ends e) ≡ ends e)
      old e has p q =
          let in_front = left_in_row in
          let inside : ends e ≤ e = (match.back e has).0 in
          let there : before (e - ends e) ≡ ends e = (match.back e has).1 in (
            inside,
            ⊎_elim (λ h. let f = h.0 in let is = h.1 in absurd (p (omega (arith, f, is, there, inside, in_front))))
                (λ r. ⊎_elim (λ h. stands (e - ends e) (inl h) ∙ there)
                (λ s. ⊎_elim (λ f. let is : ends e ≡ behind = sym there ∙ ap before f ∙ sym behind_is in absurd (q (omega (arith, f, is, inside)))) (λ h. stands (e - ends e) (inr h) ∙ there) s) r) (position (e - ends e) (omega (arith, there))),
          )

      not_here : (e : ℕ) → 0 < new e → e ≢ first + length + behind → (new e ≤ e) × (after (e - new e) ≡ new e)
      not_here e has q = ⊎_elim (λ less. moved e has (omega arith) q) (λ r. ⊎_elim (λ same. let zero_there : new e ≡ 0 = ap new same ∙ none in absurd (omega arith)) (λ more. moved e has (omega arith) q) r) (order e first)
        where
          moved : (e : ℕ) → 0 < new e → e ≢ first → e ≢ first + length + behind → (new e ≤ e) × (after (e - new e) ≡ new e)
          moved e has p q =
              let is : new e ≡ ends e = others e p q in
              let h = old e (omega arith) p q in
              let inside = h.0 in
              (omega (arith, inside), ap (λ n. after (e - n)) is ∙ h.1 ∙ sym is)
