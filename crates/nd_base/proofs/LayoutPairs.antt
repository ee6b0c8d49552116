-- Fields of one object that share a byte.
use Rattle.std.proofs.Common.{◌≡◌, ℕ, ◌+◌, ◌-◌, ◌<◌, true, false, ltb, ◌&&◌, List, get_or, Option, Some, None, refl, sym, ap, subst, ◌∙◌, inl, inr, ◌⊎◌, arith}
use Rattle.std.specs.Option.{is_some}
use Rattle.std.proofs.lemmas.Bool.{cases_lt, cases_order, and_parts, and_from, ltb-true, lt-ltb, agree_below, agree_below_at}
use Rattle.nd_base.specs.declared.layout_field.Object.{Object}
use Rattle.nd_base.specs.declared.layout_field.Object.TheVariants.{Packet, OutOfBand, Buffer, Block}
use Rattle.nd_base.specs.declared.layout.LayoutRefusal.TheVariants.{Overlap}
use Rattle.nd_base.specs.Layout.{row, rows}
use Rattle.nd_base.specs.LayoutFile.{ShareAByte, AreApart, IsFirstPair}
use Rattle.nd_base.specs.LayoutReading.{same_object, share, shared_with, first_shared, overlap_of, pair_of}
use Rattle.nd_base.proofs.FirstFrom.{first_found, first_before, first_none}

same_is : (a b : Object) → same_object a b ≡ true → a ≡ b
same_is Packet Packet h = refl
same_is OutOfBand OutOfBand h = refl
same_is Buffer Buffer h = refl
same_is Block Block h = refl
same_is a b h = absurd cc

same_self : (a : Object) → same_object a a ≡ true
same_self Packet = refl
same_self OutOfBand = refl
same_self Buffer = refl
same_self Block = refl

all_wide : agree_below (λ i. ltb 0 (row i).width) (λ i. true) 31 ≡ true
unfolding row rows
all_wide = refl

wide : (i : ℕ) → i < 31 → 0 < (row i).width
wide i lt = ltb-true 0 (row i).width (agree_below_at (λ k. ltb 0 (row k).width) (λ k. true) 31 i all_wide lt)

shared_byte : (o : List ℕ) (i j : ℕ) → i < 31 → j < 31 → share o i j ≡ true → ShareAByte o i j
shared_byte o i j small_i small_j h =
    let p = and_parts (same_object (row i).object (row j).object) (ltb (get_or o i 0) (get_or o j 0 + (row j).width) && ltb (get_or o j 0) (get_or o i 0 + (row i).width)) h in
    let q = and_parts (ltb (get_or o i 0) (get_or o j 0 + (row j).width)) (ltb (get_or o j 0) (get_or o i 0 + (row i).width)) p.1 in
    let a = ltb-true (get_or o i 0) (get_or o j 0 + (row j).width) q.0 in
    let b = ltb-true (get_or o j 0) (get_or o i 0 + (row i).width) q.1 in
    let wide_i = wide i small_i in
    let wide_j = wide j small_j in (
      same_is (row i).object (row j).object p.0,
      elim (cases_lt (get_or o i 0) (get_or o j 0)) [
        | inl less ↦ (get_or o j 0, (omega arith, b), (omega arith, omega arith))
        | inr more ↦ (get_or o i 0, (omega arith, omega arith), (more, a))
      ],
    )

byte_shared : (o : List ℕ) (i j : ℕ) → ShareAByte o i j → share o i j ≡ true
byte_shared o i j (object, (b, of_i, of_j)) =
    let i_low = of_i.0 in
    let i_high = of_i.1 in
    let j_low = of_j.0 in
    let j_high = of_j.1 in
    and_from (same_object (row i).object (row j).object) (ltb (get_or o i 0) (get_or o j 0 + (row j).width) && ltb (get_or o j 0) (get_or o i 0 + (row i).width))
    (subst (λ (x : Object). same_object (row i).object x ≡ true) object (same_self (row i).object))
    (and_from (ltb (get_or o i 0) (get_or o j 0 + (row j).width)) (ltb (get_or o j 0) (get_or o i 0 + (row i).width)) (lt-ltb (get_or o i 0) (get_or o j 0 + (row j).width) (omega arith)) (lt-ltb (get_or o j 0) (get_or o i 0 + (row i).width) (omega arith)))

not_shared : (o : List ℕ) (i j : ℕ) → share o i j ≡ false → ShareAByte o i j → ⊥
not_shared o i j off h = let on = byte_shared o i j h in let e : true ≡ false = sym on ∙ off in absurd cc

none_is : (o : Option ℕ) → is_some o ≡ false → o ≡ None
none_is None h = refl
none_is (Some x) h = absurd cc

-- the field at place i shares no byte with one behind it
alone : (o : List ℕ) (i : ℕ) → i < 31 → is_some (shared_with o i) ≡ false → (j : ℕ) → i < j → j < 31 → ShareAByte o i j → ⊥
unfolding shared_with
alone o i small h j lt below = not_shared o i j (first_none (λ k. share o i k) (i + 1) (31 - (i + 1)) (none_is (shared_with o i) h) j (omega arith) (omega arith))

pub apart : (o : List ℕ) → first_shared o ≡ None → AreApart o
unfolding first_shared
apart o h i j lt below = alone o i (omega arith) (first_none (λ k. is_some (shared_with o k)) 0 31 h i (omega arith) (omega arith)) j lt below

pair : (o : List ℕ) (i j : ℕ) → first_shared o ≡ Some i → shared_with o i ≡ Some j → IsFirstPair o i j
unfolding first_shared shared_with
pair o i j h k =
    let p = first_found (λ a. is_some (shared_with o a)) 0 31 i h in
    let q = first_found (λ b. share o i b) (i + 1) (31 - (i + 1)) j k in
    let small_i : i < 31 = p.1 in
    let lt : i < j = omega (arith, q.0) in
    let small_j : j < 31 = omega (arith, q.1, small_i) in
    record {
      ordered = lt;
      small = small_j;
      shared = shared_byte o i j small_i small_j q.2;
      first = λ a b less below shared. elim (cases_order i a) [
        | inl same ↦ elim (cases_lt b j) [
          | inl before ↦ absurd (not_shared o i b (first_before (λ x. share o i x) (i + 1) (31 - (i + 1)) j k b (omega arith) before) (subst (λ (x : ℕ). ShareAByte o x b) (sym same) shared))
          | inr more ↦ inr (same, more)
        ]
        | inr (inl before) ↦ inl before
        | inr (inr behind) ↦ absurd (alone o a (omega arith) (first_before (λ x. is_some (shared_with o x)) 0 31 i h a (omega arith) behind) b less below shared)
      ];
    }

-- the first pair, where there is one
pub record FoundPair (o : List ℕ) : Type 0 where
  pub first : ℕ
  pub second : ℕ
  pub is_first : IsFirstPair o first second
  pub found : overlap_of o (first_shared o) ≡ Some (Overlap (row first).field (row second).field)

pub record NoPair (o : List ℕ) : Type 0 where
  pub apart : AreApart o
  pub none : overlap_of o (first_shared o) ≡ None

by_second : (o : List ℕ) (i : ℕ) (x : Option ℕ) → first_shared o ≡ Some i → shared_with o i ≡ x → FoundPair o
unfolding first_shared
by_second o i None h k =
    let p = first_found (λ a. is_some (shared_with o a)) 0 31 i h in
    let e : false ≡ true = sym (ap is_some k) ∙ p.2 in absurd cc
by_second o i (Some j) h k = record { first = i; second = j; is_first = pair o i j h k; found = ap (overlap_of o) h ∙ ap (pair_of i) k }

by_first : (o : List ℕ) (x : Option ℕ) → first_shared o ≡ x → NoPair o ⊎ FoundPair o
by_first o None h = inl (record { apart = apart o h; none = ap (overlap_of o) h })
by_first o (Some i) h = inr (by_second o i (shared_with o i) h refl)

pub overlaps : (o : List ℕ) → NoPair o ⊎ FoundPair o
overlaps o = by_first o (first_shared o) refl

pub one_pair : (o : List ℕ) (i j a b : ℕ) → IsFirstPair o i j → IsFirstPair o a b → (i ≡ a) × (j ≡ b)
one_pair o i j a b p q = elim (p.first a b q.ordered q.small q.shared) [
  | inl less ↦ elim (q.first i j p.ordered p.small p.shared) [
    | inl more ↦ absurd (omega arith)
    | inr (same, le) ↦ absurd (omega arith)
  ]
  | inr (same, le) ↦ elim (q.first i j p.ordered p.small p.shared) [
    | inl more ↦ absurd (omega arith)
    | inr (also, ge) ↦ (same, omega arith)
  ]
]

pub no_pair : (o : List ℕ) (i j : ℕ) → AreApart o → IsFirstPair o i j → ⊥
no_pair o i j none p = none i j p.ordered p.small p.shared
