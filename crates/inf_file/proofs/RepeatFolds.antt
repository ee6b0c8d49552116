-- What is gathered over sections stays the same where they are read in the order of their first mentions, and then of their last.
use Rattle.std.proofs.Common.{inl, inr, ◌≡◌, ℕ, true, false, nat_eq, eqb, List, [], ◌∷◌, ◌++◌, length, reverse, refl, sym, ap, ◌∙◌, subst, ◌≤◌, Bool, ltb, Option, None, Some, arith, true≢false}
use Rattle.std.specs.List.{fold, flat_map, list_any, AllByRecursion}
use Rattle.std.proofs.lemmas.Bool.{cases_Bool, eqb-true}
use Rattle.std.proofs.lemmas.List.{reverse-append}
use Rattle.std.proofs.lemmas.List.Sums.{fold-append}
use Rattle.indexmap.specs.IndexSet.{insert_key, insert_all}
use Rattle.inf_file.specs.Repeats.{once, thinned}
use Rattle.inf_file.proofs.ListLemmas.{fold-flat}
use Rattle.std.proofs.lemmas.Bool.Decides.{nat_tests}
use Rattle.inf_text.specs.Sections.{Line}
use Rattle.inf_file.specs.Earliest.{earlier, earlier_if}
use Rattle.inf_file.specs.Rows.{with_default}
use Rattle.inf_file.specs.declared.param.Param.{Param}
use Rattle.inf_text.specs.Names.{is_same, same_laws}

-- ---- what is gathered over sections stays the same where they are read in the order of their first mentions, and then of their last

reverse_twice : {A : Type 0} (xs : List A) → reverse (reverse xs) ≡ xs
reverse_twice [] = refl
reverse_twice (x ∷ xs) = ap reverse (reverse-append (x ∷ []) xs) ∙ reverse-append (reverse xs) (x ∷ []) ∙ ap (λ ys. x ∷ ys) (reverse_twice xs)

-- where an item that was taken once changes nothing any more
module _ {A B : Type 0} (g : B → A → B) (again : (b : B) (x : A) → g (g b x) x ≡ g b x) (still : (b : B) (x y : A) → g b x ≡ b → g (g b y) x ≡ g b y) where
  abbrev Settled : B → List A → Type 0
  Settled b xs = AllByRecursion (λ x. g b x ≡ b) xs

  no_change : (xs : List A) (b : B) → Settled b xs → fold g b xs ≡ b
  no_change [] b h = refl
  no_change (x ∷ xs) b h = ap (λ (c : B). fold g c xs) h.0 ∙ no_change xs b h.1

  settled_step : (xs : List A) (b : B) (y : A) → Settled b xs → Settled (g b y) xs
  settled_step [] b y h = tt
  settled_step (x ∷ xs) b y h = (still b x y h.0, settled_step xs b y h.1)

  settled_on : (xs ys : List A) (b : B) → Settled b xs → Settled (fold g b ys) xs
  settled_on xs [] b h = h
  settled_on xs (y ∷ ys) b h = settled_on xs ys (g b y) (settled_step xs b y h)

  settled : (xs : List A) (b : B) → Settled (fold g b xs) xs
  settled [] b = tt
  settled (x ∷ xs) b = ((settled_on (x ∷ []) xs (g b x) (again b x, tt)).0, settled xs (g b x))

  module _ (at : ℕ → List A) where
    abbrev read : B → List ℕ → B
    read b ps = fold (λ c p. fold g c (at p)) b ps

    abbrev Read : B → List ℕ → Type 0
    Read b ps = AllByRecursion (λ p. Settled b (at p)) ps

    read_on : (ps : List ℕ) (xs : List A) (b : B) → Settled b xs → Settled (read b ps) xs
    read_on [] xs b h = h
    read_on (p ∷ ps) xs b h = read_on ps xs (fold g b (at p)) (settled_on xs (at p) b h)

    all_read : (ps : List ℕ) (b : B) → Read (read b ps) ps
    all_read [] b = tt
    all_read (p ∷ ps) b = (read_on ps (at p) (fold g b (at p)) (settled (at p) b), all_read ps (fold g b (at p)))

    read_at : (ps : List ℕ) (b : B) (p : ℕ) → Read b ps → list_any (nat_eq p) ps ≡ true → Settled b (at p)
    read_at [] b p h on = absurd cc
    read_at (q ∷ qs) b p h on = elim (cases_Bool (nat_eq p q)) [
      | inl same ↦ subst (λ (r : ℕ). Settled b (at r)) (sym (eqb-true p q same)) h.0
      | inr off ↦ let more = rw off at on in read_at qs b p h.1 more
    ]

    nothing_new : (ps : List ℕ) (b : B) → Read b ps → read b ps ≡ b
    nothing_new [] b h = refl
    nothing_new (p ∷ ps) b h = ap (λ (c : B). read c ps) (no_change (at p) b h.0) ∙ nothing_new ps b h.1

    one_more : (ks : List ℕ) (p : ℕ) (b : B) → read b (insert_key nat_eq ks p) ≡ fold g (read b ks) (at p)
    one_more ks p b = elim (cases_Bool (list_any (nat_eq p) ks)) [
      | inl on ↦ rw on (sym (no_change (at p) (read b ks) (read_at ks (read b ks) p (all_read ks b) on)))
      | inr off ↦ rw off (fold-append (λ c q. fold g c (at q)) b ks (p ∷ []))
    ]

    read_once : (ps ks : List ℕ) (b : B) → read b (insert_all nat_eq ks ps) ≡ read (read b ks) ps
    read_once [] ks b = refl
    read_once (p ∷ ps) ks b = read_once ps (insert_key nat_eq ks p) b ∙ ap (λ (c : B). read c ps) (one_more ks p b)

    -- ---- places that are read already

    both_read : (ps qs : List ℕ) (b : B) → Read b ps → Read b qs → Read b (ps ++ qs)
    both_read [] qs b h k = k
    both_read (p ∷ ps) qs b h k = (h.0, both_read ps qs b h.1 k)

    once_read : (ps ks : List ℕ) (b : B) → Read b ks → Read b ps → Read b (insert_all nat_eq ks ps)
    once_read [] ks b k h = k
    once_read (p ∷ ps) ks b k h = once_read ps (insert_key nat_eq ks p) b (elim (cases_Bool (list_any (nat_eq p) ks)) [ inl on ↦ rw on k | inr off ↦ rw off (both_read ks (p ∷ []) b k (h.0, tt)) ]) h.1

    back_read : (ps : List ℕ) (b : B) → Read b ps → Read b (reverse ps)
    back_read [] b h = tt
    back_read (p ∷ ps) b h = subst (λ (qs : List ℕ). Read b qs) (sym (reverse-append (p ∷ []) ps)) (both_read (reverse ps) (p ∷ []) b (back_read ps b h.1) (h.0, tt))

    read_twice : (ps qs : List ℕ) (b : B) → Read (read b ps) qs → read b (once ps ++ reverse (once qs)) ≡ read b ps
    read_twice ps qs b h =
        fold-append (λ c p. fold g c (at p)) b (once ps) (reverse (once qs)) ∙ ap (λ (c : B). read c (reverse (once qs))) (read_once ps [] b)
        ∙ nothing_new (reverse (once qs)) (read b ps) (back_read (once qs) (read b ps) (once_read qs [] (read b ps) tt h))

    pub fold-thinned : (b : B) (ps : List ℕ) → fold g b (flat_map at (thinned ps)) ≡ fold g b (flat_map at ps)
    fold-thinned b ps = elim (cases_Bool (eqb (length (once ps)) (length ps))) [
      | inl on ↦ rw on refl
      | inr off ↦ rw off (sym (fold-flat g at b (once ps ++ reverse (once (reverse ps)))) ∙ read_twice ps (reverse ps) b (back_read ps (read b ps) (all_read ps b)) ∙ fold-flat g at b ps)
    ]

    pub fold-thinned_back : (b : B) (ps : List ℕ) → fold g b (flat_map at (reverse (thinned ps))) ≡ fold g b (flat_map at (reverse ps))
    fold-thinned_back b ps = elim (cases_Bool (eqb (length (once ps)) (length ps))) [
      | inl on ↦ rw on refl
      | inr off ↦
          let back = reverse ps in
          let turned : reverse (once ps ++ reverse (once back)) ≡ once back ++ reverse (once ps) = reverse-append (once ps) (reverse (once back)) ∙ ap (λ (qs : List ℕ). qs ++ reverse (once ps)) (reverse_twice (once back)) in
          let all : Read (read b back) ps = subst (λ (qs : List ℕ). Read (read b back) qs) (reverse_twice ps) (back_read back (read b back) (all_read back b)) in
          rw off (ap (λ (qs : List ℕ). fold g b (flat_map at qs)) turned ∙ sym (fold-flat g at b (once back ++ reverse (once ps))) ∙ read_twice back ps b all ∙ fold-flat g at b back)
    ]

-- ---- what lines do to a result when they are taken again

abbrev has_name : Param → Param → Bool
has_name p q = is_same p.name q.name

earlier-once : (b : Option Line) (x : Line) → earlier (earlier b x) x ≡ earlier b x
earlier-once None x = elim (cases_Bool (ltb x.number x.number)) [ inl on ↦ rw on refl | inr off ↦ rw off refl ]
earlier-once (Some k) x = elim (cases_Bool (ltb x.number k.number)) [
  | inl on ↦ rw on (elim (cases_Bool (ltb x.number x.number)) [ inl on2 ↦ rw on2 refl | inr off ↦ rw off refl ])
  | inr off ↦ rw off (rw off refl)
]

earlier-still : (b : Option Line) (x y : Line) → earlier b x ≡ b → earlier (earlier b y) x ≡ earlier b y
earlier-still None x y h = absurd cc
earlier-still (Some k) x y h = elim (cases_Bool (ltb x.number k.number)) [
  | inl on ↦ let h2 = rw on at h in let same : x ≡ k = cc in let e : x.number ≡ k.number = ap (λ (l : Line). l.number) same in let no : ltb x.number k.number ≡ false = search (arith, nat_tests) in absurd (true≢false (sym on ∙ no))
  | inr off ↦ elim (cases_Bool (ltb y.number k.number)) [
    | inl on ↦ let lt : y.number ≤ x.number = grind (arith, nat_tests) in let no : ltb x.number y.number ≡ false = search (arith, nat_tests) in rw on (rw no refl)
    | inr off2 ↦ rw off2 (rw off refl)
  ]
]

module _ (test : Line → Bool) where
  pub earlier_if-once : (b : Option Line) (x : Line) → earlier_if test (earlier_if test b x) x ≡ earlier_if test b x
  earlier_if-once b x = elim (cases_Bool (test x)) [ inl on ↦ rw on (earlier-once b x) | inr off ↦ rw off refl ]

  pub earlier_if-still : (b : Option Line) (x y : Line) → earlier_if test b x ≡ b → earlier_if test (earlier_if test b y) x ≡ earlier_if test b y
  earlier_if-still b x y h = elim (cases_Bool (test x)) [
    | inl on ↦ let h2 = rw on at h in elim (cases_Bool (test y)) [ inl on2 ↦ rw (on, on2) (earlier-still b x y h2) | inr off ↦ rw (on, off) h2 ]
    | inr off ↦ rw off refl
  ]

pub with_default-once : (ps : List Param) (p : Param) → with_default (with_default ps p) p ≡ with_default ps p
unfolding with_default
with_default-once [] p = rw (same_laws.refl p.name) refl
with_default-once (q ∷ qs) p = elim (cases_Bool (has_name p q)) [
  | inl on ↦ rw on (rw on refl)
  | inr off ↦ rw off (rw off (ap (λ (rest : List Param). q ∷ rest) (with_default-once qs p)))
]

pub with_default-still : (ps : List Param) (p q : Param) → with_default ps p ≡ ps → with_default (with_default ps q) p ≡ with_default ps q
unfolding with_default
with_default-still [] p q h = absurd cc
with_default-still (r ∷ rs) p q h = elim (cases_Bool (has_name p r)) [
  | inl on ↦ elim (cases_Bool (has_name q r)) [ inl on2 ↦ rw on2 (rw on refl) | inr off ↦ rw off (rw on refl) ]
  | inr off ↦
      let h2 = rw off at h in let h3 : with_default rs p ≡ rs = cc in
      elim (cases_Bool (has_name q r)) [ inl on ↦ rw on (rw off (ap (λ (rest : List Param). r ∷ rest) h3)) | inr off2 ↦ rw off2 (rw off (ap (λ (rest : List Param). r ∷ rest) (with_default-still rs p q h3))) ]
]
