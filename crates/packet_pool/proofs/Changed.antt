-- What is found in a finite map after a change of it, and what is true of all that it has.
use Rattle.std.proofs.Common.{◌≡◌, ◌≢◌, ◌⊎◌, inl, inr, ℕ, ◌<◌, ◌≤◌, Bool, true, false, ◌||◌, ◌&&◌, not, cond, eqb, ltb, List, [], ◌∷◌, ◌++◌, map, Option, None, Some, is_some, refl, sym, ap, subst, ◌∙◌, arith, ⊎_elim, eqb-true, eq-eqb, ne_eqb, ltb-true}
use Rattle.std.specs.Option.{option_map}
use Rattle.std.specs.Ordering.{nat_cmp, eq_by_cmp, is_eq, is_lt}
use Rattle.std.specs.declared.cmp.Ordering.TheVariants.{Less, Equal, Greater}
use Rattle.std.specs.Cmp.{nat_cmp_total}
use Rattle.std.specs.List.{list_any, list_all}
use Rattle.std.specs.BTreeMap as tree
use Rattle.std.specs.BTreeMap.{BTreeMap, Updates}
use Rattle.std.specs.FinMap.{FinMap, get, insert, remove, entries, values, from_entries, get-entries, entries_sorted, get-from_entries, get-insert, get-remove, same_map, nat_cmp-IsAntisymmetric}
use Rattle.std.specs.FinMap.Entries.{find, is_sorted, below_all}
use Rattle.std.specs.Prelude.{T}
use Rattle.std.proofs.lemmas.Bool.{false≢true, cases_lt, cases_eq}
use Rattle.nd_base.specs.KeptMap.{get-kept}

-- ---- small facts

pub same_some : {A : Type 0} (x y : A) → Some x ≡ Some y → x ≡ y
same_some x y e = cc

pub none_some : {A : Type 0} (x : A) → None ≡ Some x → ⊥
none_some x e = cc

-- what a mapped value comes from
pub mapped_from : {A B : Type 0} (f : A → B) (o : Option A) (y : B) → option_map f o ≡ Some y → (x : A) × (o ≡ Some x) × (f x ≡ y)
mapped_from f None y e = cc
mapped_from f (Some x) y e = (x, refl, same_some (f x) y e)

pub is_some_of : {A : Type 0} (o : Option A) (x : A) → o ≡ Some x → is_some o ≡ true
is_some_of o x e = ap is_some e

pub some_of : {A : Type 0} (o : Option A) → is_some o ≡ true → (x : A) × (o ≡ Some x)
some_of None h = absurd (false≢true h)
some_of (Some x) h = (x, refl)

pub both_true : (a b : Bool) → (a && b) ≡ true → (a ≡ true) × (b ≡ true)
both_true true b e = (refl, e)
both_true false b e = absurd (false≢true e)

pub and_true : (a b : Bool) → a ≡ true → b ≡ true → (a && b) ≡ true
and_true a b p q = ap (λ x. x && b) p ∙ q

pub not_true : (b : Bool) → not b ≡ true → b ≡ false
not_true true e = absurd (false≢true e)
not_true false e = refl

pub true_or_false : (b : Bool) → (b ≡ true) ⊎ (b ≡ false)
true_or_false true = inl refl
true_or_false false = inr refl

-- ---- keys

-- a number ties with itself alone
tied : (less same : Bool) → (less ≡ true → same ≡ false) → is_eq (cond less Less (cond same Equal Greater)) ≡ same
tied true same h = sym (h refl)
tied false true h = refl
tied false false h = refl

ties : (q k : ℕ) → eq_by_cmp nat_cmp q k ≡ eqb q k
ties q k = tied (ltb q k) (eqb q k) (λ h. ne_eqb q k (λ e. omega (arith, ltb-true q k h)))

ties_self : (k : ℕ) → eq_by_cmp nat_cmp k k ≡ true
ties_self k = ties k k ∙ eq-eqb k k refl

ties_not : (q k : ℕ) → q ≢ k → eq_by_cmp nat_cmp q k ≡ false
ties_not q k ne = ties q k ∙ ne_eqb q k ne

is_less : (x y : ℕ) → is_lt (nat_cmp x y) ≡ true → x < y
is_less x y h = ltb-true x y (less_of (ltb x y) (eqb x y) h)
  where
    less_of : (less same : Bool) → is_lt (cond less Less (cond same Equal Greater)) ≡ true → less ≡ true
    less_of true same h = refl
    less_of false true h = absurd (false≢true h)
    less_of false false h = absurd (false≢true h)

module _ {X : Type 0} where
  pub insert_here : (m : FinMap nat_cmp X) (k : ℕ) (v : X) → get (insert m k v) k ≡ Some v
  insert_here m k v = get-insert nat_cmp_total m k v k ∙ ap (λ b. cond b (Some v) (get m k)) (ties_self k)

  pub insert_other : (m : FinMap nat_cmp X) (k : ℕ) (v : X) (q : ℕ) → q ≢ k → get (insert m k v) q ≡ get m q
  insert_other m k v q ne = get-insert nat_cmp_total m k v q ∙ ap (λ b. cond b (Some v) (get m q)) (ties_not q k ne)

  pub remove_here : (m : FinMap nat_cmp X) (k : ℕ) → get (remove m k) k ≡ None
  remove_here m k = get-remove nat_cmp_total m k k ∙ ap (λ b. cond b None (get m k)) (ties_self k)

  pub remove_other : (m : FinMap nat_cmp X) (k q : ℕ) → q ≢ k → get (remove m k) q ≡ get m q
  remove_other m k q ne = get-remove nat_cmp_total m k q ∙ ap (λ b. cond b None (get m q)) (ties_not q k ne)

  -- what is found after an insertion is what was put there, or was there before
  pub inserted : (m : FinMap nat_cmp X) (k : ℕ) (v : X) (q : ℕ) (x : X) → get (insert m k v) q ≡ Some x → ((q ≡ k) × (x ≡ v)) ⊎ ((q ≢ k) × (get m q ≡ Some x))
  inserted m k v q x e =
      ⊎_elim (λ (same : q ≡ k). let f : get (insert m k v) q ≡ Some v = ap (get (insert m k v)) same ∙ insert_here m k v in inl (same, same_some x v (sym e ∙ f)))
      (λ ne. inr (ne, sym (insert_other m k v q ne) ∙ e)) (cases_eq q k)

  -- what is found after a removal was there before, elsewhere
  pub removed : (m : FinMap nat_cmp X) (k q : ℕ) (x : X) → get (remove m k) q ≡ Some x → (q ≢ k) × (get m q ≡ Some x)
  removed m k q x e =
      ⊎_elim (λ (same : q ≡ k). let f : get (remove m k) q ≡ None = ap (get (remove m k)) same ∙ remove_here m k in absurd (none_some x (sym f ∙ e)))
      (λ ne. (ne, sym (remove_other m k q ne) ∙ e)) (cases_eq q k)

  -- ---- what is true of all entries is true of all that is found, and the other way round

  abbrev Found : List (ℕ × X) → ℕ → X → Type 0
  Found es k v = find nat_cmp k es ≡ Some v

  all_finds : (p : ℕ × X → Bool) (es : List (ℕ × X)) (k : ℕ) (v : X) → list_all p es ≡ true → Found es k v → p (k, v) ≡ true
  all_finds p [] k v all found = absurd (none_some v found)
  all_finds p (e ∷ es) k v all found =
      let parts = both_true (p e) (list_all p es) all in
      ⊎_elim (λ (same : k ≡ e.0).
      let here : Some e.1 ≡ Some v = sym (ap (λ b. cond b (Some e.1) (find nat_cmp k es)) (ap (λ (q : ℕ). eq_by_cmp nat_cmp q e.0) same ∙ ties_self e.0)) ∙ found in
      ap p (λ i. (same i, sym (same_some e.1 v here) i)) ∙ parts.0)
      (λ ne. all_finds p es k v parts.1 (sym (ap (λ b. cond b (Some e.1) (find nat_cmp k es)) (ties_not k e.0 ne)) ∙ found)) (cases_eq k e.0)

  -- below all keys nothing is found
  none_below : (x : ℕ) (es : List (ℕ × X)) → below_all nat_cmp x es ≡ true → find nat_cmp x es ≡ None
  none_below x [] h = refl
  none_below x (e ∷ es) h =
      let parts = both_true (is_lt (nat_cmp x e.0)) (below_all nat_cmp x es) h in
      let less = is_less x e.0 parts.0 in
      ap (λ b. cond b (Some e.1) (find nat_cmp x es)) (ties_not x e.0 (λ same. omega (arith, less, same))) ∙ none_below x es parts.1

  all_found : (p : ℕ × X → Bool) (es : List (ℕ × X)) → is_sorted nat_cmp es ≡ true → ((k : ℕ) (v : X) → Found es k v → p (k, v) ≡ true) → list_all p es ≡ true
  all_found p [] sorted each = refl
  all_found p (e ∷ es) sorted each =
      let parts = both_true (below_all nat_cmp e.0 es) (is_sorted nat_cmp es) sorted in
      and_true (p e) (list_all p es) (each e.0 e.1 (ap (λ b. cond b (Some e.1) (find nat_cmp e.0 es)) (ties_self e.0)))
      (all_found p es parts.1 (λ k v found.
      ⊎_elim (λ (same : k ≡ e.0). absurd (none_some v (sym (none_below e.0 es parts.0) ∙ ap (λ (q : ℕ). find nat_cmp q es) (sym same) ∙ found)))
      (λ ne. each k v (ap (λ b. cond b (Some e.1) (find nat_cmp k es)) (ties_not k e.0 ne) ∙ found)) (cases_eq k e.0)))

  -- the same of a map
  pub all_of : (p : ℕ × X → Bool) (m : FinMap nat_cmp X) → list_all p (entries m) ≡ true → (k : ℕ) (v : X) → get m k ≡ Some v → p (k, v) ≡ true
  all_of p m all k v found = all_finds p (entries m) k v all (sym (get-entries m k) ∙ found)

  pub all_if : (p : ℕ × X → Bool) (m : FinMap nat_cmp X) → ((k : ℕ) (v : X) → get m k ≡ Some v → p (k, v) ≡ true) → list_all p (entries m) ≡ true
  all_if p m each = all_found p (entries m) (sorted_is m) (λ k v found. each k v (get-entries m k ∙ found))
    where
      is_true : (b : Bool) → T b → b ≡ true
      is_true true h = refl
      is_true false h = absurd h

      sorted_is : (m : FinMap nat_cmp X) → is_sorted nat_cmp (entries m) ≡ true
      sorted_is m = is_true (is_sorted nat_cmp (entries m)) (entries_sorted m)

  -- a value that is found and passes a test is one of the map's that do
  any_finds : (p : X → Bool) (es : List (ℕ × X)) (k : ℕ) (v : X) → Found es k v → p v ≡ true → list_any p (map (λ e. e.1) es) ≡ true
  any_finds p [] k v found passes = absurd (none_some v found)
  any_finds p (e ∷ es) k v found passes =
      ⊎_elim (λ (same : k ≡ e.0).
      let here : e.1 ≡ v = same_some e.1 v (sym (ap (λ b. cond b (Some e.1) (find nat_cmp k es)) (ap (λ (q : ℕ). eq_by_cmp nat_cmp q e.0) same ∙ ties_self e.0)) ∙ found) in
      ap (λ b. b || list_any p (map (λ e. e.1) es)) (ap p here ∙ passes))
      (λ ne. or_true (p e.1) _ (any_finds p es k v (sym (ap (λ b. cond b (Some e.1) (find nat_cmp k es)) (ties_not k e.0 ne)) ∙ found) passes)) (cases_eq k e.0)
    where
      or_true : (a b : Bool) → b ≡ true → (a || b) ≡ true
      or_true true b h = refl
      or_true false b h = h

  pub any_of : (p : X → Bool) (m : FinMap nat_cmp X) (k : ℕ) (v : X) → get m k ≡ Some v → p v ≡ true → list_any p (values m) ≡ true
  any_of p m k v found passes = any_finds p (entries m) k v (sym (get-entries m k) ∙ found) passes

  none_any : (p : X → Bool) (es : List (ℕ × X)) → list_all (λ e. not (p e.1)) es ≡ true → list_any p (map (λ e. e.1) es) ≡ false
  none_any p [] h = refl
  none_any p (e ∷ es) h = let parts = both_true (not (p e.1)) (list_all (λ e. not (p e.1)) es) h in ap (λ b. b || list_any p (map (λ e. e.1) es)) (not_true (p e.1) parts.0) ∙ none_any p es parts.1

  pub none_of : (p : X → Bool) (m : FinMap nat_cmp X) → ((k : ℕ) (v : X) → get m k ≡ Some v → p v ≡ false) → list_any p (values m) ≡ false
  none_of p m each = none_any p (entries m) (all_if (λ e. not (p e.1)) m (λ k v found. ap not (each k v found)))

-- ---- a map whose values are seen by a function of them

module _ {X Y : Type 0} (f : X → Y) where
  abbrev seen : BTreeMap ℕ X → FinMap nat_cmp Y
  seen kept = from_entries (map (λ e. (e.0, f e.1)) kept.entries)

  find-map : (q : ℕ) (es : List (ℕ × X)) → find nat_cmp q (map (λ e. (e.0, f e.1)) es) ≡ option_map f (find nat_cmp q es)
  find-map q [] = refl
  find-map q (e ∷ es) =
      elim (eq_by_cmp nat_cmp q e.0) as (λ b. cond b (Some (f e.1)) (find nat_cmp q (map (λ e. (e.0, f e.1)) es)) ≡ option_map f (cond b (Some e.1) (find nat_cmp q es))) [
        | true ↦ refl
        | false ↦ find-map q es
      ]

  pub get-seen : (kept : BTreeMap ℕ X) (q : ℕ) → get (seen kept) q ≡ option_map f (tree.get nat_cmp kept q)
  get-seen kept q =
      get-from_entries nat_cmp_total (map (λ e. (e.0, f e.1)) kept.entries) q ∙ find-map q kept.entries
      ∙ ap (option_map f) (sym (get-from_entries nat_cmp_total kept.entries q) ∙ get-kept kept q)

-- what is found after an update
module _ {X : Type 0} (before after : BTreeMap ℕ X) (k : ℕ) (y : Option X) (updates : Updates nat_cmp before after k y) where
  pub update_here : tree.get nat_cmp after k ≡ y
  update_here = updates.0 k ∙ ap (λ b. cond b y (tree.get nat_cmp before k)) (ties_self k)

  pub update_other : (q : ℕ) → q ≢ k → tree.get nat_cmp after q ≡ tree.get nat_cmp before q
  update_other q ne = updates.0 q ∙ ap (λ b. cond b y (tree.get nat_cmp before q)) (ties_not k q (λ e. ne (sym e)))

  pub updated : (q : ℕ) (x : X) → tree.get nat_cmp after q ≡ Some x → ((q ≡ k) × (y ≡ Some x)) ⊎ ((q ≢ k) × (tree.get nat_cmp before q ≡ Some x))
  updated q x e =
      ⊎_elim (λ (same : q ≡ k). inl (same, sym update_here ∙ ap (tree.get nat_cmp after) (sym same) ∙ e))
      (λ ne. inr (ne, sym (update_other q ne) ∙ e)) (cases_eq q k)

module _ {X Y : Type 0} (f : X → Y) (before after : BTreeMap ℕ X) (k : ℕ) where
  look : (q : ℕ) → (get (seen f after) q ≡ option_map f (tree.get nat_cmp after q)) × (get (seen f before) q ≡ option_map f (tree.get nat_cmp before q))
  look q = (get-seen f after q, get-seen f before q)

  pub seen-insert : (x : X) → Updates nat_cmp before after k (Some x) → seen f after ≡ insert (seen f before) k (f x)
  seen-insert x updates =
      same_map nat_cmp_total nat_cmp-IsAntisymmetric _ _
      (λ q. ⊎_elim (λ (same : q ≡ k). (look q).0 ∙ ap (option_map f) (ap (tree.get nat_cmp after) same ∙ update_here before after k (Some x) updates) ∙ sym (ap (get (insert (seen f before) k (f x))) same ∙ insert_here (seen f before) k (f x)))
      (λ ne. (look q).0 ∙ ap (option_map f) (update_other before after k (Some x) updates q ne) ∙ sym (look q).1 ∙ sym (insert_other (seen f before) k (f x) q ne)) (cases_eq q k))

  pub seen-remove : Updates nat_cmp before after k None → seen f after ≡ remove (seen f before) k
  seen-remove updates =
      same_map nat_cmp_total nat_cmp-IsAntisymmetric _ _
      (λ q. ⊎_elim (λ (same : q ≡ k). (look q).0 ∙ ap (option_map f) (ap (tree.get nat_cmp after) same ∙ update_here before after k None updates) ∙ sym (ap (get (remove (seen f before) k)) same ∙ remove_here (seen f before) k))
      (λ ne. (look q).0 ∙ ap (option_map f) (update_other before after k None updates q ne) ∙ sym (look q).1 ∙ sym (remove_other (seen f before) k q ne)) (cases_eq q k))

  -- an update that is not seen
  pub seen_same : (old new : X) → Updates nat_cmp before after k (Some new) → tree.get nat_cmp before k ≡ Some old → f new ≡ f old → seen f after ≡ seen f before
  seen_same old new updates was same_f =
      same_map nat_cmp_total nat_cmp-IsAntisymmetric _ _
      (λ q. ⊎_elim (λ (same : q ≡ k). (look q).0 ∙ ap (option_map f) (ap (tree.get nat_cmp after) same ∙ update_here before after k (Some new) updates) ∙ ap Some same_f ∙ sym (ap (option_map f) (ap (tree.get nat_cmp before) same ∙ was)) ∙ sym (look q).1)
      (λ ne. (look q).0 ∙ ap (option_map f) (update_other before after k (Some new) updates q ne) ∙ sym (look q).1) (cases_eq q k))
