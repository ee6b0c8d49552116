-- The finite map that a map of std by numbers (`BTreeMap`) keeps: its look-up, its entries in order, and what each change of it makes of them.
use Rattle.std.proofs.Common.{◌≡◌, ℕ, cond, List, [], ◌∷◌, length, None, Some, refl, sym, ap, ◌∙◌, arith}
use Rattle.std.specs.BTreeMap as tree
use Rattle.std.specs.BTreeMap.{BTreeMap, Updates}
use Rattle.std.specs.Map.{lookup, keys_of}
use Rattle.std.specs.Ordering.{nat_cmp, eq_by_cmp}
use Rattle.std.specs.Cmp.{nat_cmp_total, eq_by_cmp_equiv}
use Rattle.std.specs.List.Sorted.{IsStrictlySortedBy}
use Rattle.std.specs.FinMap.{find, get, insert, remove, empty, entries, from_entries, get-from_entries, put, get-insert, get-remove, entries-insert, len-empty, len-entries, same_map, nat_cmp-IsAntisymmetric}
use Rattle.std.specs.FinMap.Entries.{by_order}
use Rattle.std.proofs.lemmas.Map.Keys.{sorted_head, sorted_tail}

-- one order of numbers finds what the other finds
find_is : {X : Type 0} (q : ℕ) (es : List (ℕ × X)) → find nat_cmp q es ≡ lookup (tree.is_at (nat_cmp q)) es
find_is q [] = refl
find_is q (e ∷ es) = ap (cond (eq_by_cmp nat_cmp q e.0) (Some e.1)) (find_is q es)

module _ {X : Type 0} where
  pub get-kept : (kept : BTreeMap ℕ X) (q : ℕ) → get (from_entries {R = nat_cmp} kept.entries) q ≡ tree.get nat_cmp kept q
  get-kept kept q = get-from_entries nat_cmp_total kept.entries q ∙ find_is q kept.entries

  pub kept-insert : (before after : BTreeMap ℕ X) (k : ℕ) (x : X) → Updates nat_cmp before after k (Some x) → from_entries {R = nat_cmp} after.entries ≡ insert (from_entries before.entries) k x
  kept-insert before after k x updates =
      same_map nat_cmp_total nat_cmp-IsAntisymmetric _ _
      (λ q.
      get-kept after q ∙ updates.0 q
      ∙ ap (λ b. cond b (Some x) (tree.get nat_cmp before q)) ((eq_by_cmp_equiv nat_cmp_total).symm k q)
      ∙ ap (cond (eq_by_cmp nat_cmp q k) (Some x)) (sym (get-kept before q))
      ∙ sym (get-insert nat_cmp_total (from_entries before.entries) k x q))

  pub kept-remove : (before after : BTreeMap ℕ X) (k : ℕ) → Updates nat_cmp before after k None → from_entries {R = nat_cmp} after.entries ≡ remove (from_entries before.entries) k
  kept-remove before after k updates =
      same_map nat_cmp_total nat_cmp-IsAntisymmetric _ _
      (λ q.
      get-kept after q ∙ updates.0 q
      ∙ ap (λ b. cond b None (tree.get nat_cmp before q)) ((eq_by_cmp_equiv nat_cmp_total).symm k q)
      ∙ ap (cond (eq_by_cmp nat_cmp q k) None) (sym (get-kept before q))
      ∙ sym (get-remove nat_cmp_total (from_entries before.entries) k q))

  no_entries : (es : List (ℕ × X)) → length es ≡ 0 → es ≡ []
  no_entries [] e = refl
  no_entries (x ∷ es) e = absurd (omega arith)

  put_first : (e : ℕ × X) (es : List (ℕ × X)) → IsStrictlySortedBy nat_cmp (keys_of (e ∷ es)) → put nat_cmp e.0 e.1 es ≡ e ∷ es
  put_first e [] sorted = refl
  put_first e (f ∷ es) sorted = let less = (sorted_head nat_cmp e.0 (keys_of (f ∷ es)) sorted).0 in ap (λ o. by_order o (e ∷ f ∷ es) ((f.0, e.1) ∷ es) (f ∷ put nat_cmp e.0 e.1 es)) less

  -- the entries in order are those of their map
  pub entries-kept : (es : List (ℕ × X)) → IsStrictlySortedBy nat_cmp (keys_of es) → entries (from_entries {R = nat_cmp} es) ≡ es
  entries-kept [] sorted = no_entries _ (sym (len-entries (empty {X = X} {R = nat_cmp})) ∙ len-empty nat_cmp X)
  entries-kept (e ∷ es) sorted =
      entries-insert nat_cmp_total (from_entries es) e.0 e.1
      ∙ ap (put nat_cmp e.0 e.1) (entries-kept es (sorted_tail nat_cmp e.0 (keys_of es) sorted))
      ∙ put_first e es sorted
